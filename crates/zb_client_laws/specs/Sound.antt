-- What is true of a client in a sound world.
use Rattle.std.specs.Prelude.{◌≡◌, ℕ, ◌+◌, ◌==◌, if◌then◌else◌, List, slice_get, Some, None}
use Rattle.zb_types.specs.Tree.{Tree}
use Rattle.zb_sound.specs.OldStripes.{CopiesAreCurrent}
use Rattle.zb_basis.specs.Runs.{run_of}
use Rattle.zb_forming_laws.specs.Resting.{AreShort}
use Rattle.zb_work.specs.Blocks.{next_missing}
use Rattle.zb_work.specs.declared.work.Step.{Step}
use Rattle.zb_work.specs.declared.work.Step.TheVariants as step
use Rattle.zb_work.specs.Steps.{step_of}
use Rattle.zb_client.specs.Seen.{SeenClient}
use Rattle.zb_client_laws.specs.Around.{Around}
use Rattle.zb_client_laws.specs.Known.{HasSizes}
use Rattle.zb_client_laws.specs.Logging.{LogIsAtWork}
use Rattle.zb_client_laws.specs.Current.{BatchIsCurrent, IsReading, WorkIsCurrent}

-- what the step at hand rests on is current, and no block that a formed batch wants is missing; no server is to be marked, since none stops
abbrev pub StepIsCurrent : Around → Tree → SeenClient → Step → Type 0
StepIsCurrent w seen c step.Lookup = Unit {0}
StepIsCurrent w seen c (step.Fetch basis at ptr plan) =
    WorkIsCurrent w.z.block w.contents w.tables seen c.kept c.queue basis × IsReading w.z w.contents w.st.maps w.tables.held ptr plan
StepIsCurrent w seen c (step.Store basis formed) = BatchIsCurrent w.z.block w.contents w.tables (run_of c.kept) basis × (next_missing basis.fetched ≡ None)
StepIsCurrent w seen c (step.Mark server generation) = ⊥
StepIsCurrent w seen c (step.Commit basis sealed) = BatchIsCurrent w.z.block w.contents w.tables (run_of c.kept) basis × (next_missing basis.fetched ≡ None)

-- A client in a sound world: its log is the one of the tables, with what stands of its last flush; what it has looked up,
-- fetched and cached is current, a read's lookup being of the tree `seen`; and no batch of it is in doubt.
pub record ClientIsSound (w : Around) (seen : Tree) (c : SeenClient) : Type 0 where
  pub sizes : HasSizes w.z c
  pub settled : c.doubted ≡ 0
  pub short : AreShort c.kept
  pub short_queue : AreShort c.queue
  pub log : LogIsAtWork w c
  pub step : StepIsCurrent w seen c (step_of c.task)
  pub cached : CopiesAreCurrent w.contents w.tables.held c.cache.entries

-- each client of a system is sound, its lookup for a read being of its tree among these; clients are numbered from 1
abbrev pub ClientsAreSound : Around → (ℕ → Tree) → List SeenClient → Type 0
ClientsAreSound w seen clients = (i : ℕ) (c : SeenClient) → slice_get clients i ≡ Some c → ClientIsSound w (seen i) c × (c.client ≡ i + 1)

-- the trees with another one for this client
abbrev pub with_seen : (ℕ → Tree) → ℕ → Tree → ℕ → Tree
with_seen seen i tree j = if j == i then tree else seen j
