-- A client that isn't reading is sound with any tree.
use Rattle.std.proofs.Common.{◌≡◌, ℕ, true, false, List, [], ◌∷◌, refl, sym, ◌∙◌}
use Rattle.std.proofs.lemmas.Bool.{false≢true}
use Rattle.zb_types.specs.Tree.{Tree}
use Rattle.zb_tables.specs.Tables.{Contents, Tables}
use Rattle.zb_basis.specs.declared.basis.Basis.{Basis}
use Rattle.zb_basis.specs.declared.calls.Numbered.{Numbered}
use Rattle.zb_work.specs.declared.work.Step.{Step}
use Rattle.zb_work.specs.declared.work.Step.TheVariants as step
use Rattle.zb_work.specs.Steps.{step_of}
use Rattle.zb_client.specs.Seen.{SeenClient}
use Rattle.zb_client_laws.specs.Around.{Around}
use Rattle.zb_client_laws.specs.Current.{WorkIsCurrent}
use Rattle.zb_client_laws.specs.Sound.{ClientIsSound, StepIsCurrent}
use Rattle.zb_system.specs.Looking.{is_fetch, is_reading, reads_with}

work_any : (b : ℕ) (contents : Contents) (t : Tables) (one other : Tree) (kept queue : List Numbered) (basis : Basis) (fetch : Step) → is_fetch fetch ≡ true → reads_with kept fetch ≡ false
    → WorkIsCurrent b contents t one kept queue basis → WorkIsCurrent b contents t other kept queue basis
work_any b contents t one other [] queue basis fetch is none h = absurd (false≢true (sym none ∙ is))
work_any b contents t one other (first ∷ others) queue basis fetch is none h = h

step_any : (w : Around) (one other : Tree) (c : SeenClient) (st : Step) → reads_with c.kept st ≡ false → StepIsCurrent w one c st → StepIsCurrent w other c st
step_any w one other c step.Lookup none h = h
step_any w one other c (step.Fetch basis at ptr plan) none h = (work_any w.z.block w.contents w.tables one other c.kept c.queue basis (step.Fetch basis at ptr plan) refl none h.0, h.1)
step_any w one other c (step.Store basis formed) none h = h
step_any w one other c (step.Mark server generation) none h = h
step_any w one other c (step.Commit basis sealed) none h = h

pub any_tree : (w : Around) (one other : Tree) (c : SeenClient) → is_reading c ≡ false → ClientIsSound w one c → ClientIsSound w other c
any_tree w one other c none s = record {
  sizes = s.sizes;
  settled = s.settled;
  short = s.short;
  short_queue = s.short_queue;
  log = s.log;
  step = step_any w one other c (step_of c.task) none s.step;
  cached = s.cached;
}
