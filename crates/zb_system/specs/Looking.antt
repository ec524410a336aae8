-- The read that a client has looked up, and the tree that it sees.
use Rattle.std.specs.Prelude.{◌≡◌, ℕ, Bool, true, false, List, [], ◌∷◌, Option, Some, None}
use Rattle.zb_types.specs.declared.lines.Outcome.{Outcome}
use Rattle.zb_types.specs.Tree.{Tree}
use Rattle.zb_claims.specs.Points.{tree_at}
use Rattle.zb_given.specs.Given.{Given, script_of}
use Rattle.zb_given.specs.Calls.{LookedUp, IsLookedUp}
use Rattle.zb_given.specs.Telling.{seen_by}
use Rattle.zb_basis.specs.declared.calls.Numbered.{Numbered}
use Rattle.zb_work.specs.declared.work.Step.{Step}
use Rattle.zb_work.specs.declared.work.Step.TheVariants.{Lookup, Fetch, Store, Mark, Commit}
use Rattle.zb_work.specs.Steps.{step_of}
use Rattle.zb_client.specs.Seen.{SeenClient}

-- does a step read a block?
abbrev pub is_fetch : Step → Bool
is_fetch (Fetch basis at ptr plan) = true
is_fetch Lookup = false
is_fetch (Store basis formed) = false
is_fetch (Mark server generation) = false
is_fetch (Commit basis sealed) = false

-- is it for a read where no call is kept?
abbrev pub reads_with : List Numbered → Step → Bool
reads_with [] step = is_fetch step
reads_with (first ∷ others) step = false

-- does a client read blocks for its first queued call, which was looked up?
abbrev pub is_reading : SeenClient → Bool
is_reading c = reads_with c.kept (step_of c.task)

-- the first of these calls was looked up so
abbrev pub FirstIsLookedUp : Given → List Outcome → ℕ → LookedUp → List Numbered → Type 0
FirstIsLookedUp given lines client read [] = ⊥
FirstIsLookedUp given lines client read (first ∷ others) = (read.number ≡ first.number) × IsLookedUp given lines client read first.call

-- what a client has looked up for a read: its first queued call, while it reads blocks for that, and else nothing
abbrev pub HasLookedUp : Given → List Outcome → SeenClient → Option LookedUp → Type 0
HasLookedUp given lines c None = is_reading c ≡ false
HasLookedUp given lines c (Some read) = (is_reading c ≡ true) × FirstIsLookedUp given lines c.client read c.queue

-- the tree that a client sees: that of its lookup for a read, or else that of now
abbrev pub tree_for : Given → List Outcome → Option LookedUp → Tree
tree_for given lines read = tree_at (script_of given) (seen_by read lines)
