-- What a turn of the file manager makes of the work.
use Rattle.std.specs.Prelude.{Option, Some, None}
use Rattle.zb_types.specs.declared.lines.Ended.TheVariants.{Retired as IsRetired}
use Rattle.zb_types.specs.declared.lines.Pass.TheVariants.{Failed}
use Rattle.zb_types.specs.declared.nodes.Cause.TheVariants.{Down as IsDown}
use Rattle.zb_pass.specs.declared.work.Cleaning.{Cleaning}
use Rattle.zb_pass.specs.declared.work.Next.{Next}
use Rattle.zb_pass.specs.declared.work.Next.TheVariants as next
use Rattle.zb_pass.specs.declared.work.Work.{Work}
use Rattle.zb_pass.specs.declared.work.Work.TheVariants.{Lookup}
use Rattle.zb_pass.specs.Going.{end_of}
use Rattle.zb_pass.specs.Turning.{committed, looks, refused, retired}
use Rattle.zb_cleaner.specs.declared.steps.Answer.{Answer}
use Rattle.zb_cleaner.specs.declared.steps.Answer.TheVariants as answer

-- the pass can't go on, since the file manager is down
abbrev pub gone_down : Next
gone_down = next.End (Failed IsDown)

-- what a turn makes of some work
abbrev pub turned_work : Work → Answer → Next
turned_work work answer.Marked = next.Work (looks work)
turned_work work (answer.NotMarked fault) = next.End (refused fault work)
turned_work work (answer.Committed copied rejected) = next.Work (committed copied rejected work)
turned_work work (answer.NotCommitted fault) = next.Work (looks work)
turned_work work (answer.Retired status) = next.Work (retired IsRetired status work)
turned_work work (answer.NotRetired fault status) = next.Work (retired (end_of fault) status work)
turned_work work other = gone_down

-- what a turn makes of the work, if there is any
abbrev pub turned : Option Work → Answer → Next
turned None a = gone_down
turned (Some work) a = turned_work work a

-- an answer of a turn that takes no memory
abbrev pub IsTurn : Answer → Type 0
IsTurn (answer.Picked status live) = ⊥
IsTurn (answer.Server response serving) = ⊥
IsTurn (answer.Seen members) = ⊥
IsTurn other = Unit {0}

-- what is looked up anew, where a lookup stands
abbrev pub looked_for : Option Work → Option Cleaning
looked_for (Some (Lookup cleaning)) = Some cleaning
looked_for other = None
