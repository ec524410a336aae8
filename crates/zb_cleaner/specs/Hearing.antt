-- What an answer makes of the cleaner, kind by kind.
use Rattle.std.specs.Prelude.{◌≡◌, ℕ, Option, Some, None}
use Rattle.zb_types.specs.declared.ids.ServerId.{ServerId}
use Rattle.zb_types.specs.declared.lines.Ended.TheVariants.{Retired as IsRetired}
use Rattle.zb_types.specs.declared.nodes.Cause.TheVariants.{Down as IsDown}
use Rattle.zb_pass.specs.declared.work.Cleaning.{Cleaning}
use Rattle.zb_pass.specs.declared.work.Target.{Target}
use Rattle.zb_pass.specs.declared.work.Work.{Work}
use Rattle.zb_pass.specs.declared.work.Work.TheVariants.{Lookup, Fetch, Store, Mark, Commit, Retire, Sweep, Delete}
use Rattle.zb_pass.specs.Going.{Onward, CannotGo, GoesOn, PickGives, ServerGives, ServerWears, end_of, ends, fails, retires, unmarked, with_members, works}
use Rattle.zb_pass.specs.Seen.{SeenWriter}
use Rattle.zb_cleaner.specs.declared.steps.Answer.{Answer}
use Rattle.zb_cleaner.specs.declared.steps.Answer.TheVariants as answer
use Rattle.zb_cleaner.specs.Seen.{SeenCleaner, Heard, heard_of}

-- a pick begins a pass
pub record Begins (w : SeenWriter) (on : Onward) (P : Work → Type 0) : Type 0 where
  pub work : Work
  pub gives : P work
  pub is : on ≡ works w work

-- a pick is answered
abbrev pub HearsPick : SeenWriter → Answer → Onward → Type 0
HearsPick w (answer.Picked status live) on = Begins w on (PickGives w status live)
HearsPick w other on = on ≡ fails w IsDown

-- a lookup is answered
abbrev pub HearsLookup : SeenWriter → Cleaning → Answer → Onward → Type 0
HearsLookup w cleaning (answer.Seen members) on = GoesOn w (with_members cleaning members) on
HearsLookup w cleaning other on = on ≡ fails w IsDown

-- a request is answered
abbrev pub HearsServer : SeenWriter → Work → Answer → Onward → Type 0
HearsServer w work (answer.Server response serving) on = ServerGives w work response serving on
HearsServer w work other on = ⊥

-- a mark is answered
abbrev pub HearsMark : SeenWriter → Cleaning → ServerId → Answer → Onward → Type 0
HearsMark w cleaning server answer.Marked on = on ≡ works w (Lookup cleaning)
HearsMark w cleaning server (answer.NotMarked fault) on = on ≡ ends w (unmarked server fault)
HearsMark w cleaning server other on = on ≡ fails w IsDown

-- a commit is answered
abbrev pub HearsCommit : SeenWriter → Cleaning → Answer → Onward → Type 0
HearsCommit w cleaning (answer.Committed copied rejected) on = on ≡ works w (Retire cleaning.target copied rejected)
HearsCommit w cleaning (answer.NotCommitted fault) on = on ≡ works w (Lookup cleaning)
HearsCommit w cleaning other on = on ≡ fails w IsDown

-- a retire is answered
abbrev pub HearsRetire : SeenWriter → Target → ℕ → ℕ → Answer → Onward → Type 0
HearsRetire w target copied rejected (answer.Retired status) on = on ≡ works w (retires target copied rejected IsRetired status)
HearsRetire w target copied rejected (answer.NotRetired fault status) on = on ≡ works w (retires target copied rejected (end_of fault) status)
HearsRetire w target copied rejected other on = on ≡ fails w IsDown

-- the wish of some work is answered
abbrev pub HearsWork : SeenWriter → Work → Answer → Onward → Type 0
HearsWork w (Lookup cleaning) a on = HearsLookup w cleaning a on
HearsWork w (Fetch cleaning plan) a on = HearsServer w (Fetch cleaning plan) a on
HearsWork w (Store cleaning formed) a on = HearsServer w (Store cleaning formed) a on
HearsWork w (Mark cleaning server generation) a on = HearsMark w cleaning server a on
HearsWork w (Commit cleaning sealed) a on = HearsCommit w cleaning a on
HearsWork w (Retire target copied rejected) a on = HearsRetire w target copied rejected a on
HearsWork w (Sweep sweep after) a on = HearsServer w (Sweep sweep after) a on
HearsWork w (Delete sweep left again) a on = HearsServer w (Delete sweep left again) a on

-- the wish that stands is answered
abbrev pub HearsAt : SeenWriter → Option Work → Answer → Onward → Type 0
HearsAt w None a on = HearsPick w a on
HearsAt w (Some work) a on = HearsWork w work a on

-- what an answer to the wish that stands makes of the cleaner, and what it tells
pub record Hears (c : SeenCleaner) (a : Answer) (heard : Heard) : Type 0 where
  pub on : Onward
  pub gives : HearsAt c.writer c.work a on
  pub is : heard ≡ heard_of c on

-- A worn log.

-- with this answer to the wish of some work all blocks have come, and their batch cannot go
abbrev pub WearsWork : SeenWriter → Work → Answer → Type 0
WearsWork w (Lookup cleaning) (answer.Seen members) = CannotGo w (with_members cleaning members)
WearsWork w work (answer.Server response serving) = ServerWears w work response
WearsWork w work other = ⊥

-- with this answer the batch of a pass cannot go
abbrev pub WearsAt : SeenWriter → Option Work → Answer → Type 0
WearsAt w None a = ⊥
WearsAt w (Some work) a = WearsWork w work a

-- with this answer the batch of the pass at work cannot go
abbrev pub Wears : SeenCleaner → Answer → Type 0
Wears c a = WearsAt c.writer c.work a
