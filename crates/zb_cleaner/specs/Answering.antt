-- What may answer the wish of the cleaner.
use Rattle.std.specs.Prelude.{◌≡◌, ℕ, ◌<◌, true, Option, Some, None}
use Rattle.std.specs.List.{AllByRecursion}
use Rattle.zb_types.specs.declared.tables.CommitFault.{CommitFault}
use Rattle.zb_types.specs.declared.tables.CommitFault.TheVariants as commit_fault
use Rattle.zb_types.specs.declared.tables.MarkFault.{MarkFault}
use Rattle.zb_types.specs.declared.tables.MarkFault.TheVariants as mark_fault
use Rattle.zb_types.specs.declared.tables.RetireFault.{RetireFault}
use Rattle.zb_types.specs.declared.tables.RetireFault.TheVariants as retire_fault
use Rattle.zb_basis.specs.Looking.{room_of}
use Rattle.zb_steps.specs.Serving.{brings_bytes}
use Rattle.zb_pass.specs.declared.work.Work.{Work}
use Rattle.zb_pass.specs.declared.work.Work.TheVariants.{Lookup, Mark, Commit, Retire}
use Rattle.zb_pass.specs.Copying.{IsBlock}
use Rattle.zb_pass.specs.Seen.{SeenWriter}
use Rattle.zb_pass.specs.Serving.{CanServe}
use Rattle.zb_cleaner.specs.declared.steps.Answer.{Answer}
use Rattle.zb_cleaner.specs.declared.steps.Answer.TheVariants as answer
use Rattle.zb_cleaner.specs.Seen.{SeenCleaner}

-- only another server that doesn't serve keeps one from being marked
abbrev pub IsRefusal : ℕ → MarkFault → Type 0
IsRefusal server (mark_fault.Refused other) = other.0 ≡ server → ⊥
IsRefusal server mark_fault.Worn = ⊥

-- a batch of the cleaner is behind the members alone, since it names no version that was seen
abbrev pub IsOutdated : CommitFault → Type 0
IsOutdated (commit_fault.Regen seen now) = Unit {0}
IsOutdated fault = ⊥

-- a stripe is kept while a server mends, or while an entry since the checkpoint names it
abbrev pub IsKept : RetireFault → Type 0
IsKept (retire_fault.Mending server) = Unit {0}
IsKept (retire_fault.Needed entry) = Unit {0}
IsKept fault = ⊥

-- what may answer a pick: the pointers are to blocks within the room of a stripe
abbrev pub AnswersPick : SeenWriter → Answer → Type 0
AnswersPick w (answer.Picked status live) = AllByRecursion (IsBlock (room_of w.servers w.fragment) w.block) live
AnswersPick w answer.Down = Unit {0}
AnswersPick w answer.Doubt = Unit {0}
AnswersPick w other = ⊥

-- what may answer the wish of some work
abbrev pub AnswersWork : Work → Answer → Type 0
AnswersWork work (answer.Server response serving) = CanServe work response
AnswersWork (Lookup cleaning) (answer.Seen members) = Unit {0}
AnswersWork (Lookup cleaning) answer.Down = Unit {0}
AnswersWork (Lookup cleaning) answer.Doubt = Unit {0}
AnswersWork (Mark cleaning server generation) answer.Marked = Unit {0}
AnswersWork (Mark cleaning server generation) (answer.NotMarked fault) = IsRefusal server.0 fault
AnswersWork (Mark cleaning server generation) answer.Down = Unit {0}
AnswersWork (Mark cleaning server generation) answer.Doubt = Unit {0}
AnswersWork (Commit cleaning sealed) (answer.Committed copied rejected) = Unit {0}
AnswersWork (Commit cleaning sealed) (answer.NotCommitted fault) = IsOutdated fault
AnswersWork (Commit cleaning sealed) answer.Down = Unit {0}
AnswersWork (Commit cleaning sealed) answer.Doubt = Unit {0}
AnswersWork (Retire target copied rejected) (answer.Retired status) = Unit {0}
AnswersWork (Retire target copied rejected) (answer.NotRetired fault status) = IsKept fault
AnswersWork (Retire target copied rejected) answer.Down = Unit {0}
AnswersWork (Retire target copied rejected) answer.Doubt = Unit {0}
AnswersWork work other = ⊥

-- what may answer the wish that stands
abbrev pub AnswersAt : SeenWriter → ℕ → Option Work → Answer → Type 0
AnswersAt w jobs None a = (0 < jobs) × AnswersPick w a
AnswersAt w jobs (Some work) a = AnswersWork work a

-- this may answer the wish that stands
abbrev pub Answers : SeenCleaner → Answer → Type 0
Answers c a = AnswersAt c.writer c.jobs c.work a

-- memory may be wanting for a pick, for what a lookup showed, and for bytes that a fetch brought
abbrev pub MayWantMemory : Answer → Type 0
MayWantMemory (answer.Picked status live) = Unit {0}
MayWantMemory (answer.Seen members) = Unit {0}
MayWantMemory (answer.Server response serving) = brings_bytes response ≡ true
MayWantMemory other = ⊥
