-- What a part of a run takes of the script and prints, and why it ends early.
use Rattle.std.specs.Prelude.{◌≡◌, ℕ, ◌≤◌, true, List, [], ◌++◌, take, Result, MatchResult, IsErrOf}
use Rattle.zb_types.specs.declared.lines.Outcome.{Outcome}
use Rattle.zb_claims.specs.Text.{report_text}
use Rattle.zb_outside.specs.Meaning.{Meaning}
use Rattle.zb_outside.specs.Streams.{Streams, Rose}
use Rattle.zb_course.specs.Seen.{SeenCourse}
use Rattle.zebra.specs.declared.ending.Halted.{Halted}
use Rattle.zebra.specs.declared.ending.Halted.TheVariants.{Memory, ReadFault, WriteFault}
use Rattle.zebra.specs.Pending.{Pending}

-- what was taken of a script, what is left of it, and what was printed
pub record Tape : Type 0 where
  pub taken : List ℕ
  pub left : List ℕ
  pub printed : List ℕ

-- what the streams and the meaning of an outside tell
abbrev pub tape : Streams → Meaning → Tape
tape streams m = record { taken = m.now.taken; left = streams.left; printed = m.now.printed }

-- since the start, these bytes were used, and those that are pending were taken
pub record IsRead (start : Tape) (front : List ℕ) (p : Pending) (now : Tape) : Type 0 where
  pub taken : now.taken ≡ start.taken ++ front ++ p.rest
  pub left : start.left ≡ front ++ p.rest ++ now.left
  pub ended : p.ended ≡ true → now.left ≡ []

-- since the start, these bytes were used, and some more may have been taken
pub record IsTaken (start : Tape) (front : List ℕ) (now : Tape) : Type 0 where
  pub rest : List ℕ
  pub taken : now.taken ≡ start.taken ++ front ++ rest
  pub left : start.left ≡ front ++ rest ++ now.left

-- whatever was read before, the pending bytes are those that were taken behind it
abbrev pub StillReads : {T E : Type 0} → Result T E → Pending → Pending → Tape → Tape → Type 0
StillReads result old new before after =
    (start : Tape) (front : List ℕ) → IsRead start front old before → MatchResult result (λ _. IsRead start front new after) (λ _. IsTaken start front after)

-- the text of these lines was printed since the start, and no text waits
pub record IsPrinted (start : List ℕ) (lines : List Outcome) (course : SeenCourse) (printed : List ℕ) : Type 0 where
  pub none : course.text ≡ []
  pub text : printed ≡ start ++ report_text lines

-- a front of the text of these lines was printed since the start
abbrev pub IsCut : List ℕ → List Outcome → List ℕ → Type 0
IsCut start lines printed = (k : ℕ) × (printed ≡ start ++ take k (report_text lines))

-- where a run breaks off, the text of all lines was printed, or a front of it where a write failed
abbrev pub PrintsUntil : Halted → List ℕ → List Outcome → List ℕ → Type 0
PrintsUntil Memory start lines printed = printed ≡ start ++ report_text lines
PrintsUntil ReadFault start lines printed = printed ≡ start ++ report_text lines
PrintsUntil WriteFault start lines printed = IsCut start lines printed

-- nothing was taken
pub record TakesNone (before after : Tape) : Type 0 where
  pub taken : after.taken ≡ before.taken
  pub left : after.left ≡ before.left

-- no count of faults fell, and that of the fault that is told rose
pub record HasCause {T : Type 0} (result : Result T Halted) (before after : Streams) : Type 0 where
  pub reads_later : before.read_faults ≤ after.read_faults
  pub writes_later : before.write_faults ≤ after.write_faults
  pub read : IsErrOf result ReadFault → Rose before.read_faults after.read_faults
  pub write : IsErrOf result WriteFault → Rose before.write_faults after.write_faults
