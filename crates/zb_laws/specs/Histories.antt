-- What follows of a report that fits a script: one legal history, in which each client's calls stand in their order.
use Rattle.std.specs.Prelude.{◌≡◌, ◌↔◌, ℕ, ◌<◌, ◌≤◌, Bool, true, false, not, List, [], ◌∷◌, ◌++◌, length, map, take, drop, Option, Some, None, ◌||◌, if◌then◌else◌}
use Rattle.std.specs.List.{flat_map, list_any, AllByRecursion, Contains}
use Rattle.zb_types.specs.declared.calls.Call.{Call}
use Rattle.zb_types.specs.declared.calls.Reply.{Reply}
use Rattle.zb_types.specs.declared.history.Did.{Did}
use Rattle.zb_types.specs.declared.history.Saw.{Saw}
use Rattle.zb_types.specs.declared.lines.Line.{Line}
use Rattle.zb_types.specs.declared.lines.Line.TheVariants.{Call as CallLine}
use Rattle.zb_types.specs.declared.lines.Said.TheVariants.{Reply as Replied}
use Rattle.zb_types.specs.declared.lines.Outcome.{Outcome}
use Rattle.zb_types.specs.declared.lines.Outcome.TheVariants.{Call as OfCall}
use Rattle.zb_types.specs.Apply.{is_update}
use Rattle.zb_types.specs.History.{IsLegal}
use Rattle.zb_claims.specs.Points.{calls, asked, call_of, is_of_client, is_begun, dids}
use Rattle.zb_claims.specs.Fits.{FitLines}

-- each front of a report that fits is one that fits
abbrev pub FrontFits : Type 0
FrontFits = (ordered : Bool) (script : List Line) (lines more : List Outcome) → FitLines ordered script (lines ++ more) → FitLines ordered script lines

-- The calls that are answered.

-- a read that is answered with this reply
abbrev pub read_if : ℕ → ℕ → Reply → Option Call → List Did
read_if client n reply None = []
read_if client n reply (Some call) = if is_update call then [] else record { client = client; number = n; call = call; reply = reply } ∷ []

-- the read that a line answers with a reply, if it does
abbrev pub read_of : List Line → Outcome → List Did
read_of script (OfCall client n (Replied reply)) = read_if client n reply (call_of script client n)
read_of script line = []

-- the reads that these lines answer with a reply, in the order of the report
abbrev pub reads : List Line → List Outcome → List Did
reads script lines = flat_map (read_of script) lines

-- a call of the script whose reply stands in a line
pub record IsAnswered (script : List Line) (lines : List Outcome) (did : Did) : Type 0 where
  pub call : call_of script did.client did.number ≡ Some did.call
  pub line : Contains lines (OfCall did.client did.number (Replied did.reply))

-- a read as it was answered, without what it saw
abbrev pub answer_of : Saw → Did
answer_of saw = record { client = saw.client; number = saw.number; call = saw.call; reply = saw.reply }

-- What a read sees.

-- of the client's own updates those that it called before, and no other
pub record SeesOwn (dids : List Did) (saw : Saw) : Type 0 where
  pub seen : AllByRecursion (λ did. did.client ≡ saw.client → did.number < saw.number) (take saw.seen dids)
  pub unseen : AllByRecursion (λ did. did.client ≡ saw.client → saw.number < did.number) (drop saw.seen dids)

-- the updates that stood at a point of the report: behind the begin of its script line and the last line of its client, and before its own line
pub record IsBetween (ordered : Bool) (script : List Line) (lines : List Outcome) (saw : Saw) : Type 0 where
  pub front : List Outcome
  pub rest : List Outcome
  pub after : List Outcome
  pub split : lines ≡ front ++ (rest ++ OfCall saw.client saw.number (Replied saw.reply) ∷ after)
  pub seen : saw.seen ≡ length (dids script front)
  pub place : ℕ
  pub plus : Bool
  pub is : asked script (calls saw.client) saw.number ≡ Some (place, CallLine plus saw.client saw.call)
  pub begun : (not ordered || is_begun script front place) ≡ true
  pub own : list_any (is_of_client saw.client) rest ≡ false
  pub at_once : ordered ≡ true → plus ≡ false → rest ≡ []

-- a client's later read sees what its earlier one saw
abbrev pub Grows : List Saw → Type 0
Grows [] = Unit {0}
Grows (saw ∷ saws) = AllByRecursion (λ later. later.client ≡ saw.client → saw.seen ≤ later.seen) saws × Grows saws

-- the history of a report: its updates are `dids script lines`
pub record OneHistory (ordered : Bool) (script : List Line) (lines : List Outcome) : Type 0 where
  pub saws : List Saw
  pub legal : IsLegal (dids script lines) saws
  pub answers : map answer_of saws ≡ reads script lines
  pub own : AllByRecursion (SeesOwn (dids script lines)) saws
  pub grows : Grows saws
  pub between : AllByRecursion (IsBetween ordered script lines) saws
  -- the updates, and the reads, are just the answered ones of the script
  pub exact_updates : (did : Did) → Contains (dids script lines) did ↔ (IsAnswered script lines did × (is_update did.call ≡ true))
  pub exact_reads : (did : Did) → Contains (reads script lines) did ↔ (IsAnswered script lines did × (is_update did.call ≡ false))

-- a report that fits tells one legal history of the calls that it answers
abbrev pub TellsLegal : Type 0
TellsLegal = (ordered : Bool) (script : List Line) (lines : List Outcome) → FitLines ordered script lines → OneHistory ordered script lines

-- the numbers of each client rise
abbrev pub Rises : List Did → Type 0
Rises [] = Unit {0}
Rises (did ∷ dids) = AllByRecursion (λ later. later.client ≡ did.client → did.number < later.number) dids × Rises dids

-- each client's updates, and its reads, are answered once and in its order
pub record IsInOrder (script : List Line) (lines : List Outcome) : Type 0 where
  pub updates_rise : Rises (dids script lines)
  pub reads_rise : Rises (reads script lines)

-- a report that fits answers each client's calls once and in its order
abbrev pub InOrder : Type 0
InOrder = (ordered : Bool) (script : List Line) (lines : List Outcome) → FitLines ordered script lines → IsInOrder script lines
