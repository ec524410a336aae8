-- Which of the calls, jobs and events that were given have their lines.
use Rattle.std.specs.Prelude.{◌≡◌, ◌↔◌, ℕ, suc, ◌≤◌, Bool, true, false, List, [], ◌∷◌, ◌++◌, length, take, ◌&&◌}
use Rattle.std.specs.List.{AllByRecursion}
use Rattle.zb_types.specs.declared.lines.Line.{Line}
use Rattle.zb_types.specs.declared.lines.Line.TheVariants.{Call as CallLine, Job as JobLine, Steps, StepTo, Event as EventLine}
use Rattle.zb_types.specs.declared.lines.Outcome.{Outcome}
use Rattle.zb_claims.specs.Points.{Subject, calls, asked_of, subject_asked, has_told, all_met}
use Rattle.zb_claims.specs.Runs.{has_ended, all_ended}
use Rattle.zb_given.specs.Given.{Item, Given, with_item, script_of}

-- Each that was given of this subject has its line, a call its first. So it is with the calls of a client that is idle.
abbrev pub HaveLines : Given → List Outcome → Subject → Type 0
HaveLines given lines subject = (n : ℕ) → 1 ≤ n → n ≤ asked_of subject (script_of given) → has_told lines subject n ≡ true

-- each has its last line, a call its final one
abbrev pub HaveLastLines : Given → List Outcome → Subject → Type 0
HaveLastLines given lines subject = (n : ℕ) → 1 ≤ n → n ≤ asked_of subject (script_of given) → has_ended lines subject n ≡ true

-- each of these lines of a script has its line, a call its first
abbrev pub all_told : List Outcome → List Line → Bool
all_told lines script = all_met subject_asked (has_told lines) [] script

-- each of these items, the first of which stands at this place, was given where each before it had its line
abbrev pub are_in_turn : List Line → List Outcome → ℕ → List Item → Bool
are_in_turn script lines place [] = true
are_in_turn script lines place (item ∷ items) = all_told (take item.at lines) (take place script) && are_in_turn script lines (suc place) items

-- so were all: one came after the other
abbrev pub IsInTurn : Given → List Outcome → Type 0
IsInTurn given lines = are_in_turn (script_of given) lines 0 given.items ≡ true

-- a call
abbrev pub is_call : Line → Bool
is_call (CallLine plus client call) = true
is_call (JobLine plus job) = false
is_call (Steps actor count) = false
is_call (StepTo actor kind) = false
is_call (EventLine event) = false

-- what is so with the calls of each client is so with each subject
abbrev pub OfClients : (Subject → Type 0) → Type 0
OfClients P = ((client : ℕ) → P (calls client)) → (subject : Subject) → P subject

-- Laws.

-- all have their lines where those of each subject have
abbrev pub AllTold : Type 0
AllTold = (given : Given) (lines : List Outcome) → (all_told lines (script_of given) ≡ true) ↔ ((subject : Subject) → HaveLines given lines subject)

-- so it is with their last lines
abbrev pub AllEnded : Type 0
AllEnded = (given : Given) (lines : List Outcome) → (all_ended lines [] (script_of given) ≡ true) ↔ ((subject : Subject) → HaveLastLines given lines subject)

-- where all items are calls, it is enough to know of the clients
abbrev pub OnlyCalls : Type 0
OnlyCalls = (given : Given) (lines : List Outcome) → AllByRecursion (λ item. is_call item.line ≡ true) given.items → OfClients (HaveLines given lines) × OfClients (HaveLastLines given lines)

-- one more is in turn just where all before it have their lines
abbrev pub TurnsOn : Type 0
TurnsOn = (given : Given) (lines : List Outcome) (line : Line) → IsInTurn (with_item given line (length lines)) lines ↔ (IsInTurn given lines × (all_told lines (script_of given) ≡ true))

-- more lines change nothing of that
abbrev pub TurnsStay : Type 0
TurnsStay = (given : Given) (lines more : List Outcome) → AllByRecursion (λ item. item.at ≤ length lines) given.items → IsInTurn given (lines ++ more) ↔ IsInTurn given lines
