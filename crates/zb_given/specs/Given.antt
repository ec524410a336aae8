-- What a world was given, and when its lines fit that. No script is named here: only a program knows it.
use Rattle.std.specs.Prelude.{ℕ, zero, suc, ◌≤◌, true, false, List, [], ◌∷◌, ◌++◌, length, map, Option, Some, None, ◌==◌, nat_le, if◌then◌else◌}
use Rattle.std.specs.List.{list_any, flat_map, AllByRecursion}
use Rattle.zb_types.specs.declared.calls.Call.{Call}
use Rattle.zb_types.specs.declared.lines.Line.{Line}
use Rattle.zb_types.specs.declared.lines.Line.TheVariants.{Call as CallLine, Job as JobLine, Steps, StepTo, Event as EventLine}
use Rattle.zb_types.specs.declared.lines.Outcome.{Outcome}
use Rattle.zb_claims.specs.Points.{calls, asked}
use Rattle.zb_claims.specs.Fits.{Clock, FitsBy}

-- A call, a job or an event, and its point: how many lines stood when it was given. A call or a job has a plus, since a
-- world only puts it into a queue.
pub record Item : Type 0 where
  pub line : Line
  pub at : ℕ

-- items in their order, and how many lines stood at each finish
pub record Given : Type 0 where
  pub items : List Item
  pub finishes : List ℕ

-- nothing was given
abbrev pub none_given : Given
none_given = record { items = []; finishes = [] }

-- one item more, given where so many lines stand
abbrev pub with_item : Given → Line → ℕ → Given
with_item given line at = record { items = given.items ++ record { line = line; at = at } ∷ []; finishes = given.finishes }

-- a finish more
abbrev pub with_finish : Given → ℕ → Given
with_finish given at = record { items = given.items; finishes = given.finishes ++ at ∷ [] }

-- the items as lines of a script
abbrev pub script_of : Given → List Line
script_of given = map (λ item. item.line) given.items

-- the point of the item at this place
abbrev pub point : List Item → ℕ → ℕ
point [] place = 0
point (item ∷ items) zero = item.at
point (item ∷ items) (suc place) = point items place

-- the place that was found
abbrev pub place_in : Option (ℕ × Line) → ℕ
place_in None = 0
place_in (Some found) = found.0

-- the place of call n of this client among the items
abbrev pub place_of : Given → ℕ → ℕ → ℕ
place_of given client n = place_in (asked (script_of given) (calls client) n)

-- its point
abbrev pub point_of : Given → ℕ → ℕ → ℕ
point_of given client n = point given.items (place_of given client n)

-- the call of a line, if it is of this client
abbrev pub call_by : ℕ → Line → List Call
call_by client (CallLine plus c call) = if client == c then call ∷ [] else []
call_by client (JobLine plus job) = []
call_by client (Steps actor count) = []
call_by client (StepTo actor kind) = []
call_by client (EventLine event) = []

-- the calls of this client that were given, in order
abbrev pub calls_of : Given → ℕ → List Call
calls_of given client = flat_map (λ item. call_by client item.line) given.items

-- by what was given a line is begun once its item is given, and all are once a finish began
abbrev pub clock_of_given : Given → Clock
clock_of_given given = record {
  ordered = true;
  at_once = false;
  begun = λ front place. nat_le (point given.items place) (length front);
  over = λ front. list_any (λ at. nat_le at (length front)) given.finishes;
}

-- what a sound world keeps of its lines: each fits those before it and what was given by then
pub record FitGiven (given : Given) (lines : List Outcome) : Type 0 where
  pub fits : FitsBy (clock_of_given given) (script_of given) lines
  pub stood : AllByRecursion (λ item. item.at ≤ length lines) given.items
