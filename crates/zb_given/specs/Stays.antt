-- What stays of what a world knows, where more is given or more lines are told.
use Rattle.std.specs.Prelude.{◌≡◌, ℕ, suc, ◌≤◌, ◌<◌, true, false, List, [], ◌∷◌, ◌++◌, length, take, Option, Some, slice_get}
use Rattle.std.specs.List.{list_any}
use Rattle.zb_types.specs.declared.calls.Call.{Call}
use Rattle.zb_types.specs.declared.nodes.Node.TheVariants.{Manager}
use Rattle.zb_types.specs.declared.lines.Line.{Line}
use Rattle.zb_types.specs.declared.lines.Line.TheVariants.{Call as CallLine}
use Rattle.zb_types.specs.declared.lines.Said.{Said}
use Rattle.zb_types.specs.declared.lines.Outcome.{Outcome}
use Rattle.zb_types.specs.declared.lines.Outcome.TheVariants.{Call as OfCall}
use Rattle.zb_types.specs.Apply.{is_update}
use Rattle.zb_claims.specs.Points.{calls, crashes, asked_of, told_of, call_of, ends, is_of_client, is_event, has_line, has_final, is_before_crash}
use Rattle.zb_claims.specs.Fits.{are_ended, WasFull}
use Rattle.zb_given.specs.Given.{Given, with_item, with_finish, script_of, place_of, point_of, calls_of, FitGiven}
use Rattle.zb_given.specs.Calls.{IsOpen, LookedUp, IsLookedUp, IsAtWork, tree_seen}

-- Calls.

-- a client's number names the call in the list of its own
abbrev pub NamesOwn : Type 0
NamesOwn = (given : Given) (client m : ℕ) → call_of (script_of given) client (suc m) ≡ slice_get (calls_of given client) m

-- and the list has them all
abbrev pub CountsOwn : Type 0
CountsOwn = (given : Given) (client : ℕ) → asked_of (calls client) (script_of given) ≡ length (calls_of given client)

-- the call that is given next has the next number, the last place, and the point of now
pub record IsFresh (given : Given) (client : ℕ) (call : Call) (at : ℕ) : Type 0 where
  pub own : calls_of (with_item given (CallLine true client call) at) client ≡ calls_of given client ++ call ∷ []
  pub is : call_of (script_of (with_item given (CallLine true client call) at)) client (suc (length (calls_of given client))) ≡ Some call
  pub place : place_of (with_item given (CallLine true client call) at) client (suc (length (calls_of given client))) ≡ length given.items
  pub point : point_of (with_item given (CallLine true client call) at) client (suc (length (calls_of given client))) ≡ at

-- so it is with each next call
abbrev pub NextIsFresh : Type 0
NextIsFresh = (given : Given) (client : ℕ) (call : Call) (at : ℕ) → IsFresh given client call at

-- no line names a call that wasn't given
pub record HasNone (lines : List Outcome) (client n : ℕ) : Type 0 where
  pub line : has_line lines client n ≡ false
  pub final : has_final lines client n ≡ false

-- so it is with each number past the calls
abbrev pub NoneIsAhead : Type 0
NoneIsAhead = (given : Given) (lines : List Outcome) (client n : ℕ) → FitGiven given lines → length (calls_of given client) < n → HasNone lines client n

-- a call that was given stays where it is
pub record StaysPut (given more : Given) (client n : ℕ) (call : Call) : Type 0 where
  pub is : call_of (script_of more) client n ≡ Some call
  pub place : place_of more client n ≡ place_of given client n
  pub point : point_of more client n ≡ point_of given client n

-- where one more is given
abbrev pub CallStays : Type 0
CallStays = (given : Given) (line : Line) (at client n : ℕ) (call : Call) → call_of (script_of given) client n ≡ Some call → StaysPut given (with_item given line at) client n call

-- Open calls.

-- a call stays open where more is given
abbrev pub OpenStays : Type 0
OpenStays = (given : Given) (lines : List Outcome) (line : Line) (at client n : ℕ) (call : Call) → IsOpen given lines client n call → IsOpen (with_item given line at) lines client n call

-- and where a finish begins
abbrev pub OpenFinish : Type 0
OpenFinish = (given : Given) (lines : List Outcome) (at client n : ℕ) (call : Call) → IsOpen given lines client n call → IsOpen (with_finish given at) lines client n call

-- and where lines come of which none is its final one
abbrev pub OpenOver : Type 0
OpenOver = (given : Given) (lines more : List Outcome) (client n : ℕ) (call : Call) → list_any (ends client n) more ≡ false → IsOpen given lines client n call → IsOpen given (lines ++ more) client n call

-- updates that have ended stay so
abbrev pub EndedOver : Type 0
EndedOver = (given : Given) (lines more : List Outcome) (client n : ℕ) → are_ended (script_of given) lines client n ≡ true → are_ended (script_of given) (lines ++ more) client n ≡ true

-- that a client kept too many stays so
abbrev pub FullOver : Type 0
FullOver = (lines more : List Outcome) (client n : ℕ) → WasFull lines client n → WasFull (lines ++ more) client n

-- Reads.

-- an open read is looked up where all these lines stand
abbrev pub LooksUp : Type 0
LooksUp = (given : Given) (lines : List Outcome) (client n : ℕ) (call : Call) → FitGiven given lines → IsOpen given lines client n call → is_update call ≡ false → IsLookedUp given lines client (record { number = n; at = length lines }) call

-- it stays so where more is given
abbrev pub LookupStays : Type 0
LookupStays = (given : Given) (lines : List Outcome) (line : Line) (at client : ℕ) (read : LookedUp) (call : Call) → IsLookedUp given lines client read call → IsLookedUp (with_item given line at) lines client read call

-- and where lines come of which none is its client's
abbrev pub LookupOver : Type 0
LookupOver = (given : Given) (lines more : List Outcome) (client : ℕ) (read : LookedUp) (call : Call) → list_any (is_of_client client) more ≡ false → IsLookedUp given lines client read call → IsLookedUp given (lines ++ more) client read call

-- so it is with a client's read at work
abbrev pub AtWorkStays : Type 0
AtWorkStays = (given : Given) (lines : List Outcome) (line : Line) (at client : ℕ) (read : Option LookedUp) → IsAtWork given lines client read → IsAtWork (with_item given line at) lines client read

-- at a finish
abbrev pub AtWorkFinish : Type 0
AtWorkFinish = (given : Given) (lines : List Outcome) (at client : ℕ) (read : Option LookedUp) → IsAtWork given lines client read → IsAtWork (with_finish given at) lines client read

-- over the lines of others
abbrev pub AtWorkOver : Type 0
AtWorkOver = (given : Given) (lines more : List Outcome) (client : ℕ) (read : Option LookedUp) → list_any (is_of_client client) more ≡ false → IsAtWork given lines client read → IsAtWork given (lines ++ more) client read

-- the tree that a read saw is the same where more is given
abbrev pub SeenStays : Type 0
SeenStays = (given : Given) (lines : List Outcome) (line : Line) (at : ℕ) (read : LookedUp) → FitGiven given lines → tree_seen (with_item given line at) lines read ≡ tree_seen given lines read

-- and where more lines come
abbrev pub SeenOver : Type 0
SeenOver = (given : Given) (lines more : List Outcome) (read : LookedUp) → read.at ≤ length lines → tree_seen given (lines ++ more) read ≡ tree_seen given lines read

-- Crashes of the file manager.

-- a call may be replied to where the file manager never crashed
abbrev pub NoCrash : Type 0
NoCrash = (script : List Line) (lines : List Outcome) (place : ℕ) → list_any (is_event (crashes Manager)) lines ≡ false → is_before_crash script lines place ≡ true

-- a line of a call changes nothing of that
abbrev pub CallLeaves : Type 0
CallLeaves = (script : List Line) (lines : List Outcome) (client n : ℕ) (said : Said) (place : ℕ) → is_before_crash script (lines ++ OfCall client n said ∷ []) place ≡ is_before_crash script lines place

-- and behind another line, if each crash that was given before it has its line
abbrev pub CrashIsLater : Type 0
CrashIsLater = (script : List Line) (lines : List Outcome) (line : Outcome) (place : ℕ) → asked_of (crashes Manager) (take place script) ≤ told_of (crashes Manager) lines → is_before_crash script lines place ≡ true → is_before_crash script (lines ++ line ∷ []) place ≡ true
