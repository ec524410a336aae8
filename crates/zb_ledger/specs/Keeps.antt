-- When a ledger keeps the history of what a world was given and told, and the laws of that.
use Rattle.std.specs.Prelude.{◌≡◌, ◌≢◌, ◌⊎◌, ℕ, suc, ◌+◌, ◌≤◌, ◌<◌, true, false, List, [], ◌∷◌, ◌++◌, length, map, Option, Some, None, ◌==◌, if◌then◌else◌}
use Rattle.std.specs.List.{AllByRecursion}
use Rattle.zb_types.specs.declared.calls.Call.{Call}
use Rattle.zb_types.specs.declared.lines.Line.{Line}
use Rattle.zb_types.specs.declared.lines.Line.TheVariants.{Call as CallLine}
use Rattle.zb_types.specs.declared.lines.Outcome.{Outcome}
use Rattle.zb_types.specs.History.{IsSeen, IsLegal}
use Rattle.zb_claims.specs.Points.{call_of, has_final, is_of_client, dids}
use Rattle.zb_laws.specs.Histories.{reads, answer_of}
use Rattle.zb_given.specs.Given.{Given, none_given, with_item, with_finish, script_of, calls_of, FitGiven}
use Rattle.zb_given.specs.Calls.{LookedUp}
use Rattle.zb_given.specs.Telling.{seen_by, IsOfLookup, AreOfLookups, IsOfNow}
use Rattle.zb_given.specs.Ends.{is_call}
use Rattle.zb_ledger.specs.Seen.{SeenLedger, count_of, looked_of, call_at, first_ledger, called, taken_back, looked_now, told, told_all}

-- the call that waits under a client and a number: it was given, and has no final line
abbrev pub waits : Given → List Outcome → ℕ → ℕ → Option Call
waits given lines client n = if has_final lines client n then None else call_of (script_of given) client n

-- the updates that stood where this client's read was looked up, or stand now where none was, are counted for it
abbrev pub IsCounted : Given → List Outcome → SeenLedger → ℕ → Option LookedUp → Type 0
IsCounted given lines ledger client read = looked_of ledger client ≡ length (dids (script_of given) (seen_by read lines))

-- so it is with a read at work, which was looked up where these lines or fewer stood
pub record LooksBack (given : Given) (lines : List Outcome) (ledger : SeenLedger) (client : ℕ) (read : LookedUp) : Type 0 where
  pub stood : read.at ≤ length lines
  pub counted : IsCounted given lines ledger client (Some read)

-- It counts each client's calls; has just those that wait; and its history is that of the lines, a read being answered from
-- the tree that it saw. For the read at work of client i + 1 the updates at its lookup are counted.
pub record KeepsHistory (given : Given) (lines : List Outcome) (at_work : ℕ → Option LookedUp) (ledger : SeenLedger) : Type 0 where
  pub counts : (client : ℕ) → count_of ledger client ≡ length (calls_of given client)
  pub waiting : (client n : ℕ) → call_at ledger.waiting client n ≡ waits given lines client n
  pub updates : ledger.updates ≡ dids (script_of given) lines
  pub answers : map answer_of ledger.answered ≡ reads (script_of given) lines
  pub seen : AllByRecursion (IsSeen ledger.updates) ledger.answered
  pub looked : (i : ℕ) (read : LookedUp) → at_work i ≡ Some read → LooksBack given lines ledger (i + 1) read
  -- there is a place for each client
  pub count_places : length ledger.counts ≡ suc ledger.clients
  pub look_places : length ledger.looked ≡ suc ledger.clients

-- the reads at work without that of client i + 1
abbrev pub without_read : (ℕ → Option LookedUp) → ℕ → ℕ → Option LookedUp
without_read at_work i j = if i == j then None else at_work j

-- the reads of the others than client i + 1 are the same
abbrev pub AreOthersReads : ℕ → (ℕ → Option LookedUp) → (ℕ → Option LookedUp) → Type 0
AreOthersReads i old new = (j : ℕ) → j ≢ i → new j ≡ old j

-- Where a read was looked up once these lines of its client were told: behind the last of them; or, where there are none, as
-- before, or now if none was.
abbrev pub LooksBehind : List Outcome → List Outcome → Option LookedUp → Option LookedUp → Type 0
LooksBehind lines [] old new = (new ≡ old) ⊎ ((old ≡ None) × IsOfNow new lines)
LooksBehind lines (line ∷ more) old new = IsOfNow new (lines ++ line ∷ more)

-- Laws.

-- a new ledger keeps the history of nothing
abbrev pub KeepsFirst : Type 0
KeepsFirst = (clients : ℕ) → KeepsHistory none_given [] (λ i. None) (first_ledger clients)

-- a call is given
abbrev pub KeepsCall : Type 0
KeepsCall = (given : Given) (lines : List Outcome) (at_work : ℕ → Option LookedUp) (ledger : SeenLedger) (client : ℕ) (call : Call) → client ≤ ledger.clients → FitGiven given lines → KeepsHistory given lines at_work ledger
    → KeepsHistory (with_item given (CallLine true client call) (length lines)) lines at_work (called ledger client call)

-- a call that is given and taken back leaves the ledger as it was, where its number is new
abbrev pub TakesBack : Type 0
TakesBack = (ledger : SeenLedger) (client : ℕ) (call : Call) → client < length ledger.counts → call_at ledger.waiting client (suc (count_of ledger client)) ≡ None → taken_back (called ledger client call) client ≡ ledger

-- a job or an event is given
abbrev pub KeepsOther : Type 0
KeepsOther = (given : Given) (lines : List Outcome) (at_work : ℕ → Option LookedUp) (ledger : SeenLedger) (line : Line) (at : ℕ) → is_call line ≡ false → FitGiven given lines → KeepsHistory given lines at_work ledger
    → KeepsHistory (with_item given line at) lines at_work ledger

-- a finish begins
abbrev pub KeepsFinish : Type 0
KeepsFinish = (given : Given) (lines : List Outcome) (at_work : ℕ → Option LookedUp) (ledger : SeenLedger) (at : ℕ) → KeepsHistory given lines at_work ledger → KeepsHistory (with_finish given at) lines at_work ledger

-- a read of client i + 1 is looked up now, or none is at work
abbrev pub KeepsLook : Type 0
KeepsLook = (given : Given) (lines : List Outcome) (old new : ℕ → Option LookedUp) (ledger : SeenLedger) (i : ℕ) → i + 1 ≤ ledger.clients → AreOthersReads i old new → IsOfNow (new i) lines → KeepsHistory given lines old ledger
    → KeepsHistory given lines new (looked_now ledger (i + 1)) × IsCounted given lines (looked_now ledger (i + 1)) (i + 1) None

-- so it is, with no look, where the updates of now are counted already
abbrev pub KeepsRead : Type 0
KeepsRead = (given : Given) (lines : List Outcome) (old new : ℕ → Option LookedUp) (ledger : SeenLedger) (i : ℕ) → AreOthersReads i old new → IsOfNow (new i) lines → IsCounted given lines ledger (i + 1) None → KeepsHistory given lines old ledger
    → KeepsHistory given lines new ledger

-- a line of client i + 1 is told, for whose read the updates at its lookup are counted, or those of now: no read of it is at work
abbrev pub KeepsLine : Type 0
KeepsLine = (given : Given) (lines : List Outcome) (at_work : ℕ → Option LookedUp) (ledger : SeenLedger) (i : ℕ) (read : Option LookedUp) (line : Outcome) → is_of_client (i + 1) line ≡ true → IsOfLookup given lines read line
    → FitGiven given (lines ++ line ∷ []) → IsCounted given lines ledger (i + 1) read → KeepsHistory given lines at_work ledger → KeepsHistory given (lines ++ line ∷ []) (without_read at_work i) (told ledger line)

-- So it is with several, behind each of which its read is looked up. Its read at work is then the one that the last of them left.
abbrev pub KeepsLines : Type 0
KeepsLines = (given : Given) (lines more : List Outcome) (old new : ℕ → Option LookedUp) (ledger : SeenLedger) (i : ℕ) → i + 1 ≤ ledger.clients → AllByRecursion (λ line. is_of_client (i + 1) line ≡ true) more → AreOfLookups given lines (old i) more
    → AreOthersReads i old new → LooksBehind lines more (old i) (new i) → FitGiven given (lines ++ more) → IsCounted given lines ledger (i + 1) (old i) → KeepsHistory given lines old ledger → KeepsHistory given (lines ++ more) new (told_all ledger (i + 1) more)

-- with a read at work its updates are counted
abbrev pub CountsRead : Type 0
CountsRead = (given : Given) (lines : List Outcome) (at_work : ℕ → Option LookedUp) (ledger : SeenLedger) (i : ℕ) (read : LookedUp) → at_work i ≡ Some read → KeepsHistory given lines at_work ledger → IsCounted given lines ledger (i + 1) (Some read)

-- where the lines fit, the history is legal
abbrev pub KeepsLegal : Type 0
KeepsLegal = (given : Given) (lines : List Outcome) (at_work : ℕ → Option LookedUp) (ledger : SeenLedger) → FitGiven given lines → KeepsHistory given lines at_work ledger → IsLegal ledger.updates ledger.answered
