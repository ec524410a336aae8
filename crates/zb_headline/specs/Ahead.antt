-- Updates that are ahead of the report: committed, or about to be, with no final line yet.
use Rattle.std.specs.Prelude.{◌≡◌, ℕ, zero, suc, ◌≤◌, Bool, true, false, not, List, [], ◌∷◌, ◌++◌, length, map, filter, Some, ◌==◌, ◌&&◌, ◌||◌, if◌then◌else◌, nat_le}
use Rattle.std.specs.List.{list_any, list_all, AllByRecursion}
use Rattle.zb_types.specs.declared.calls.Call.{Call}
use Rattle.zb_types.specs.declared.calls.Call.TheVariants.{Sync}
use Rattle.zb_types.specs.declared.nodes.Cause.TheVariants.{Down}
use Rattle.zb_types.specs.declared.lines.Line.{Line}
use Rattle.zb_types.specs.declared.lines.Said.TheVariants.{Unfinished}
use Rattle.zb_types.specs.declared.lines.Outcome.{Outcome}
use Rattle.zb_types.specs.declared.lines.Outcome.TheVariants.{Call as OfCall}
use Rattle.zb_types.specs.declared.history.Did.{Did}
use Rattle.zb_types.specs.Apply.{is_bufferable}
use Rattle.zb_types.specs.History.{AreReplies}
use Rattle.zb_types.specs.Limits.{most_kept}
use Rattle.zb_claims.specs.Points.{calls, asked, asked_of, call_of, has_final, tree_at}
use Rattle.zb_claims.specs.Fits.{Clock, is_update_in}
use Rattle.zb_headline.specs.Reasons.{begun_in}

-- `unfinished down` of this call: its batch is in doubt
abbrev pub is_unfinished_down : ℕ → ℕ → Outcome → Bool
is_unfinished_down client n (OfCall c m (Unfinished Down)) = client == c && n == m
is_unfinished_down client n line = false

-- an update of this client that has no final line but `unfinished down`
abbrev pub is_waiting : List Line → List Outcome → ℕ → ℕ → Bool
is_waiting script lines client n = is_update_in (call_of script client n) && (not (has_final lines client n) || list_any (is_unfinished_down client n) lines)

-- the numbers of these, up to n
abbrev pub waiting_to : List Line → List Outcome → ℕ → ℕ → List ℕ
waiting_to script lines client zero = []
waiting_to script lines client (suc n) = waiting_to script lines client n ++ (if is_waiting script lines client (suc n) then suc n ∷ [] else [])

-- the numbers of all of them
abbrev pub waiting : List Line → List Outcome → ℕ → List ℕ
waiting script lines client = waiting_to script lines client (asked_of (calls client) script)

-- the numbers of this client's updates
abbrev pub numbers_of : ℕ → List Did → List ℕ
numbers_of client ahead = map (λ did. did.number) (filter (λ did. did.client == client) ahead)

-- it may stand in a batch with others: a write, a truncation or a sync
abbrev pub is_company : Call → Bool
is_company Sync = true
is_company call = is_bufferable call

-- the updates of one batch: one alone, or a few of one client that keep company
pub record IsOneBatch (batch : List Did) : Type 0 where
  pub client : ℕ
  pub one : AllByRecursion (λ did. did.client ≡ client) batch
  pub few : length batch ≤ most_kept
  pub company : (nat_le (length batch) 1 || list_all (λ did. is_company did.call) batch) ≡ true

-- Updates that are ahead of these lines, in the order in which they were committed. All but those of the last batch are
-- committed, and wait for their lines.
pub record IsAhead (script : List Line) (clock : Clock) (lines : List Outcome) (ahead : List Did) : Type 0 where
  pub early : List Did
  pub last : List Did
  pub split : ahead ≡ early ++ last
  pub batch : IsOneBatch last
  -- the last batch alone may be in doubt
  pub unended : AllByRecursion (λ did. has_final lines did.client did.number ≡ false) early
  pub calls_are : AllByRecursion (λ did. call_of script did.client did.number ≡ Some did.call) ahead
  -- nothing is ahead of the begin of its script line
  pub begun : AllByRecursion (λ did. begun_in clock lines (asked script (calls did.client) did.number) ≡ true) ahead
  -- each client's are its first that wait, in its order
  pub first : (c : ℕ) → (rest : List ℕ) × (numbers_of c ahead ++ rest ≡ waiting script lines c)
  pub replies : AreReplies (tree_at script lines) ahead
