-- What a step of a client tells, and what it leaves of its read at work.
use Rattle.std.specs.Prelude.{◌≡◌, ◌⊎◌, ℕ, Bool, true, false, List, [], ◌∷◌, ◌++◌, length, take, Option, Some, None, ◌==◌}
use Rattle.std.specs.List.{AllByRecursion}
use Rattle.zb_types.specs.declared.calls.Call.{Call}
use Rattle.zb_types.specs.declared.calls.Reply.{Reply}
use Rattle.zb_types.specs.declared.lines.Said.TheVariants.{Reply as Replied}
use Rattle.zb_types.specs.declared.lines.Outcome.{Outcome}
use Rattle.zb_types.specs.declared.lines.Outcome.TheVariants.{Call as OfCall}
use Rattle.zb_types.specs.Apply.{is_update, reply_to}
use Rattle.zb_claims.specs.Points.{call_of, is_of_client, tree_at}
use Rattle.zb_given.specs.Given.{Given, script_of, calls_of}
use Rattle.zb_given.specs.Calls.{LookedUp}

-- the lines that a read sees which is answered behind these: those at its lookup, or all where it is looked up here
abbrev pub seen_by : Option LookedUp → List Outcome → List Outcome
seen_by None lines = lines
seen_by (Some read) lines = take read.at lines

-- where a read was looked up, it is this call
abbrev pub is_number : Option LookedUp → ℕ → Bool
is_number None n = true
is_number (Some read) n = read.number == n

-- the reply to a read is that of the tree at its lookup
pub record AnswersRead (given : Given) (lines : List Outcome) (read : Option LookedUp) (n : ℕ) (call : Call) (reply : Reply) : Type 0 where
  pub number : is_number read n ≡ true
  pub same : reply ≡ reply_to (tree_at (script_of given) (seen_by read lines)) call

-- so it is with a line, if it is a reply to a read
abbrev pub IsOfLookup : Given → List Outcome → Option LookedUp → Outcome → Type 0
IsOfLookup given lines read (OfCall client n (Replied reply)) = (call : Call) → call_of (script_of given) client n ≡ Some call → is_update call ≡ false → AnswersRead given lines read n call reply
IsOfLookup given lines read line = Unit {0}

-- and with each of these lines, behind those before it; no read is at work behind the first of them
abbrev pub AreOfLookups : Given → List Outcome → Option LookedUp → List Outcome → Type 0
AreOfLookups given lines read [] = Unit {0}
AreOfLookups given lines read (line ∷ more) = IsOfLookup given lines read line × AreOfLookups given (lines ++ line ∷ []) None more

-- where a read was looked up, it was so where just these lines stood
abbrev pub IsOfNow : Option LookedUp → List Outcome → Type 0
IsOfNow None lines = Unit {0}
IsOfNow (Some read) lines = read.at ≡ length lines

-- Behind `lines` a step of this client tells `more`, lines of its own. Its read at work, where one was looked up, stays so
-- if nothing is told; else it is looked up in this step, or none is.
pub record StepTells (given : Given) (lines : List Outcome) (client : ℕ) (old new : Option LookedUp) (more : List Outcome) : Type 0 where
  pub own : AllByRecursion (λ line. is_of_client client line ≡ true) more
  pub reads : AreOfLookups given lines old more
  pub looks : ((more ≡ []) × (new ≡ old)) ⊎ IsOfNow new (lines ++ more)

-- where the client's last call is a read that was looked up, it was so where just these lines stood
abbrev pub LooksNow : Given → List Outcome → ℕ → Option LookedUp → Type 0
LooksNow given lines client None = Unit {0}
LooksNow given lines client (Some read) = read.number ≡ length (calls_of given client) → read.at ≡ length lines
