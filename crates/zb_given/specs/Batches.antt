-- The lines of several kept calls at once: the replies of a batch that was committed, and the ends of all at a finish.
use Rattle.std.specs.Prelude.{◌≡◌, ℕ, ◌<◌, true, List, [], ◌++◌, length, map, Some, nat_le}
use Rattle.std.specs.List.{list_any, AllByRecursion}
use Rattle.zb_types.specs.declared.nodes.Cause.{Cause}
use Rattle.zb_types.specs.declared.history.Did.{Did}
use Rattle.zb_types.specs.declared.lines.Said.TheVariants.{Reply as Replied, Unfinished}
use Rattle.zb_types.specs.declared.lines.Outcome.{Outcome}
use Rattle.zb_types.specs.declared.lines.Outcome.TheVariants.{Call as OfCall}
use Rattle.zb_types.specs.History.{AreReplies}
use Rattle.zb_claims.specs.Points.{call_of, is_before_crash, dids, tree_at}
use Rattle.zb_given.specs.Given.{Given, script_of, place_of, FitGiven}
use Rattle.zb_given.specs.Queues.{CallsStand}

-- the numbers of these updates
abbrev pub numbers_in : List Did → List ℕ
numbers_in batch = map (λ did. did.number) batch

-- the lines of this client that tell their replies
abbrev pub reply_lines : ℕ → List Did → List Outcome
reply_lines client batch = map (λ did. OfCall client did.number (Replied did.reply)) batch

-- an update of this client that was given, and may be replied to as far as crashes of the file manager go
pub record IsUpdateOf (given : Given) (lines : List Outcome) (client : ℕ) (did : Did) : Type 0 where
  pub client_is : did.client ≡ client
  pub call_is : call_of (script_of given) client did.number ≡ Some did.call
  pub manager : is_before_crash (script_of given) lines (place_of given client did.number) ≡ true

-- what the replies of a batch leave: the lines fit, the others are kept, and the history has these updates more
pub record BatchReplied (given : Given) (lines : List Outcome) (client : ℕ) (batch : List Did) (kept : List ℕ) (taken lined : ℕ) : Type 0 where
  pub fits : FitGiven given (lines ++ reply_lines client batch)
  pub after : ℕ
  pub stand : CallsStand given (lines ++ reply_lines client batch) client kept taken after
  -- where calls are kept still, none has its first line by this; else all have one
  pub same : 0 < length kept → after ≡ lined
  pub all : kept ≡ [] → after ≡ taken
  pub told : dids (script_of given) (lines ++ reply_lines client batch) ≡ dids (script_of given) lines ++ batch

-- the first kept calls have the replies of the tree, one after the other
abbrev pub RepliesBatch : Type 0
RepliesBatch = (given : Given) (lines : List Outcome) (client : ℕ) (batch : List Did) (kept : List ℕ) (taken lined : ℕ) → FitGiven given lines → CallsStand given lines client (numbers_in batch ++ kept) taken lined
    → AllByRecursion (IsUpdateOf given lines client) batch → AreReplies (tree_at (script_of given) lines) batch → BatchReplied given lines client batch kept taken lined

-- the lines of this client that tell that these calls are unfinished
abbrev pub unfinished_lines : ℕ → Cause → List ℕ → List Outcome
unfinished_lines client cause kept = map (λ n. OfCall client n (Unfinished cause)) kept

-- what these lines leave: they fit, and nothing is kept
pub record AllUnfinished (given : Given) (lines : List Outcome) (client : ℕ) (cause : Cause) (kept : List ℕ) (taken : ℕ) : Type 0 where
  pub fits : FitGiven given (lines ++ unfinished_lines client cause kept)
  pub stand : CallsStand given (lines ++ unfinished_lines client cause kept) client [] taken taken
  pub told : dids (script_of given) (lines ++ unfinished_lines client cause kept) ≡ dids (script_of given) lines

-- all kept calls are unfinished once a finish began
abbrev pub EndsAll : Type 0
EndsAll = (given : Given) (lines : List Outcome) (client : ℕ) (cause : Cause) (kept : List ℕ) (taken : ℕ) → FitGiven given lines → CallsStand given lines client kept taken taken
    → list_any (λ at. nat_le at (length lines)) given.finishes ≡ true → AllUnfinished given lines client cause kept taken
