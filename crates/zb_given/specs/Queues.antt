-- Where the calls of a client stand by the lines: in its queue, kept, or ended; and what each line of it leaves of that.
use Rattle.std.specs.Prelude.{◌≡◌, ℕ, suc, ◌≤◌, ◌<◌, max, Bool, true, false, not, List, [], ◌∷◌, ◌++◌, length, filter, Some, ◌==◌, ◌&&◌, if◌then◌else◌}
use Rattle.std.specs.List.{list_any, flat_map, AllByRecursion}
use Rattle.zb_types.specs.declared.calls.Call.{Call}
use Rattle.zb_types.specs.declared.nodes.Cause.{Cause}
use Rattle.zb_types.specs.declared.lines.Line.{Line}
use Rattle.zb_types.specs.declared.lines.Said.{Said}
use Rattle.zb_types.specs.declared.lines.Said.TheVariants.{Buffered, Kept}
use Rattle.zb_types.specs.declared.lines.Outcome.{Outcome}
use Rattle.zb_types.specs.declared.lines.Outcome.TheVariants.{Call as OfCall}
use Rattle.zb_types.specs.Limits.{within, most_kept}
use Rattle.zb_types.specs.Apply.{is_update, is_bufferable}
use Rattle.zb_claims.specs.Points.{calls, call_of, is_final, has_line, has_final, kept_in, is_of_client}
use Rattle.zb_claims.specs.Fits.{is_update_in, are_ended, MayNotBuffer, BufferedFits, KeptFits}
use Rattle.zb_given.specs.Given.{Given, none_given, with_item, with_finish, script_of, calls_of}
use Rattle.zb_given.specs.Calls.{IsOpen}
use Rattle.zb_given.specs.Ends.{HaveLines, HaveLastLines}

-- the number is one of these
abbrev pub is_among : List ℕ → ℕ → Bool
is_among numbers n = list_any (λ k. k == n) numbers

-- each of these numbers is greater than this one, and than those before it
abbrev pub RiseAbove : ℕ → List ℕ → Type 0
RiseAbove low [] = Unit {0}
RiseAbove low (n ∷ numbers) = (low < n) × RiseAbove n numbers

-- the calls of this client that have a `kept` line and no final one
abbrev pub kept_numbers : List Outcome → ℕ → List ℕ
kept_numbers lines client = filter (λ n. not (has_final lines client n)) (flat_map (kept_in client) lines)

-- the last call that was taken, if it has no line yet
abbrev pub last_without : ℕ → ℕ → List ℕ
last_without taken lined = if lined == taken then [] else taken ∷ []

-- Of a client's calls the first `taken` were taken from its queue. Those with a number in `kept` are kept, updates in their
-- order, and the others have ended. The first `lined` have a line: all that were taken, or all but the last, which is kept
-- then, and its commit at work; if it could be buffered, too many are kept.
pub record CallsStand (given : Given) (lines : List Outcome) (client : ℕ) (kept : List ℕ) (taken lined : ℕ) : Type 0 where
  pub named : (n : ℕ) → has_line lines client n ≡ within 1 lined n
  pub ended : (n : ℕ) → has_final lines client n ≡ (within 1 taken n && not (is_among kept n))
  pub kept_are : kept_numbers lines client ++ last_without taken lined ≡ kept
  pub rise : RiseAbove 0 kept
  pub below : AllByRecursion (λ n. n ≤ taken) kept
  pub updates : AllByRecursion (λ n. is_update_in (call_of (script_of given) client n) ≡ true) kept
  pub count : taken ≤ length (calls_of given client)
  pub few : lined ≤ taken
  pub many : taken ≤ suc lined
  pub full : (call : Call) → lined < taken → call_of (script_of given) client taken ≡ Some call → MayNotBuffer lines client taken call

-- Laws.

-- nothing was given
abbrev pub StandFirst : Type 0
StandFirst = (client : ℕ) → CallsStand none_given [] client [] 0 0

-- more is given
abbrev pub StandGiven : Type 0
StandGiven = (given : Given) (lines : List Outcome) (line : Line) (at client : ℕ) (kept : List ℕ) (taken lined : ℕ) → CallsStand given lines client kept taken lined → CallsStand (with_item given line at) lines client kept taken lined

-- a finish begins
abbrev pub StandFinish : Type 0
StandFinish = (given : Given) (lines : List Outcome) (at client : ℕ) (kept : List ℕ) (taken lined : ℕ) → CallsStand given lines client kept taken lined → CallsStand (with_finish given at) lines client kept taken lined

-- lines come of which none is the client's
abbrev pub StandOver : Type 0
StandOver = (given : Given) (lines more : List Outcome) (client : ℕ) (kept : List ℕ) (taken lined : ℕ) → list_any (is_of_client client) more ≡ false → CallsStand given lines client kept taken lined → CallsStand given (lines ++ more) client kept taken lined

-- the next call is taken and buffered, where few are kept
pub record IsBuffered (given : Given) (lines : List Outcome) (client : ℕ) (kept : List ℕ) (taken : ℕ) (call : Call) : Type 0 where
  pub is_open : IsOpen given lines client (suc taken) call
  pub fits : BufferedFits lines client (suc taken) call
  pub stand : CallsStand given (lines ++ OfCall client (suc taken) Buffered ∷ []) client (kept ++ suc taken ∷ []) (suc taken) (suc taken)

-- so it is with a write or a truncation
abbrev pub Buffers : Type 0
Buffers = (given : Given) (lines : List Outcome) (client : ℕ) (kept : List ℕ) (taken : ℕ) (call : Call) → call_of (script_of given) client (suc taken) ≡ Some call → is_bufferable call ≡ true → suc (length kept) < most_kept
    → CallsStand given lines client kept taken taken → IsBuffered given lines client kept taken call

-- another update is taken, to be committed with all that are kept
abbrev pub Takes : Type 0
Takes = (given : Given) (lines : List Outcome) (client : ℕ) (kept : List ℕ) (taken : ℕ) (call : Call) → call_of (script_of given) client (suc taken) ≡ Some call → is_update call ≡ true → (is_bufferable call ≡ true → most_kept ≤ suc (length kept))
    → CallsStand given lines client kept taken taken → CallsStand given lines client (kept ++ suc taken ∷ []) (suc taken) taken

-- the commit that it began can't go on, and it stays kept
pub record IsKeptFor (given : Given) (lines : List Outcome) (client : ℕ) (kept : List ℕ) (lined : ℕ) (call : Call) : Type 0 where
  pub is_open : IsOpen given lines client (suc lined) call
  pub fits : KeptFits lines client (suc lined) call
  pub stand : (cause : Cause) → CallsStand given (lines ++ OfCall client (suc lined) (Kept cause) ∷ []) client kept (suc lined) (suc lined)

-- so it is with the last that was taken
abbrev pub KeepsFor : Type 0
KeepsFor = (given : Given) (lines : List Outcome) (client : ℕ) (kept : List ℕ) (lined : ℕ) (call : Call) → call_of (script_of given) client (suc lined) ≡ Some call → CallsStand given lines client kept (suc lined) lined → IsKeptFor given lines client kept lined call

-- the first that is kept has its final line: a reply may come, and it leaves
pub record EndsFirst (given : Given) (lines : List Outcome) (client n : ℕ) (kept : List ℕ) (taken lined : ℕ) (call : Call) : Type 0 where
  pub is_open : IsOpen given lines client n call
  pub is_update : is_update call ≡ true
  pub earlier : are_ended (script_of given) lines client n ≡ true
  pub first : MayNotBuffer lines client n call
  pub stand : (said : Said) → is_final said ≡ true → CallsStand given (lines ++ OfCall client n said ∷ []) client kept taken (max lined n)

-- so it is with each first one
abbrev pub EndsKept : Type 0
EndsKept = (given : Given) (lines : List Outcome) (client n : ℕ) (kept : List ℕ) (taken lined : ℕ) (call : Call) → call_of (script_of given) client n ≡ Some call → CallsStand given lines client (n ∷ kept) taken lined → EndsFirst given lines client n kept taken lined call

-- a read is answered out of the queue, by a reply where nothing is kept
pub record EndsNext (given : Given) (lines : List Outcome) (client : ℕ) (kept : List ℕ) (taken : ℕ) (call : Call) : Type 0 where
  pub is_open : IsOpen given lines client (suc taken) call
  pub earlier : kept ≡ [] → are_ended (script_of given) lines client (suc taken) ≡ true
  pub stand : (said : Said) → is_final said ≡ true → CallsStand given (lines ++ OfCall client (suc taken) said ∷ []) client kept (suc taken) (suc taken)

-- so it is with the first queued call
abbrev pub EndsQueued : Type 0
EndsQueued = (given : Given) (lines : List Outcome) (client : ℕ) (kept : List ℕ) (taken : ℕ) (call : Call) → call_of (script_of given) client (suc taken) ≡ Some call → CallsStand given lines client kept taken taken → EndsNext given lines client kept taken call

-- a client that is idle has taken all, and each has a line
abbrev pub IdleHasLines : Type 0
IdleHasLines = (given : Given) (lines : List Outcome) (client : ℕ) (kept : List ℕ) (taken : ℕ) → taken ≡ length (calls_of given client) → CallsStand given lines client kept taken taken → HaveLines given lines (calls client)

-- one that keeps none has their last lines
abbrev pub NoneKeptHasLast : Type 0
NoneKeptHasLast = (given : Given) (lines : List Outcome) (client taken lined : ℕ) → taken ≡ length (calls_of given client) → CallsStand given lines client [] taken lined → HaveLastLines given lines (calls client)
