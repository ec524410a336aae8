-- Reads without a plus are answered at once.
use Rattle.std.proofs.Common.{◌≡◌, ℕ, suc, ◌<◌, ◌≤◌, Bool, true, false, ◌&&◌, ◌||◌, eqb, List, [], ◌∷◌, ◌++◌, length, Option, Some, None, refl, sym, ap, subst, ◌∙◌, append_assoc, arith, inl, inr}
use Rattle.std.specs.Prelude.{map}
use Rattle.std.proofs.lemmas.Bool.{cases_lt}
use Rattle.std.proofs.lemmas.List.{append-nil}
use Rattle.zb_types.specs.declared.calls.Call.{Call}
use Rattle.zb_types.specs.declared.calls.Reply.{Reply}
use Rattle.zb_types.specs.declared.lines.Line.{Line}
use Rattle.zb_types.specs.declared.lines.Line.TheVariants.{Call as CallLine, Job as JobLine, Steps, StepTo, Event as EventLine}
use Rattle.zb_types.specs.declared.lines.Said.{Said}
use Rattle.zb_types.specs.declared.lines.Said.TheVariants.{Reply as Replied, Buffered, Kept, Failed, Dropped, Unfinished}
use Rattle.zb_types.specs.declared.lines.Outcome.{Outcome}
use Rattle.zb_types.specs.declared.lines.Outcome.TheVariants.{Call as OfCall, Clean as OfClean, Rebuild as OfRebuild, Event as OfEvent}
use Rattle.zb_types.specs.Tree.{Tree}
use Rattle.zb_types.specs.Apply.{is_update, reply_to}
use Rattle.zb_types.specs.History.{tree_after}
use Rattle.zb_claims.specs.Points.{calls, asked, asked_of, call_in, call_of, is_final, has_line, has_final, has_told, subject_in, all_met, is_begun, tree_at}
use Rattle.zb_claims.specs.Fits.{Clock, SaidFitsBy, CallFitsBy, FitsNextBy, FitsFromBy}
use Rattle.zb_laws.proofs.Tests.{equal, or_left, first_true, last_true}
use Rattle.zb_given.specs.Given.{Given, script_of, clock_of_given}
use Rattle.zb_given.specs.Gives.{with_plus, about, IsNow, IsAtOnce, AreAtOnce}
use Rattle.zb_given.proofs.Small.{no, on}
use Rattle.zb_given.proofs.Asking.{asked_some, asked_more}
use Rattle.zb_given.proofs.Parts.{splits}
use Rattle.zb_given.proofs.Plus.{asked_of_plus}
use Rattle.zb_given.proofs.AllMet.{all_met_append}
use Rattle.zb_given.proofs.Begun.{begun_whole, begun_lines}
use Rattle.zb_given.proofs.Carry.{Extends, asked_pos, call_agrees, dids_agree, all_asked}
use Rattle.zb_given.proofs.MoreGiving.{front_from}
use Rattle.zb_given.proofs.RunLifting.{plus_extend}
use Rattle.zb_given.proofs.Adding.{buffers_update}

-- The first line of a read is its final one.

same_call : {a b : Call} → Some a ≡ Some b → a ≡ b
same_call e = cc

read_is_final : (w : Clock) (A : List Line) (before : List Outcome) (client n : ℕ) (call : Call) (said : Said) → call_of A client n ≡ Some call → is_update call ≡ false → CallFitsBy w A before client n said → is_final said ≡ true
read_is_final w A before client n call said is read f = by_said said f.fits
  where
    still : is_update f.call ≡ false
    still = ap is_update (same_call (sym (ap call_in f.is) ∙ is)) ∙ read

    by_said : (x : Said) → SaidFitsBy w A before client n f.place f.plus f.call x → is_final x ≡ true
    by_said (Replied reply) fits = refl
    by_said Buffered fits = on (sym (buffers_update f.call fits.buffer) ∙ still)
    by_said (Kept cause) fits = on (sym fits.update ∙ still)
    by_said (Failed cause) fits = refl
    by_said Dropped fits = refl
    by_said (Unfinished cause) fits = refl

pub final_reads : (w : Clock) (A : List Line) (before lines : List Outcome) (client n : ℕ) (call : Call) → FitsFromBy w A before lines → call_of A client n ≡ Some call → is_update call ≡ false → has_line lines client n ≡ true → has_final lines client n ≡ true
final_reads w A before [] client n call fits is read h = no h
final_reads w A before (OfCall c m said ∷ lines) client n call fits is read h = by_tests (eqb client c) (eqb n m) refl refl h (final_reads w A (before ++ OfCall c m said ∷ []) lines client n call fits.1 is read)
  where
    ends_here : eqb client c ≡ true → eqb n m ≡ true → is_final said ≡ true
    ends_here one two = read_is_final w A before c m call said (ap (λ (k : ℕ). call_of A k m) (sym (equal client c one)) ∙ ap (call_of A client) (sym (equal n m two)) ∙ is) read fits.0

    by_tests : (a b : Bool) → eqb client c ≡ a → eqb n m ≡ b → ((a && b) || has_line lines client n) ≡ true → (has_line lines client n ≡ true → has_final lines client n ≡ true) → ((a && b && is_final said) || has_final lines client n) ≡ true
    by_tests true true one two h rest = or_left (is_final said) (has_final lines client n) (ends_here one two)
    by_tests true false one two h rest = rest h
    by_tests false b one two h rest = rest h
final_reads w A before (OfClean pass ∷ lines) client n call fits is read h = final_reads w A (before ++ OfClean pass ∷ []) lines client n call fits.1 is read h
final_reads w A before (OfRebuild server end ∷ lines) client n call fits is read h = final_reads w A (before ++ OfRebuild server end ∷ []) lines client n call fits.1 is read h
final_reads w A before (OfEvent event answer ∷ lines) client n call fits is read h = final_reads w A (before ++ OfEvent event answer ∷ []) lines client n call fits.1 is read h

-- A call without a plus that is past has its line.
pub past_is_told : (S : List Line) (before : List Outcome) (client n place : ℕ) (call : Call) → is_begun S before (length S) ≡ true → asked S (calls client) n ≡ Some (place, CallLine false client call) → has_line before client n ≡ true
past_is_told S before client n place call begun is =
    let p = splits 0 (calls client) n S place (CallLine false client call) is in
    let met : all_met subject_in (has_told before) [] (p.front ++ CallLine false client call ∷ p.rest) ≡ true = ap (all_met subject_in (has_told before) []) (sym p.split) ∙ sym (begun_whole S before) ∙ begun in
    let parts : (all_met subject_in (has_told before) [] p.front && all_met subject_in (has_told before) p.front (CallLine false client call ∷ p.rest)) ≡ true = sym (all_met_append subject_in (has_told before) [] p.front (CallLine false client call ∷ p.rest)) ∙ met in
    let rest : all_met subject_in (has_told before) p.front (CallLine false client call ∷ p.rest) ≡ true = last_true (all_met subject_in (has_told before) [] p.front) (all_met subject_in (has_told before) p.front (CallLine false client call ∷ p.rest)) parts in
    ap (has_line before client) p.count ∙ first_true (has_line before client (suc (asked_of (calls client) p.front))) (all_met subject_in (has_told before) (p.front ++ CallLine false client call ∷ []) p.rest) rest

-- A line that is a reply to a read of `T` behind those of `S` is of the tree of now.
abbrev pub IsNowHere : Given → List Line → List Line → List Outcome → Outcome → Type 0
IsNowHere given S T before x =
    (client n : ℕ) (call : Call) (reply : Reply) → x ≡ OfCall client n (Replied reply) → asked_of (calls client) S < n → n ≤ asked_of (calls client) T → call_of (script_of given) client n ≡ Some call → is_update call ≡ false
    → reply ≡ reply_to (tree_at (script_of given) before) call

-- so it is with each of these lines
abbrev pub AreNowHere : Given → List Line → List Line → List Outcome → List Outcome → Type 0
AreNowHere given S T before [] = Unit {0}
AreNowHere given S T before (x ∷ more) = IsNowHere given S T before x × AreNowHere given S T (before ++ x ∷ []) more

-- A line of what is given is at once, where the lines of `S` are past, `tail` is what a program is at behind them, and a
-- read of it is answered as of now.
module _ (given : Given) (T S tail : List Line) (items : script_of given ≡ map with_plus T) (whole : T ≡ S ++ tail) where
  abbrev A : List Line
  A = script_of given

  abbrev w : Clock
  w = clock_of_given given

  extend : Extends A T
  extend s = subst (λ (l : List Line). (more : List Line) × (map with_plus (about s T) ≡ map with_plus (about s l) ++ more)) (sym items) (plus_extend T s)

  reply_is_now : (before : List Outcome) (client n place : ℕ) (call : Call) (reply : Reply) → FitsFromBy w A [] before → CallFitsBy w A before client n (Replied reply) → is_begun S before (length S) ≡ true → IsNowHere given S T before (OfCall client n (Replied reply))
      → asked T (calls client) n ≡ Some (place, CallLine false client call) → is_update call ≡ false → reply ≡ reply_to (tree_at T before) call
  reply_is_now before client n place call reply fits f begun now is read =
      let at = asked_pos A (calls client) n f.place (CallLine f.plus client f.call) f.is in
      let named : call_of A client n ≡ Some call = ap (call_of A client) at.1 ∙ sym (call_agrees A T extend client at.0 at.2) ∙ ap (call_of T client) (sym at.1) ∙ ap call_in is in
      let counts : asked_of (calls client) A ≡ asked_of (calls client) T = ap (asked_of (calls client)) items ∙ asked_of_plus (calls client) T in
      let trees : tree_at T before ≡ tree_at A before = ap tree_after (dids_agree A T extend before (all_asked w A [] before fits)) in
      elim (cases_lt (asked_of (calls client) S) n) as (λ _. reply ≡ reply_to (tree_at T before) call) [
        | inl lt ↦ now client n call reply refl lt (omega (arith, at.1, at.2, counts)) named read ∙ ap (λ (t : Tree). reply_to t call) (sym trees)
        | inr le ↦
            let some = asked_some S (calls client) at.0 (omega (arith, le, at.1)) in
            let here : asked S (calls client) n ≡ Some some.0 = ap (asked S (calls client)) at.1 ∙ some.1 in
            let there : asked T (calls client) n ≡ Some some.0 = ap (λ (l : List Line). asked l (calls client) n) whole ∙ asked_more 0 (calls client) n S tail some.0 here in
            let told : has_line before client n ≡ true = past_is_told S before client n place call begun (here ∙ sym there ∙ is) in
            on (sym (final_reads w A [] before client n call fits named read told) ∙ f.unended)
      ]

  reply_found : (before : List Outcome) (client n : ℕ) (reply : Reply) → ((place : ℕ) (call : Call) → asked T (calls client) n ≡ Some (place, CallLine false client call) → is_update call ≡ false → reply ≡ reply_to (tree_at T before) call) → IsNow T before reply (asked T (calls client) n)
  reply_found before client n reply now = by_found (asked T (calls client) n) refl
    where
      by_found : (o : Option (ℕ × Line)) → asked T (calls client) n ≡ o → IsNow T before reply o
      by_found None e = tt
      by_found (Some (place, CallLine false c call)) e =
          let p = splits 0 (calls client) n T place (CallLine false c call) e in
          let one : c ≡ client = sym (equal client c p.is) in
          λ read. now place call (e ∙ ap (λ (k : ℕ). Some (place, CallLine false k call)) one) read
      by_found (Some (place, CallLine true c call)) e = tt
      by_found (Some (place, JobLine plus job)) e = tt
      by_found (Some (place, Steps actor count)) e = tt
      by_found (Some (place, StepTo actor kind)) e = tt
      by_found (Some (place, EventLine event)) e = tt

  line_is_now : (before : List Outcome) (x : Outcome) → FitsFromBy w A [] before → FitsNextBy w A before x → is_begun S before (length S) ≡ true → IsNowHere given S T before x → IsAtOnce T before x
  line_is_now before (OfCall client n (Replied reply)) fits f begun now = reply_found before client n reply (λ place call is read. reply_is_now before client n place call reply fits f begun now is read)
  line_is_now before (OfCall client n Buffered) fits f begun now = tt
  line_is_now before (OfCall client n (Kept cause)) fits f begun now = tt
  line_is_now before (OfCall client n (Failed cause)) fits f begun now = tt
  line_is_now before (OfCall client n Dropped) fits f begun now = tt
  line_is_now before (OfCall client n (Unfinished cause)) fits f begun now = tt
  line_is_now before (OfClean pass) fits f begun now = tt
  line_is_now before (OfRebuild server end) fits f begun now = tt
  line_is_now before (OfEvent event answer) fits f begun now = tt

  middle : (seen before : List Outcome) (x : Outcome) (more : List Outcome) → FitsFromBy w A seen (before ++ x ∷ more) → FitsNextBy w A (seen ++ before) x
  middle seen [] x more fits = subst (λ (b : List Outcome). FitsNextBy w A b x) (sym (append-nil seen)) fits.0
  middle seen (y ∷ before) x more fits = subst (λ (b : List Outcome). FitsNextBy w A b x) (append_assoc seen (y ∷ []) before) (middle (seen ++ y ∷ []) before x more fits.1)

  pub lines_are_now : (before more : List Outcome) → FitsFromBy w A [] (before ++ more) → is_begun S before (length S) ≡ true → AreNowHere given S T before more → AreAtOnce T before more
  lines_are_now before [] fits begun now = tt
  lines_are_now before (x ∷ more) fits begun now = (
    line_is_now before x (front_from w A [] before (x ∷ more) fits) (middle [] before x more fits) begun now.0,
    lines_are_now (before ++ x ∷ []) more (subst (FitsFromBy w A []) (sym (append_assoc before (x ∷ []) more)) fits) (begun_lines S before (x ∷ []) (length S) begun) now.1,
  )
