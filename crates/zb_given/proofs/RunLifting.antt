-- From what was given to the script.
use Rattle.std.proofs.Common.{◌≡◌, ℕ, zero, suc, ◌+◌, ◌<◌, Bool, true, false, List, [], ◌∷◌, ◌++◌, length, take, Some, refl, sym, ap, subst, ◌∙◌, append_assoc, arith, inl, inr}
use Rattle.std.specs.Prelude.{map, nat_le, ◌⊎◌}
use Rattle.std.specs.List.{list_any}
use Rattle.std.proofs.lemmas.List.{append-nil, length-map, map-append}
use Rattle.std.proofs.lemmas.List.Elements.{filter-append}
use Rattle.zb_types.specs.declared.calls.Call.{Call}
use Rattle.zb_types.specs.declared.calls.Reply.{Reply}
use Rattle.zb_types.specs.declared.nodes.Node.TheVariants.{Manager}
use Rattle.zb_types.specs.declared.lines.Line.{Line}
use Rattle.zb_types.specs.declared.lines.Line.TheVariants.{Call as CallLine}
use Rattle.zb_types.specs.declared.lines.Said.TheVariants.{Reply as Replied}
use Rattle.zb_types.specs.declared.lines.Outcome.{Outcome}
use Rattle.zb_types.specs.declared.lines.Outcome.TheVariants.{Call as OfCall}
use Rattle.zb_types.specs.Apply.{is_update, reply_to}
use Rattle.zb_claims.specs.Points.{crashes, is_about, asked_of, is_begun, tree_at}
use Rattle.zb_claims.specs.Fits.{clock_of_run, FitsBy, FitLines}
use Rattle.zb_laws.proofs.Tests.{first_true, last_true, or_cases}
use Rattle.zb_laws.proofs.ReadPoints.{tells_legal}
use Rattle.zb_laws.proofs.Order.{in_order}
use Rattle.zb_given.specs.Given.{Item, Given, script_of, point, clock_of_given, FitGiven}
use Rattle.zb_given.specs.Gives.{without_steps, with_plus, about, are_begun, are_over, IsNow, IsAtOnce, AreAtOnce, GivesBySubject}
use Rattle.zb_given.specs.Lifts.{SameHistory, TellsLegalGiven, LiftsRun, LiftsThreads, BySubject}
use Rattle.zb_given.proofs.Small.{on, nat_le_is}
use Rattle.zb_given.proofs.Parts.{within}
use Rattle.zb_given.proofs.Plus.{plus_about, asked_of_plus, take_plus, same_place}
use Rattle.zb_given.proofs.StepLines.{about_steps, steps_twice}
use Rattle.zb_given.proofs.Begun.{begun_since}
use Rattle.zb_given.proofs.Carry.{Extends, Carries, before_crash_by, carry, all_asked, same_history}
use Rattle.zb_given.proofs.StepLifting.{steps_anywhere}

pub history_back : (A B : List Line) (lines : List Outcome) → SameHistory B A lines → SameHistory A B lines
history_back A B lines h = record { dids = sym h.dids; reads = sym h.reads; tree = sym h.tree }

-- With threads.

threads_carry : (script : List Line) (given : Given) (lines : List Outcome) → GivesBySubject script given → Carries (script_of given) script (clock_of_given given) (clock_of_run false script) lines
threads_carry script given lines gives = record {
  extends = gives;
  begun = λ s n j place l other a b front rest split h. refl;
  manager = λ s n j place l other a b before h. refl;
  over = λ front rest split h. refl;
  at_once = λ before after client n reply where_at j place p q call a b is. inl (λ v_ordered no_plus. on (sym v_ordered));
}

pub lifts_threads : LiftsThreads
lifts_threads script given lines gives g = (
  carry (script_of given) script (clock_of_given given) (clock_of_run false script) lines (threads_carry script given lines gives) g.fits,
  history_back (script_of given) script lines (same_history (script_of given) script gives lines (all_asked (clock_of_given given) (script_of given) [] lines g.fits)),
)

pub tells_legal_given : TellsLegalGiven
tells_legal_given given lines g =
    let fits : FitLines false (script_of given) lines = (lifts_threads (script_of given) given lines (λ s. ([], sym (append-nil (map with_plus (about s (script_of given)))))) g).0 in
    (tells_legal false (script_of given) lines fits, in_order false (script_of given) lines fits)

-- In the script's order.

begun_at : (script : List Line) (lines : List Outcome) (place : ℕ) (items : List Item) (k : ℕ) → are_begun script lines place items ≡ true → k < length items → is_begun script (take (point items k) lines) (place + k) ≡ true
begun_at script lines place [] k h lt = absurd (omega (arith, lt))
begun_at script lines place (item ∷ items) zero h lt =
    let here : place + 0 ≡ place = omega arith in
    ap (is_begun script (take item.at lines)) here ∙ first_true (is_begun script (take item.at lines) place) (are_begun script lines (suc place) items) h
begun_at script lines place (item ∷ items) (suc k) h lt =
    let there : place + suc k ≡ suc place + k = omega arith in
    ap (is_begun script (take (point items k) lines)) there ∙ begun_at script lines (suc place) items k (last_true (is_begun script (take item.at lines) place) (are_begun script lines (suc place) items) h) (omega (arith, lt))

over_at : (script : List Line) (lines front rest : List Outcome) (finishes : List ℕ) → lines ≡ front ++ rest → are_over script lines finishes ≡ true → list_any (λ at. nat_le at (length front)) finishes ≡ true → is_begun script front (length script) ≡ true
over_at script lines front rest [] split h some = absurd cc
over_at script lines front rest (at ∷ finishes) split h some =
    elim (or_cases (nat_le at (length front)) (list_any (λ at. nat_le at (length front)) finishes) some) as (λ _. is_begun script front (length script) ≡ true) [
      | inl e ↦ begun_since script lines front rest at (length script) split (nat_le_is at (length front) e) (first_true (is_begun script (take at lines) (length script)) (are_over script lines finishes) h)
      | inr e ↦ over_at script lines front rest finishes split (last_true (is_begun script (take at lines) (length script)) (are_over script lines finishes) h) e
    ]

once_at : (script : List Line) (before mid after : List Outcome) (line : Outcome) → AreAtOnce script before (mid ++ line ∷ after) → IsAtOnce script (before ++ mid) line
once_at script before [] after line h = subst (λ (b : List Outcome). IsAtOnce script b line) (sym (append-nil before)) h.0
once_at script before (x ∷ mid) after line h = subst (λ (b : List Outcome). IsAtOnce script b line) (append_assoc before (x ∷ []) mid) (once_at script (before ++ x ∷ []) mid after line h.1)

pub plus_extend : (S : List Line) → Extends (map with_plus S) S
plus_extend S s = ([], sym (plus_about s S) ∙ sym (append-nil (map with_plus (about s (map with_plus S)))))

module _ (S : List Line) (given : Given) (lines : List Outcome) (begun : are_begun S lines 0 given.items ≡ true) (over : are_over S lines given.finishes ≡ true) (once : AreAtOnce S [] lines) (is : script_of given ≡ map with_plus S) where
  now_or_plus : (before : List Outcome) (client n place : ℕ) (p q : Bool) (call : Call) (reply : Reply) → is_update call ≡ false → IsNow S before reply (Some (place, CallLine q client call))
      → (true ≡ true → q ≡ false → (false ≡ true) × (p ≡ false)) ⊎ (reply ≡ reply_to (tree_at S before) call)
  now_or_plus before client n place p false call reply read now = inr (now read)
  now_or_plus before client n place p true call reply read now = inl (λ v_ordered no_plus. on no_plus)

  pub plus_carry : Carries (map with_plus S) S (clock_of_given given) (clock_of_run true S) lines
  plus_carry = record {
    extends = plus_extend S;
    begun = λ s n j place l other a b front rest split h.
        let same : j ≡ place = same_place s n S j place l other a b in
        let lt : j < length given.items = omega (arith, within (map with_plus S) s n j l a, ap length is, length-map given.items (λ (item : Item). item.line)) in
        let here : 0 + j ≡ place = omega (arith, same) in
        begun_since S lines front rest (point given.items j) place split (nat_le_is (point given.items j) (length front) h) (subst (λ k. is_begun S (take (point given.items j) lines) k ≡ true) here (begun_at S lines 0 given.items j begun lt));
    manager = λ s n j place l other a b before h.
        let same : j ≡ place = same_place s n S j place l other a b in
        let counts : asked_of (crashes Manager) (take j (map with_plus S)) ≡ asked_of (crashes Manager) (take place S) = ap (asked_of (crashes Manager)) (take_plus j S) ∙ asked_of_plus (crashes Manager) (take j S) ∙ ap (λ k. asked_of (crashes Manager) (take k S)) same in
        sym (before_crash_by (map with_plus S) S before j place counts) ∙ h;
    over = λ front rest split h. over_at S lines front rest given.finishes split over h;
    at_once = λ before after client n reply at j place p q call a b read.
        let here : IsAtOnce S before (OfCall client n (Replied reply)) = once_at S [] before after (OfCall client n (Replied reply)) (subst (AreAtOnce S []) at once) in
        now_or_plus before client n place p q call reply read (subst (IsNow S before reply) b here);
  }

  lifts_plus : FitGiven given lines → FitLines true S lines
  lifts_plus g = carry (map with_plus S) S (clock_of_given given) (clock_of_run true S) lines plus_carry (subst (λ (x : List Line). FitsBy (clock_of_given given) x lines) is g.fits)

pub gives_extend : (script : List Line) (given : Given) → script_of given ≡ map with_plus (without_steps script) → Extends (script_of given) script
gives_extend script given is s = (
  [],
  ap (map with_plus) (sym (about_steps s script)) ∙ sym (plus_about s (without_steps script)) ∙ ap (λ (x : List Line). map with_plus (about s x)) (sym is) ∙ sym (append-nil (map with_plus (about s (script_of given)))),
)

pub lifts_run : LiftsRun
lifts_run script given lines gives g = (
  steps_anywhere true (without_steps script) script lines (steps_twice script) (lifts_plus (without_steps script) given lines gives.begun gives.over gives.at_once gives.items g),
  history_back (script_of given) script lines (same_history (script_of given) script (gives_extend script given gives.items) lines (all_asked (clock_of_given given) (script_of given) [] lines g.fits)),
)

pub by_subject : BySubject
by_subject script later given lines gives s =
    let here = gives_extend script given gives.items s in (
      here.0 ++ map with_plus (about s later),
      ap (map with_plus) (filter-append (is_about s) script later) ∙ map-append with_plus (about s script) (about s later)
          ∙ ap (λ (l : List Line). l ++ map with_plus (about s later)) here.1 ∙ append_assoc (map with_plus (about s (script_of given))) here.0 (map with_plus (about s later)),
    )
