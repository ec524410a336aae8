-- What a change of one slot does to what all hold.
use Rattle.std.proofs.Common.{◌≡◌, ◌≢◌, inl, inr, ℕ, zero, suc, ◌+◌, ◌<◌, ◌==◌, Bool, true, false, if◌then◌else◌, Option, None, Some, refl, sym, ◌∙◌, ap, arith}
use Rattle.std.proofs.lemmas.Bool.{cases_eq}
use Rattle.std.proofs.lemmas.Bool.Decides.{nat_tests}
use Rattle.zb_cell.specs.Cell.{following}
use Rattle.zb_types.specs.declared.ids.FragId.{FragId}
use Rattle.zb_slots.specs.Slots.{Slot, Stored}
use Rattle.zb_slots.specs.Holding.{named, newer, held, free_in, free_count}
use Rattle.zb_slots.specs.Laws.{OtherNamesStay, OneHolds, NoneHolds, NewerCounts, CountsOne}

-- no slot holds the name
pub none_held : (n : ℕ) (id : FragId) (slots : ℕ → Slot) → ((k : ℕ) → k < n → named id (slots k) ≡ None) → held slots n id ≡ None
none_held zero id slots none = refl
none_held (suc n) id slots none = λ i. newer (none_held n id slots (λ k lt. none k (omega arith)) i) (none n (omega arith) i)

-- below a slot that both name alike, or not at all
pub same_held : (n : ℕ) (id : FragId) (before now : ℕ → Slot) → ((k : ℕ) → k < n → named id (now k) ≡ named id (before k)) → held now n id ≡ held before n id
same_held zero id before now same = refl
same_held (suc n) id before now same = λ i. newer (same_held n id before now (λ k lt. same k (omega arith)) i) (same n (omega arith) i)

pub others_stay : OtherNamesStay
others_stay n i id before now same was is = same_held n id before now (λ k lt. elim (cases_eq k i) [
  | inl here ↦ ap (λ (j : ℕ). named id (now j)) here ∙ is ∙ sym was ∙ sym (ap (λ (j : ℕ). named id (before j)) here)
  | inr not ↦ ap (named id) (same k lt not)
])

newer_none : (found : Option Stored) → newer found None ≡ found
newer_none None = refl
newer_none (Some stored) = refl

pub one_holds : OneHolds
one_holds zero i id slots within none = absurd (omega arith)
one_holds (suc n) i id slots within none = elim (cases_eq i n) [
  | inl last ↦ (λ j. newer (none_held n id slots (λ k lt. none k (omega arith) (omega (arith, last))) j) (named id (slots n))) ∙ sym (ap (λ (k : ℕ). named id (slots k)) last)
  | inr not ↦ (λ j. newer (one_holds n i id slots (omega arith) (λ k lt ne. none k (omega arith) ne) j) (none n (omega arith) (λ e. not (sym e)) j)) ∙ newer_none (named id (slots i))
]

newer_found : (a b : Option Stored) → newer a b ≡ None → (a ≡ None) × (b ≡ None)
newer_found None b h = (refl, h)
newer_found (Some x) None h = absurd (cc h)
newer_found (Some x) (Some y) h = pick (y.turn == following x.turn) h
  where
    pick : (t : Bool) → (if t then Some y else Some x) ≡ None → (Some x ≡ None) × (Some y ≡ None)
    pick true h = absurd (cc h)
    pick false h = absurd (cc h)

pub none_holds : NoneHolds
none_holds zero i id slots none within = absurd (omega arith)
none_holds (suc n) i id slots none within = elim (cases_eq i n) [
  | inl last ↦ ap (λ (k : ℕ). named id (slots k)) last ∙ (newer_found _ _ none).1
  | inr not ↦ none_holds n i id slots (newer_found _ _ none).0 (omega arith)
]

newer_follows : (x y : Stored) → y.turn ≡ following x.turn → newer (Some x) (Some y) ≡ Some y
newer_follows x y e = grind (arith, nat_tests)

newer_stays : (x y : Stored) → x.turn < 3 → y.turn ≡ following x.turn → newer (Some y) (Some x) ≡ Some y
newer_stays x y small e = let ne : x.turn ≢ following y.turn = omega (arith, e, small) in grind (arith, nat_tests)

pub newer_counts : NewerCounts
newer_counts zero i j id slots x y h = absurd (omega (arith, h.within))
newer_counts (suc n) i j id slots x y h = elim (cases_eq j n) [
  | inl last ↦
      let first : held slots n id ≡ Some x = one_holds n i id slots (omega (arith, h.within, h.apart, last)) (λ k lt ne. h.alone k (omega arith) ne (omega (arith, last))) ∙ h.there in
      (λ k. newer (first k) (named id (slots n))) ∙ (λ k. newer (Some x) ((ap (λ (m : ℕ). named id (slots m)) (sym last) ∙ h.here) k)) ∙ newer_follows x y h.follows
  | inr not ↦ elim (cases_eq i n) [
    | inl last ↦
        let first : held slots n id ≡ Some y = one_holds n j id slots (omega (arith, h.also)) (λ k lt ne. h.alone k (omega arith) (omega (arith, last)) ne) ∙ h.here in
        (λ k. newer (first k) (named id (slots n))) ∙ (λ k. newer (Some y) ((ap (λ (m : ℕ). named id (slots m)) (sym last) ∙ h.there) k)) ∙ newer_stays x y h.turn h.follows
    | inr neither ↦
        let below : held slots n id ≡ Some y = newer_counts n i j id slots x y (record {
          within = omega (arith, h.within);
          also = omega (arith, h.also);
          apart = h.apart;
          there = h.there;
          here = h.here;
          turn = h.turn;
          follows = h.follows;
          alone = λ k lt a b. h.alone k (omega arith) a b;
        }) in
        (λ k. newer (below k) (h.alone n (omega arith) (λ e. neither (sym e)) (λ e. not (sym e)) k))
  ]
]

same_count : (n : ℕ) (before now : ℕ → Slot) → ((k : ℕ) → k < n → now k ≡ before k) → free_count now n ≡ free_count before n
same_count zero before now same = refl
same_count (suc n) before now same = λ i. free_count_step (same_count n before now (λ k lt. same k (omega arith)) i) (same n (omega arith) i)
  where
    free_count_step : ℕ → Slot → ℕ
    free_count_step c s = c + free_in s

pub counts_one : CountsOne
counts_one zero i before now within same = absurd (omega arith)
counts_one (suc n) i before now within same = elim (cases_eq i n) [
  | inl last ↦
      let rest : free_count now n ≡ free_count before n = same_count n before now (λ k lt. same k (omega arith) (omega (arith, last))) in
      let b : free_in (before i) ≡ free_in (before n) = ap (λ (k : ℕ). free_in (before k)) last in
      let a : free_in (now i) ≡ free_in (now n) = ap (λ (k : ℕ). free_in (now k)) last in
      omega (arith, rest, a, b)
  | inr not ↦
      let rest = counts_one n i before now (omega arith) (λ k lt ne. same k (omega arith) ne) in
      let a : free_in (now n) ≡ free_in (before n) = ap free_in (same n (omega arith) (λ e. not (sym e))) in
      omega (arith, rest, a)
]
