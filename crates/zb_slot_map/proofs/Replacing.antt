-- A parity that replaces another: first both stand, and then the newer alone.
use Rattle.std.proofs.Common.{IsTrue, ◌≡◌, ◌≢◌, inl, inr, ⊎_elim, ℕ, ◌<◌, ◌==◌, Bool, true, false, if◌then◌else◌, Option, None, Some, refl, sym, ◌∙◌, ap, subst, arith}
use Rattle.std.proofs.lemmas.Bool.{cases_eq}
use Rattle.std.proofs.lemmas.Bool.Decides.{nat_tests}
use Rattle.zb_cell.specs.Cell.{following}
use Rattle.zb_types.specs.declared.ids.FragId.{FragId}
use Rattle.zb_holding.specs.Carrying.{same_frag}
use Rattle.zb_holding.specs.Fragments.{Fragment}
use Rattle.zb_slots.specs.Slots.{Slot, Stored, free_slot, full_slot}
use Rattle.zb_slots.specs.Holding.{named, held, fragment_of, is_parity, IsBad, Repeats, AreTwoParities}
use Rattle.zb_slots.specs.Laws.{SameBut}
use Rattle.zb_slots.proofs.Held.{others_stay, newer_counts}
use Rattle.zb_slot_map.specs.Tidy.{AreTidy, put}
use Rattle.zb_slot_map.specs.Changing.{MayChange}
use Rattle.zb_holding.proofs.Keys.{same_frag-is}
use Rattle.zb_index.proofs.Following.{same_full}
use Rattle.zb_index.proofs.Held.{named_full}
use Rattle.zb_slot_map.proofs.Names.{named_other}
use Rattle.zb_slot_map.proofs.Changes.{none_but, tidy_next, held_next}
use Rattle.zb_slot_map.proofs.Knowing.{same_id, no_other, may_free, not_free}

-- slot i holds a parity, slot j is free, and another parity of the same name follows the first
pub record MayReplace (n i j : ℕ) (s t : Stored) (before : ℕ → Slot) : Type 0 where
  pub tidy : AreTidy n before
  pub within : i < n
  pub also : j < n
  pub was : before i ≡ full_slot s
  pub is_free : before j ≡ free_slot
  pub one : t.id ≡ s.id
  pub small : s.turn < 3
  pub follows : t.turn ≡ following s.turn
  pub first : IsTrue (is_parity s.fragment)
  pub other : IsTrue (is_parity t.fragment)

module _ (n i j : ℕ) (s t : Stored) (before : ℕ → Slot) (may : MayReplace n i j s t before) where
  pub apart : j ≢ i
  apart e = absurd (not_free s (sym may.is_free ∙ ap before e ∙ may.was))

  turns : t.turn ≢ s.turn
  turns e = omega (arith, e, may.follows, may.small)

  -- both stand
  module _ (both : ℕ → Slot) (same : SameBut n j before both) (here : both j ≡ full_slot t) where
    there : both i ≡ full_slot s
    there = same i may.within (λ e. apart (sym e)) ∙ may.was

    none_else : (k : ℕ) → k < n → k ≢ i → k ≢ j → named s.id (both k) ≡ None
    none_else k lt ni nj = ap (named s.id) (same k lt nj) ∙ no_other n i s before may.tidy may.within may.was k lt ni

    pub both_held : held both n s.id ≡ Some t
    both_held = newer_counts n i j s.id both s t (record {
      within = may.within;
      also = may.also;
      apart = apart;
      there = ap (named s.id) there ∙ named_full s s.id refl;
      here = ap (named s.id) here ∙ named_full t s.id may.one;
      turn = may.small;
      follows = may.follows;
      alone = none_else;
    })

    both_by : (q : FragId) (b : Bool) → same_frag s.id q ≡ b → fragment_of (held both n q) ≡ (if b then Some t.fragment else fragment_of (held before n q))
    both_by q true is = ap (λ (a : FragId). fragment_of (held both n a)) (sym (same_frag-is s.id q is)) ∙ ap fragment_of both_held
    both_by q false is = ap fragment_of (others_stay n j q before both same (ap (named q) may.is_free) (ap (named q) here ∙ named_other t s.id q may.one is))

    pub both_map : (q : FragId) → fragment_of (held both n q) ≡ put s.id (Some t.fragment) (λ x. fragment_of (held before n x)) q
    both_map q = both_by q (same_frag s.id q) refl

    -- no slot but these two holds the name
    stranger : (k : ℕ) (a : Stored) → k < n → k ≢ i → k ≢ j → both k ≡ full_slot a → a.id ≡ s.id → ⊥
    stranger k a lt ni nj x e = absurd (cc (sym (named_full a s.id e) ∙ ap (named s.id) (sym x) ∙ none_else k lt ni nj))

    two_up : (a b : Stored) → s ≡ a → t ≡ b → AreTwoParities both n i j a b
    two_up a b x y = record {
      first = subst (λ (u : Stored). IsTrue (is_parity u.fragment)) x may.first;
      other = subst (λ (u : Stored). IsTrue (is_parity u.fragment)) y may.other;
      turns = λ e. turns (ap (λ (u : Stored). u.turn) y ∙ sym e ∙ sym (ap (λ (u : Stored). u.turn) x));
      alone = λ k lt ni nj. ap (λ (u : Stored). named u.id (both k)) (sym x) ∙ none_else k lt ni nj;
    }

    two_down : (a b : Stored) → t ≡ a → s ≡ b → AreTwoParities both n j i a b
    two_down a b x y = record {
      first = subst (λ (u : Stored). IsTrue (is_parity u.fragment)) x may.other;
      other = subst (λ (u : Stored). IsTrue (is_parity u.fragment)) y may.first;
      turns = λ e. turns (ap (λ (u : Stored). u.turn) x ∙ e ∙ sym (ap (λ (u : Stored). u.turn) y));
      alone = λ k lt nj ni. ap (λ (u : Stored). named u.id (both k)) (sym x) ∙ ap (λ (q : FragId). named q (both k)) may.one ∙ none_else k lt ni nj;
    }

    at_new : (r : Repeats both n j) → ⊥
    at_new r =
        let b : t ≡ r.stored = same_full t r.stored (sym here ∙ r.here) in
        let e : r.former.id ≡ s.id = sym r.same ∙ sym (ap (λ (u : Stored). u.id) b) ∙ may.one in
        elim (cases_eq r.i i) [
          | inl is ↦ r.not_two (subst (λ (k : ℕ). AreTwoParities both n k j r.former r.stored) (sym is) (two_up r.former r.stored (same_full s r.former (sym there ∙ ap both (sym is) ∙ r.there)) b))
          | inr not ↦ stranger r.i r.former (omega (arith, r.below, may.also)) not (omega (arith, r.below)) r.there e
        ]

    at_former : (r : Repeats both n i) → ⊥
    at_former r =
        let b : s ≡ r.stored = same_full s r.stored (sym there ∙ r.here) in
        let e : r.former.id ≡ s.id = sym r.same ∙ sym (ap (λ (u : Stored). u.id) b) in
        elim (cases_eq r.i j) [
          | inl is ↦ r.not_two (subst (λ (k : ℕ). AreTwoParities both n k i r.former r.stored) (sym is) (two_down r.former r.stored (same_full t r.former (sym here ∙ ap both (sym is) ∙ r.there)) b))
          | inr not ↦ stranger r.i r.former (omega (arith, r.below, may.within)) (omega (arith, r.below)) not r.there e
        ]

    elsewhere : (k : ℕ) → k < n → k ≢ i → k ≢ j → (r : Repeats both n k) → ⊥
    elsewhere k lt ni nj r = elim (cases_eq r.i j) [
      | inl is ↦
          let a : t ≡ r.former = same_full t r.former (sym here ∙ ap both (sym is) ∙ r.there) in
          stranger k r.stored lt ni nj r.here (r.same ∙ sym (ap (λ (u : Stored). u.id) a) ∙ may.one)
      | inr not ↦
          let low : r.i < n = omega (arith, r.below, lt) in
          omega (arith, r.below, may.tidy.once r.i k r.former r.stored low lt (sym (same r.i low not) ∙ r.there) (sym (same k lt nj) ∙ r.here) (sym r.same))
    ]

    pub both_good : (k : ℕ) → k < n → IsBad both n k → ⊥
    both_good k lt bad = elim (cases_eq k j) [
      | inl new ↦ ⊎_elim (λ h. absurd (cc (sym here ∙ ap both (sym new) ∙ h))) (λ r. at_new (subst (Repeats both n) new r)) bad
      | inr nj ↦ elim (cases_eq k i) [
        | inl former ↦ ⊎_elim (λ h. absurd (cc (sym there ∙ ap both (sym former) ∙ h))) (λ r. at_former (subst (Repeats both n) former r)) bad
        | inr ni ↦ ⊎_elim (λ h. may.tidy.good k lt (sym (same k lt nj) ∙ h)) (λ r. elsewhere k lt ni nj r) bad
      ]
    ]

  -- as before, but with slot i free
  emptied : ℕ → Slot
  emptied k = if k == i then free_slot else before k

  emptied_here : emptied i ≡ free_slot
  unfolding emptied
  emptied_here = grind (arith, nat_tests)

  emptied_other : (k : ℕ) → k ≢ i → emptied k ≡ before k
  unfolding emptied
  emptied_other k ne = grind (arith, nat_tests)

  empties : SameBut n i before emptied
  empties = λ k lt ne. emptied_other k ne

  may_empty : MayChange n i s.id free_slot before
  may_empty = may_free n i s before may.tidy may.within may.was

  may_fill_again : MayChange n j s.id (full_slot t) emptied
  may_fill_again = record {
    tidy = tidy_next n i s.id free_slot before emptied may_empty empties emptied_here;
    within = may.also;
    others = λ k lt ne. elim (cases_eq k i) [
      | inl is ↦ ap (λ (x : ℕ). named s.id (emptied x)) is ∙ ap (named s.id) emptied_here
      | inr not ↦ none_but n i s.id free_slot before emptied may_empty empties emptied_here k lt not
    ];
    was = λ u h. absurd (not_free u (sym may.is_free ∙ sym (emptied_other j apart) ∙ h));
    is = λ u h. same_id t u h ∙ may.one;
    good = λ h. absurd (cc h);
  }

  put_again : (q : FragId) (b : Bool) (x y z : Option Fragment) → (if b then x else (if b then y else z)) ≡ (if b then x else z)
  put_again q true x y z = refl
  put_again q false x y z = refl

  -- the newer one stands alone
  module _ (now : ℕ → Slot) (same : (k : ℕ) → k < n → k ≢ i → k ≢ j → now k ≡ before k) (gone : now i ≡ free_slot) (here : now j ≡ full_slot t) where
    same_emptied : SameBut n j emptied now
    same_emptied = λ k lt nj. elim (cases_eq k i) [
      | inl is ↦ ap now is ∙ gone ∙ sym emptied_here ∙ ap emptied (sym is)
      | inr ni ↦ same k lt ni nj ∙ sym (emptied_other k ni)
    ]

    pub alone_tidy : AreTidy n now
    alone_tidy = tidy_next n j s.id (full_slot t) emptied now may_fill_again same_emptied here

    pub alone_map : (q : FragId) → fragment_of (held now n q) ≡ put s.id (Some t.fragment) (λ x. fragment_of (held before n x)) q
    alone_map q =
        let first = held_next n i s.id free_slot before emptied may_empty empties emptied_here q in
        let second = held_next n j s.id (full_slot t) emptied now may_fill_again same_emptied here q in
        let b = same_frag s.id q in
        second
        ∙ (λ k. if b then fragment_of (named_full t s.id may.one k) else first k)
        ∙ put_again q b (Some t.fragment) None (fragment_of (held before n q))
