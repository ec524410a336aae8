-- Slots none of which is bad, where some are freed whose name another slot stands for.
use Rattle.std.proofs.Common.{IsTrue, ◌≡◌, ◌≢◌, ◌⊎◌, inl, inr, ⊎_elim, ℕ, zero, suc, ◌<◌, ◌==◌, Bool, true, false, if◌then◌else◌, Option, None, Some, refl, sym, ◌∙◌, ap, subst, arith}
use Rattle.std.proofs.lemmas.Bool.{cases_eq, cases_lt, false≢true}
use Rattle.zb_cell.specs.Cell.{following}
use Rattle.zb_types.specs.declared.ids.FragId.{FragId}
use Rattle.zb_holding.specs.Carrying.{same_frag}
use Rattle.zb_holding.specs.Fragments.{Fragment, share_fragment, parity_fragment}
use Rattle.zb_slots.specs.Slots.{Slot, Stored, free_slot, full_slot}
use Rattle.zb_slots.specs.Holding.{named, newer, held, is_parity, Repeats, AreTwoParities}
use Rattle.zb_slots.specs.Laws.{SameBut, NoneBut}
use Rattle.zb_slots.proofs.Held.{others_stay, one_holds, none_holds}
use Rattle.zb_slot_map.specs.Tidy.{AreTidy}
use Rattle.zb_holding.proofs.Keys.{same_frag-is}
use Rattle.zb_index.proofs.Following.{same_full}
use Rattle.zb_index.proofs.Held.{named_full, named_is}
use Rattle.zb_slot_map.proofs.Names.{named_other}
use Rattle.zb_slot_map.proofs.Knowing.{not_free}
use Rattle.zb_index.specs.Twins.{NoneIsBad, IsOlder}

stable_parity : (fragment : Fragment) → ((IsTrue (is_parity fragment) → ⊥) → ⊥) → IsTrue (is_parity fragment)
stable_parity (share_fragment bytes) h = absurd (h (λ x. false≢true x))
stable_parity (parity_fragment lengths bytes) h = refl

stable_none : (found : Option Stored) → ((found ≡ None → ⊥) → ⊥) → found ≡ None
stable_none None h = refl
stable_none (Some s) h = absurd (h (λ e. absurd (cc e)))

-- two good slots with one name hold two parities
two : (slots : ℕ → Slot) (n i j : ℕ) (a b : Stored) → NoneIsBad slots n → i < j → j < n → slots i ≡ full_slot a → slots j ≡ full_slot b → b.id ≡ a.id → AreTwoParities slots n i j a b
two slots n i j a b good below within x y same =
    let really : (AreTwoParities slots n i j a b → ⊥) → ⊥ = λ not. good j within (inr (record { i = i; former = a; stored = b; below = below; there = x; here = y; same = same; not_two = not })) in
    record {
      first = stable_parity a.fragment (λ h. really (λ t. h t.first));
      other = stable_parity b.fragment (λ h. really (λ t. h t.other));
      turns = λ e. really (λ t. t.turns e);
      alone = λ k lt ni nj. stable_none (named a.id (slots k)) (λ h. really (λ t. h (t.alone k lt ni nj)));
    }

-- whichever comes first
pub record IsPair (slots : ℕ → Slot) (n i j : ℕ) (a b : Stored) : Type 0 where
  pub turns : a.turn ≢ b.turn
  pub alone : (k : ℕ) → k < n → k ≢ i → k ≢ j → named a.id (slots k) ≡ None

pub pair : (slots : ℕ → Slot) (n i j : ℕ) (a b : Stored) → NoneIsBad slots n → i < n → j < n → i ≢ j → slots i ≡ full_slot a → slots j ≡ full_slot b → b.id ≡ a.id → IsPair slots n i j a b
pair slots n i j a b good li lj ne x y same = elim (cases_lt i j) [
  | inl low ↦ let t = two slots n i j a b good low lj x y same in record { turns = t.turns; alone = t.alone }
  | inr high ↦
      let t = two slots n j i b a good (omega (arith, high, ne)) li y x (sym same) in
      record { turns = λ e. t.turns (sym e); alone = λ k lt ni nj. ap (λ (q : FragId). named q (slots k)) (sym same) ∙ t.alone k lt nj ni }
]

-- where what is held stands
pub record StandsIn (slots : ℕ → Slot) (n : ℕ) (id : FragId) (s : Stored) : Type 0 where
  pub i : ℕ
  pub within : i < n
  pub full : slots i ≡ full_slot s
  pub same : s.id ≡ id

newer_is : (a b : Option Stored) (s : Stored) → newer a b ≡ Some s → (a ≡ Some s) ⊎ (b ≡ Some s)
newer_is None b s h = inr h
newer_is (Some x) None s h = inl h
newer_is (Some x) (Some y) s h = pick (y.turn == following x.turn) h
  where
    pick : (t : Bool) → (if t then Some y else Some x) ≡ Some s → (Some x ≡ Some s) ⊎ (Some y ≡ Some s)
    pick true h = inr h
    pick false h = inl h

pub stands_in : (slots : ℕ → Slot) (n : ℕ) (id : FragId) (s : Stored) → held slots n id ≡ Some s → StandsIn slots n id s
stands_in slots zero id s h = absurd (cc h)
stands_in slots (suc n) id s h = ⊎_elim
    (λ low. let t = stands_in slots n id s low in record { i = t.i; within = omega (arith, t.within); full = t.full; same = t.same })
    (λ last. let t = named_is (slots n) id s last in record { i = n; within = omega arith; full = t.full; same = t.name })
    (newer_is (held slots n id) (named id (slots n)) s h)

-- slots that are as before or free
module _ (slots now : ℕ → Slot) (n : ℕ) (freed : (k : ℕ) → k < n → (now k ≡ slots k) ⊎ (now k ≡ free_slot)) where
  was_full : (k : ℕ) (s : Stored) → k < n → now k ≡ full_slot s → slots k ≡ full_slot s
  was_full k s lt is = ⊎_elim (λ same. sym same ∙ is) (λ free. absurd (not_free s (sym free ∙ is))) (freed k lt)

  still_none : (k : ℕ) (id : FragId) → k < n → named id (slots k) ≡ None → named id (now k) ≡ None
  still_none k id lt none = ⊎_elim (λ same. ap (named id) same ∙ none) (λ free. ap (named id) free) (freed k lt)

  repeats_not : NoneIsBad slots n → (j : ℕ) → j < n → Repeats now n j → ⊥
  repeats_not good j lt r =
      let low : r.i < n = omega (arith, r.below, lt) in
      let t = two slots n r.i j r.former r.stored good r.below lt (was_full r.i r.former low r.there) (was_full j r.stored lt r.here) r.same in
      r.not_two (record { first = t.first; other = t.other; turns = t.turns; alone = λ k lk ni nj. still_none k r.former.id lk (t.alone k lk ni nj) })

  pub still_good : NoneIsBad slots n → NoneIsBad now n
  still_good good j lt bad = ⊎_elim
      (λ h. ⊎_elim (λ same. good j lt (inl (sym same ∙ h))) (λ free. absurd (cc (sym free ∙ h))) (freed j lt))
      (λ r. repeats_not good j lt r)
      bad

-- where nothing else changes, what is held decides which parities are older
pub older_again : (slots now : ℕ → Slot) (n k : ℕ) → now k ≡ slots k → ((id : FragId) → held now n id ≡ held slots n id) → IsOlder slots n k → IsOlder now n k
older_again slots now n k same map h = record {
  stored = h.stored;
  newest = h.newest;
  within = h.within;
  full = same ∙ h.full;
  stands = map h.stored.id ∙ h.stands;
  other = h.other;
}

-- the older of two parities is freed
module _ (slots now : ℕ → Slot) (n j : ℕ) (good : NoneIsBad slots n) (older : IsOlder slots n j) (others : SameBut n j slots now) (gone : now j ≡ free_slot) where
  pub as_before_or_free : (k : ℕ) → k < n → (now k ≡ slots k) ⊎ (now k ≡ free_slot)
  as_before_or_free k lt = elim (cases_eq k j) [
    | inl is ↦ inr (ap now is ∙ gone)
    | inr not ↦ inl (others k lt not)
  ]

  place : StandsIn slots n older.stored.id older.newest
  place = stands_in slots n older.stored.id older.newest older.stands

  elsewhere : place.i ≢ j
  elsewhere e = older.other (ap (λ (s : Stored). s.turn) (same_full older.newest older.stored (sym place.full ∙ ap slots e ∙ older.full)))

  the_pair : IsPair slots n j place.i older.stored older.newest
  the_pair = pair slots n j place.i older.stored older.newest good older.within place.within (λ e. elsewhere (sym e)) older.full place.full place.same

  none_but : NoneBut n place.i older.stored.id now
  none_but = λ k lt ni. elim (cases_eq k j) [
    | inl is ↦ ap (named older.stored.id) (ap now is ∙ gone)
    | inr nj ↦ ap (named older.stored.id) (others k lt nj) ∙ the_pair.alone k lt nj ni
  ]

  held_name : held now n older.stored.id ≡ held slots n older.stored.id
  held_name =
      one_holds n place.i older.stored.id now place.within none_but
      ∙ ap (named older.stored.id) (others place.i place.within elsewhere ∙ place.full)
      ∙ named_full older.newest older.stored.id place.same
      ∙ sym older.stands

  held_by : (id : FragId) (b : Bool) → same_frag older.stored.id id ≡ b → held now n id ≡ held slots n id
  held_by id true is = subst (λ (q : FragId). held now n q ≡ held slots n q) (same_frag-is older.stored.id id is) held_name
  held_by id false is = others_stay n j id slots now others (ap (named id) older.full ∙ named_other older.stored older.stored.id id refl is) (ap (named id) gone)

  pub held_same : (id : FragId) → held now n id ≡ held slots n id
  held_same id = held_by id (same_frag older.stored.id id) refl

  -- the others are older as before
  pub still_older : (k : ℕ) → k ≢ j → IsOlder slots n k → IsOlder now n k
  still_older k ne h = older_again slots now n k (others k h.within ne) held_same h

  pub was_older : (k : ℕ) → IsOlder now n k → IsOlder slots n k
  was_older k h = elim (cases_eq k j) [
    | inl is ↦ absurd (not_free h.stored (sym gone ∙ ap now (sym is) ∙ h.full))
    | inr not ↦ older_again now slots n k (sym (others k h.within not)) (λ id. sym (held_same id)) h
  ]

-- good slots of which none is older are tidy
module _ (slots : ℕ → Slot) (n : ℕ) (good : NoneIsBad slots n) (none : (j : ℕ) → IsOlder slots n j → ⊥) where
  older_by : (i j : ℕ) (a b : Stored) → i < n → j < n → slots i ≡ full_slot a → slots j ≡ full_slot b → b.id ≡ a.id → a.turn ≢ b.turn → (found : Option Stored) → held slots n a.id ≡ found → ⊥
  older_by i j a b li lj x y same turns None h = absurd (cc (sym (named_full a a.id refl) ∙ ap (named a.id) (sym x) ∙ none_holds n i a.id slots h li))
  older_by i j a b li lj x y same turns (Some s) h = elim (cases_eq s.turn a.turn) [
    | inl is ↦ none j (record { stored = b; newest = s; within = lj; full = y; stands = ap (held slots n) same ∙ h; other = λ e. turns (sym is ∙ e) })
    | inr not ↦ none i (record { stored = a; newest = s; within = li; full = x; stands = h; other = not })
  ]

  pub tidy_when_none : AreTidy n slots
  tidy_when_none = record {
    good = λ j lt bad. good j lt (inl bad);
    once = λ i j a b li lj x y e. elim (cases_eq i j) [
      | inl is ↦ is
      | inr not ↦ absurd (older_by i j a b li lj x y (sym e) (pair slots n i j a b good li lj not x y (sym e)).turns (held slots n a.id) refl)
    ];
  }
