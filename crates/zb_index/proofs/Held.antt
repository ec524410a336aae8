-- What an index finds, and what slots hold.
use Rattle.std.proofs.Common.{◌≡◌, ◌≢◌, ℕ, zero, suc, ◌+◌, ◌<◌, ◌≤◌, Option, Some, None, List, [], ◌∷◌, length, refl, sym, ap, ◌∙◌, inl, inr, arith}
use Rattle.std.specs.Prelude.{if◌then◌else◌, nat_lt}
use Rattle.std.proofs.lemmas.Bool.{cases_Bool, cases_lt, cond-true, cond-false, lt-ltb, le-ltb, cases_order}
use Rattle.std.proofs.lemmas.Option.{none-some, same_Some}
use Rattle.zb_types.specs.declared.ids.FragId.{FragId}
use Rattle.zb_holding.specs.Carrying.{same_frag}
use Rattle.zb_slots.specs.Slots.{Slot, Stored, bad_slot, free_slot, full_slot}
use Rattle.zb_slots.specs.Holding.{named, free_in, free_count}
use Rattle.zb_slots.proofs.Held.{none_held, one_holds}
use Rattle.zb_index.specs.declared.spot.Spot.{Spot}
use Rattle.zb_index.specs.Free.{once, times}
use Rattle.zb_index.specs.Indexed.{Agree, spot_at}
use Rattle.zb_index.specs.Seen.{spot_of}
use Rattle.zb_index.specs.Laws.{NotFoundNotHeld, FoundHeld, NamesAreHeldOnce, FreeAreCounted, DependsOnItsSlots}
use Rattle.zb_index.proofs.Counting.{once_same, once_other}
use Rattle.zb_index.proofs.Following.{Spots}
use Rattle.zb_holding.proofs.Keys.{same_frag-is, same_frag-of}

-- a full slot under its own name
pub named_full : (stored : Stored) (id : FragId) → stored.id ≡ id → named id (full_slot stored) ≡ Some stored
named_full stored id e = cond-true (same_frag stored.id id) (Some stored) None (same_frag-of stored.id id e)

-- what is named stands in a full slot of that name
pub record IsNamed (slot : Slot) (id : FragId) (stored : Stored) : Type 0 where
  pub full : slot ≡ full_slot stored
  pub name : stored.id ≡ id

pub named_is : (slot : Slot) (id : FragId) (stored : Stored) → named id slot ≡ Some stored → IsNamed slot id stored
named_is bad_slot id stored e = absurd (none-some stored e)
named_is free_slot id stored e = absurd (none-some stored e)
named_is (full_slot holds) id stored e = elim (cases_Bool (same_frag holds.id id)) [
  | inl same ↦
      let is : holds ≡ stored = same_Some holds stored (sym (cond-true (same_frag holds.id id) (Some holds) None same) ∙ e) in
      record { full = ap full_slot is; name = sym (ap (λ (s : Stored). s.id) is) ∙ same_frag-is holds.id id same }
  | inr other ↦ absurd (none-some stored (sym (cond-false (same_frag holds.id id) (Some holds) None other) ∙ e))
]

-- a slot that holds the name in no case
pub named_none : (slot : Slot) (id : FragId) → ((stored : Stored) → named id slot ≡ Some stored → ⊥) → named id slot ≡ None
named_none slot id never = pick (named id slot) refl
  where
    pick : (o : Option Stored) → named id slot ≡ o → named id slot ≡ None
    pick None e = e
    pick (Some stored) e = absurd (never stored e)

module _ (spots : Spots) (frees : ℕ → ℕ) (n : ℕ) (slots : ℕ → Slot) (agree : Agree spots frees n slots) (id : FragId) where
  -- a slot that holds the name is the one where it stands
  pub listed_here : (j : ℕ) (stored : Stored) → j < n → named id (slots j) ≡ Some stored → spots id ≡ Some (spot_at j stored)
  listed_here j stored lt e =
      let is = named_is (slots j) id stored e in
      ap spots (sym is.name) ∙ agree.listed j stored lt is.full

  pub nowhere : spots id ≡ None → (j : ℕ) → j < n → named id (slots j) ≡ None
  nowhere none j lt = named_none (slots j) id (λ stored e. none-some (spot_at j stored) (sym none ∙ listed_here j stored lt e))

  pub alone : (spot : Spot) → spots id ≡ Some spot → (j : ℕ) → j < n → j ≢ spot.slot → named id (slots j) ≡ None
  alone spot is j lt ne = named_none (slots j) id (λ stored e. ne (ap (λ (s : Spot). s.slot) (same_Some (spot_at j stored) spot (sym (listed_here j stored lt e) ∙ is))))

pub not_found : NotFoundNotHeld
not_found index n slots id agree none =
    let none_holds = nowhere (spot_of index) (λ j. times j index.free) n slots agree id none in
    record { held = none_held n id slots none_holds; nowhere = none_holds }

pub is_found : FoundHeld
is_found index n slots id spot agree is =
    let s = agree.stands id spot is in
    let only = alone (spot_of index) (λ j. times j index.free) n slots agree id spot is in
    record {
      stored = s.stored;
      within = s.within;
      full = s.full;
      name = s.name;
      is = s.is;
      held = one_holds n spot.slot id slots s.within only ∙ ap (named id) s.full ∙ named_full s.stored id s.name;
      alone = only;
    }

-- how many of these slots are below n
below : ℕ → List ℕ → ℕ
below n [] = 0
below n (slot ∷ slots) = (if nat_lt slot n then 1 else 0) + below n slots

none_below : (slots : List ℕ) → below 0 slots ≡ 0
unfolding below
none_below [] = refl
none_below (slot ∷ slots) = let first = cond-false {A = ℕ} (nat_lt slot 0) 1 0 (le-ltb slot 0 (omega arith)) in omega (arith, first, none_below slots)

one_more : (n slot : ℕ) → (if nat_lt slot (suc n) then 1 else 0) ≡ (if nat_lt slot n then 1 else 0) + once slot n
one_more n slot = elim (cases_order slot n) [
  | inl same ↦
      let a = cond-true {A = ℕ} (nat_lt slot (suc n)) 1 0 (lt-ltb slot (suc n) (omega (arith, same))) in
      let b = cond-false {A = ℕ} (nat_lt slot n) 1 0 (le-ltb slot n (omega (arith, same))) in
      let one : once slot n ≡ 1 = ap (λ k. once slot k) (sym same) ∙ once_same slot in
      omega (arith, a, b, one)
  | inr (inl less) ↦
      let a = cond-true {A = ℕ} (nat_lt slot (suc n)) 1 0 (lt-ltb slot (suc n) (omega (arith, less))) in
      let b = cond-true {A = ℕ} (nat_lt slot n) 1 0 (lt-ltb slot n less) in
      omega (arith, a, b, once_other slot n (λ e. omega (arith, e, less)))
  | inr (inr more) ↦
      let a = cond-false {A = ℕ} (nat_lt slot (suc n)) 1 0 (le-ltb slot (suc n) (omega (arith, more))) in
      let b = cond-false {A = ℕ} (nat_lt slot n) 1 0 (le-ltb slot n (omega (arith, more))) in
      omega (arith, a, b, once_other slot n (λ e. omega (arith, e, more)))
]

below_more : (n : ℕ) (slots : List ℕ) → below (suc n) slots ≡ below n slots + times n slots
unfolding below
below_more n [] = refl
below_more n (slot ∷ slots) = omega (arith, one_more n slot, below_more n slots)

all_below : (n : ℕ) (slots : List ℕ) → ((j : ℕ) → n ≤ j → times j slots ≡ 0) → length slots ≡ below n slots
unfolding below
all_below n [] none = refl
all_below n (slot ∷ slots) none =
    let rest = all_below n slots (λ j past. omega (arith, none j past)) in
    elim (cases_lt slot n) [
      | inl less ↦ let first = cond-true {A = ℕ} (nat_lt slot n) 1 0 (lt-ltb slot n less) in omega (arith, first, rest)
      | inr past ↦ absurd (omega (arith, none slot past, once_same slot))
    ]

counted_below : (m n : ℕ) (free : List ℕ) (slots : ℕ → Slot) → m ≤ n → ((j : ℕ) → j < n → times j free ≡ free_in (slots j)) → below m free ≡ free_count slots m
counted_below zero n free slots le is = none_below free
counted_below (suc m) n free slots le is =
    omega (arith, below_more m free, counted_below m n free slots (omega (arith, le)) is, is m (omega (arith, le)))

pub free_counted : FreeAreCounted
free_counted index n slots agree =
    all_below n index.free (λ j past. agree.free j ∙ cond-false (nat_lt j n) (free_in (slots j)) 0 (le-ltb j n past))
    ∙ counted_below n n index.free slots (omega arith) (λ j lt. agree.free j ∙ cond-true (nat_lt j n) (free_in (slots j)) 0 (lt-ltb j n lt))

pub depends : DependsOnItsSlots
depends index n slots other same agree = record {
  good = λ j lt e. agree.good j lt (sym (same j lt) ∙ e);
  stands = λ id spot e. let s = agree.stands id spot e in record { stored = s.stored; within = s.within; full = same spot.slot s.within ∙ s.full; name = s.name; is = s.is };
  listed = λ j stored lt e. agree.listed j stored lt (sym (same j lt) ∙ e);
  free = λ j. agree.free j ∙ (elim (cases_lt j n) [
    | inl lt ↦ ap (λ s. if nat_lt j n then free_in s else 0) (sym (same j lt))
    | inr past ↦ cond-false (nat_lt j n) (free_in (slots j)) 0 (le-ltb j n past) ∙ sym (cond-false (nat_lt j n) (free_in (other j)) 0 (le-ltb j n past))
  ]);
}

pub held_once : NamesAreHeldOnce
held_once index n slots i j a b agree ilt jlt there here same =
    let first = agree.listed i a ilt there in
    let other = agree.listed j b jlt here in
    ap (λ (s : Spot). s.slot) (same_Some (spot_at i a) (spot_at j b) (sym first ∙ ap (spot_of index) same ∙ other))
