-- An index that follows a change of its slots.
use Rattle.std.proofs.Common.{◌≡◌, ◌≢◌, ℕ, ◌+◌, ◌<◌, Bool, true, false, Option, Some, None, refl, sym, ap, ◌∙◌, subst, inl, inr, arith}
use Rattle.std.specs.Prelude.{◌==◌, if◌then◌else◌, nat_lt}
use Rattle.std.proofs.lemmas.Bool.{cases_eq, cases_lt, cases_Bool, cond-true, cond-false, both_ways, true≢false, lt-ltb, le-ltb, eq-eqb, ne_eqb}
use Rattle.std.proofs.lemmas.Option.{none-some, same_Some}
use Rattle.zb_types.specs.declared.ids.FragId.{FragId}
use Rattle.zb_holding.specs.Carrying.{same_frag}
use Rattle.zb_slots.specs.Slots.{Slot, Stored, bad_slot, free_slot, full_slot}
use Rattle.zb_slots.specs.Holding.{free_in}
use Rattle.zb_slots.specs.Laws.{SameBut}
use Rattle.zb_index.specs.declared.spot.Spot.{Spot}
use Rattle.zb_index.specs.Free.{once}
use Rattle.zb_index.specs.Indexed.{Agree, StandsAt, spot_at}
use Rattle.zb_index.specs.Changes.{IsMoved}
use Rattle.zb_index.proofs.Counting.{once_same, once_other}
use Rattle.zb_holding.proofs.Keys.{same_frag-is, same_frag-of}

-- what a slot holds
abbrev what : Slot → Option Stored
what bad_slot = None
what free_slot = None
what (full_slot stored) = Some stored

-- two full slots that are one hold the same
pub same_full : (a b : Stored) → full_slot a ≡ full_slot b → a ≡ b
same_full a b e = same_Some a b (ap what e)

pub not_free : (a : Stored) → full_slot a ≡ free_slot → ⊥
not_free a e = absurd (none-some a (sym (ap what e)))

-- is a slot bad?
abbrev is_bad : Slot → Bool
is_bad bad_slot = true
is_bad free_slot = false
is_bad (full_slot stored) = false

pub full_not_bad : (a : Stored) → full_slot a ≡ bad_slot → ⊥
full_not_bad a e = true≢false (sym (ap is_bad e))

pub free_not_bad : free_slot ≡ bad_slot → ⊥
free_not_bad e = true≢false (sym (ap is_bad e))

abbrev pub Spots : Type 0
Spots = FragId → Option Spot

-- this spot stands under a name in place of another, or none
abbrev pub Put : Spots → Spots → FragId → Option Spot → Type 0
Put spots next id spot = (q : FragId) → next q ≡ (if same_frag id q then spot else spots q)

-- whatever this slot held has this name, and the name is held by this slot at most
pub record IsPlace (spots : Spots) (slots : ℕ → Slot) (i : ℕ) (id : FragId) : Type 0 where
  pub held : (stored : Stored) → slots i ≡ full_slot stored → stored.id ≡ id
  pub here : (spot : Spot) → spots id ≡ Some spot → spot.slot ≡ i

-- how often each slot is free, but for slot i
pub record FreesChange (frees next : ℕ → ℕ) (i now : ℕ) : Type 0 where
  pub here : next i ≡ now
  pub others : (j : ℕ) → j ≢ i → next j ≡ frees j

module _ (spots next : Spots) (frees freed : ℕ → ℕ) (n i : ℕ) (id : FragId) (before now : ℕ → Slot)
    (agree : Agree spots frees n before) (within : i < n) (place : IsPlace spots before i id) (others : SameBut n i before now) where
  -- a spot of another name still stands
  other_stands : (q : FragId) (spot : Spot) → same_frag id q ≡ false → spots q ≡ Some spot → StandsAt n now q spot
  other_stands q spot ne e =
      let s = agree.stands q spot e in
      let apart : spot.slot ≢ i = λ at. both_ways (same_frag id q) ne
      (same_frag-of id q (sym (place.held s.stored (ap before (sym at) ∙ s.full)) ∙ s.name)) in
      record { stored = s.stored; within = s.within; full = others spot.slot s.within apart ∙ s.full; name = s.name; is = s.is }

  -- a slot that is full as before has another name
  other_listed : (new : Option Spot) → Put spots next id new → (j : ℕ) (stored : Stored) → j < n → j ≢ i → now j ≡ full_slot stored
      → next stored.id ≡ Some (spot_at j stored)
  other_listed new put j stored lt ne e =
      let was = agree.listed j stored lt (sym (others j lt ne) ∙ e) in
      elim (cases_Bool (same_frag id stored.id)) [
        | inl same ↦ absurd (ne (place.here (spot_at j stored) (ap spots (same_frag-is id stored.id same) ∙ was)))
        | inr other ↦ put stored.id ∙ cond-false (same_frag id stored.id) new (spots stored.id) other ∙ was
      ]

  other_good : now i ≢ bad_slot → (j : ℕ) → j < n → now j ≢ bad_slot
  other_good good j lt e = elim (cases_eq j i) [
    | inl at ↦ good (ap now (sym at) ∙ e)
    | inr ne ↦ agree.good j lt (sym (others j lt ne) ∙ e)
  ]

  frees_follow : FreesChange frees freed i (free_in (now i)) → (j : ℕ) → freed j ≡ (if nat_lt j n then free_in (now j) else 0)
  frees_follow change j = elim (cases_eq j i) [
    | inl at ↦ ap freed at ∙ change.here ∙ ap (λ (k : ℕ). free_in (now k)) (sym at) ∙ sym (cond-true (nat_lt j n) (free_in (now j)) 0 (lt-ltb j n (omega (arith, at, within))))
    | inr ne ↦ change.others j ne ∙ agree.free j ∙ (elim (cases_lt j n) [
      | inl lt ↦ ap (λ s. if nat_lt j n then free_in s else 0) (sym (others j lt ne))
      | inr past ↦ cond-false (nat_lt j n) (free_in (before j)) 0 (le-ltb j n past) ∙ sym (cond-false (nat_lt j n) (free_in (now j)) 0 (le-ltb j n past))
    ])
  ]

  -- a slot is filled
  pub filled : (stored : Stored) → now i ≡ full_slot stored → stored.id ≡ id → Put spots next id (Some (spot_at i stored)) → FreesChange frees freed i 0 → Agree next freed n now
  filled stored full name put change = record {
    good = other_good (λ e. full_not_bad stored (sym full ∙ e));
    stands = λ q spot e. elim (cases_Bool (same_frag id q)) [
      | inl same ↦
          let is : spot_at i stored ≡ spot = same_Some (spot_at i stored) spot (sym (put q ∙ cond-true (same_frag id q) (Some (spot_at i stored)) (spots q) same) ∙ e) in
          subst (λ (s : Spot). StandsAt n now q s) is (record { stored = stored; within = within; full = full; name = name ∙ same_frag-is id q same; is = refl })
      | inr other ↦ other_stands q spot other (sym (put q ∙ cond-false (same_frag id q) (Some (spot_at i stored)) (spots q) other) ∙ e)
    ];
    listed = λ j holds lt e. elim (cases_eq j i) [
      | inl at ↦
          let is : stored ≡ holds = same_full stored holds (sym full ∙ ap now (sym at) ∙ e) in
          put holds.id ∙ cond-true (same_frag id holds.id) (Some (spot_at i stored)) (spots holds.id) (same_frag-of id holds.id (sym name ∙ ap (λ (s : Stored). s.id) is))
          ∙ (λ k. Some (spot_at (sym at k) (is k)))
      | inr ne ↦ other_listed (Some (spot_at i stored)) put j holds lt ne e
    ];
    free = frees_follow (record { here = change.here ∙ sym (ap free_in full); others = change.others });
  }

  -- a slot is freed
  pub emptied : now i ≡ free_slot → Put spots next id None → FreesChange frees freed i 1 → Agree next freed n now
  emptied free put change = record {
    good = other_good (λ e. free_not_bad (sym free ∙ e));
    stands = λ q spot e. elim (cases_Bool (same_frag id q)) [
      | inl same ↦ absurd (none-some spot (sym (put q ∙ cond-true (same_frag id q) None (spots q) same) ∙ e))
      | inr other ↦ other_stands q spot other (sym (put q ∙ cond-false (same_frag id q) None (spots q) other) ∙ e)
    ];
    listed = λ j holds lt e. elim (cases_eq j i) [
      | inl at ↦ absurd (not_free holds (sym e ∙ ap now at ∙ free))
      | inr ne ↦ other_listed None put j holds lt ne e
    ];
    free = frees_follow (record { here = change.here ∙ sym (ap free_in free); others = change.others });
  }

-- a slot that is free in an index is free, and once
pub record IsFreeAt (frees : ℕ → ℕ) (n : ℕ) (slots : ℕ → Slot) (j : ℕ) : Type 0 where
  pub within : j < n
  pub free : slots j ≡ free_slot
  pub once : frees j ≡ 1

free_if : (slot : Slot) → 0 < free_in slot → slot ≡ free_slot
free_if bad_slot lt = absurd (omega (arith, lt))
free_if free_slot lt = refl
free_if (full_slot stored) lt = absurd (omega (arith, lt))

pub free_there : (spots : Spots) (frees : ℕ → ℕ) (n : ℕ) (slots : ℕ → Slot) → Agree spots frees n slots → (j : ℕ) → 0 < frees j → IsFreeAt frees n slots j
free_there spots frees n slots agree j lt = elim (cases_lt j n) [
  | inl within ↦
      let is : frees j ≡ free_in (slots j) = agree.free j ∙ cond-true (nat_lt j n) (free_in (slots j)) 0 (lt-ltb j n within) in
      let free = free_if (slots j) (omega (arith, is, lt)) in
      record { within = within; free = free; once = is ∙ ap free_in free }
  | inr past ↦
      let is : frees j ≡ 0 = agree.free j ∙ cond-false (nat_lt j n) (free_in (slots j)) 0 (le-ltb j n past) in
      absurd (omega (arith, is, lt))
]

-- a slot that is full is free in no index of it
pub full_there : (spots : Spots) (frees : ℕ → ℕ) (n : ℕ) (slots : ℕ → Slot) → Agree spots frees n slots → (j : ℕ) (stored : Stored) → j < n → slots j ≡ full_slot stored → frees j ≡ 0
full_there spots frees n slots agree j stored lt full =
    agree.free j ∙ cond-true (nat_lt j n) (free_in (slots j)) 0 (lt-ltb j n lt) ∙ ap free_in full

-- the place of a name that isn't held is any free slot
pub free_place : (spots : Spots) (slots : ℕ → Slot) (i : ℕ) (id : FragId) → spots id ≡ None → slots i ≡ free_slot → IsPlace spots slots i id
free_place spots slots i id none free = record {
  held = λ stored e. absurd (not_free stored (sym e ∙ free));
  here = λ spot e. absurd (none-some spot (sym none ∙ e));
}

-- the place of a name that is held is its slot
pub held_place : (spots : Spots) (n : ℕ) (slots : ℕ → Slot) (id : FragId) (spot : Spot) → StandsAt n slots id spot → spots id ≡ Some spot → IsPlace spots slots spot.slot id
held_place spots n slots id spot s is = record {
  held = λ stored e. ap (λ (x : Stored). x.id) (same_full stored s.stored (sym e ∙ s.full)) ∙ s.name;
  here = λ other e. ap (λ (x : Spot). x.slot) (same_Some other spot (sym e ∙ is));
}

-- a slot is filled and another freed
pub moved : (spots next : Spots) (frees freed : ℕ → ℕ) (n j : ℕ) (id : FragId) (spot : Spot) (turn len : ℕ) (before now : ℕ → Slot)
    → Agree spots frees n before → spots id ≡ Some spot → 0 < frees j
    → Put spots next id (Some (record { slot = j; turn = turn; len = len }))
    → ((k : ℕ) → freed k + once j k ≡ frees k + once spot.slot k)
    → IsMoved n spot.slot j id turn len before now → Agree next freed n now
moved spots next frees freed n j id spot turn len before now agree is lt put change m =
    let s = agree.stands id spot is in
    let i = spot.slot in
    let at = free_there spots frees n before agree j lt in
    let apart : j ≢ i = λ e. not_free s.stored (sym s.full ∙ ap before (sym e) ∙ at.free) in
    let middle : ℕ → Slot = λ k. if k == i then free_slot else before k in
    let none : Spots = λ q. if same_frag id q then None else spots q in
    let more : ℕ → ℕ = λ k. frees k + once i k in
    let there : middle i ≡ free_slot = cond-true (i == i) free_slot (before i) (eq-eqb i i refl) in
    let beside : (k : ℕ) → k ≢ i → middle k ≡ before k = λ k ne. cond-false (k == i) free_slot (before k) (ne_eqb k i ne) in
    let first = emptied spots none frees more n i id before middle agree s.within (held_place spots n before id spot s is) (λ k _ ne. beside k ne) there (λ q. refl)
    (record { here = omega (arith, full_there spots frees n before agree i s.stored s.within s.full, once_same i); others = λ k ne. omega (arith, once_other i k (λ e. ne (sym e))) }) in
    let empty : none id ≡ None = cond-true (same_frag id id) None (spots id) (same_frag-of id id refl) in
    let free : middle j ≡ free_slot = beside j apart ∙ at.free in
    let same : SameBut n j middle now = λ k within ne. elim (cases_eq k i) [
      | inl e ↦ ap now e ∙ m.free ∙ sym there ∙ ap middle (sym e)
      | inr ni ↦ m.others k within ni ne ∙ sym (beside k ni)
    ] in
    let spot_is : ◌≡◌ {A = Spot} (record { slot = j; turn = turn; len = len }) (spot_at j m.stored) = λ k. record { slot = j; turn = sym m.turn_is k; len = sym m.len_is k } in
    filled none next more freed n j id middle now first at.within (free_place none middle j id empty free) same m.stored m.full m.name
    (λ q. put q ∙ over (same_frag id q) (spots q) (Some (record { slot = j; turn = turn; len = len })) ∙ ap (λ o. if same_frag id q then Some o else none q) spot_is)
    (record { here = omega (arith, change j, at.once, once_same j, once_other i j (λ e. apart (sym e))); others = λ k ne. omega (arith, change k, once_other j k (λ e. ne (sym e))) })
  where
    over : (b : Bool) (old new : Option Spot) → (if b then new else old) ≡ (if b then new else (if b then None else old))
    over true old new = refl
    over false old new = refl
