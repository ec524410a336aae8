-- The slots without the older parities, and the parts of an index that come to agree with them.
use Rattle.std.proofs.Common.{◌≡◌, ◌≢◌, ℕ, zero, suc, ◌+◌, ◌-◌, ◌<◌, ◌⊎◌, Option, Some, None, List, [], ◌∷◌, ◌++◌, length, get_or, refl, sym, ap, ◌∙◌, subst, inl, inr, arith, length-append}
use Rattle.std.specs.Prelude.{if◌then◌else◌, nat_lt, ◌==◌}
use Rattle.std.specs.List.Sorted.{IsStrictlyIncreasing}
use Rattle.std.proofs.lemmas.Bool.{cases_Bool, cases_eq, cases_lt, cases_order, cond-true, cond-false, eqb-true, eqb-false, eq-eqb, ne_eqb, lt-ltb, le-ltb}
use Rattle.std.proofs.lemmas.List.{get_or_append_left, get_or-append_right}
use Rattle.std.proofs.lemmas.Option.{none-some, same_Some}
use Rattle.zb_cell.specs.Cell.{following}
use Rattle.zb_types.specs.declared.ids.FragId.{FragId}
use Rattle.zb_holding.specs.Carrying.{same_frag}
use Rattle.zb_slots.specs.Slots.{Slot, Stored, bad_slot, free_slot, full_slot}
use Rattle.zb_slots.specs.Holding.{named, newer, held, free_in}
use Rattle.zb_slots.proofs.Held.{none_held, same_held, one_holds, none_holds}
use Rattle.zb_index.specs.declared.spot.Spot.{Spot}
use Rattle.zb_index.specs.Free.{once, times}
use Rattle.zb_index.specs.Indexed.{Agree, StandsAt, spot_at, IsIndexOf}
use Rattle.zb_index.specs.Seen.{SeenIndex}
use Rattle.zb_index.specs.Twins.{NoneIsBad, IsOlder, AreOlder, AreFreed}
use Rattle.zb_index.specs.Drafting.{kept_of, tidied_slot, tidied, AreOlderBelow, IsDraftOf}
use Rattle.zb_index.proofs.Counting.{once_same, once_other}
use Rattle.zb_index.proofs.Following.{Spots, Put, same_full, not_free, full_not_bad, free_not_bad}
use Rattle.zb_index.proofs.Held.{named_full, named_is, named_none, depends}
use Rattle.zb_holding.proofs.Keys.{same_frag-is, same_frag-of}
use Rattle.zb_index.proofs.Twinning.{turns_differ}

-- ---- one slot more

-- what holds of each number below n and of n
over : (n : ℕ) (P : ℕ → Type 0) → ((k : ℕ) → k < n → P k) → P n → (k : ℕ) → k < n + 1 → P k
over n P each last k lt = elim (cases_lt k n) [
  | inl less ↦ each k less
  | inr past ↦ let e : n ≡ k = omega (arith, past, lt) in subst P e last
]

-- how often each slot below n is free comes to that of each below n + 1
module _ (frees next : ℕ → ℕ) (j : ℕ) (slots : ℕ → Slot) (free : (k : ℕ) → frees k ≡ (if nat_lt k j then free_in (slots k) else 0)) where
  pub frees_more : next j ≡ free_in (slots j) → ((k : ℕ) → k ≢ j → next k ≡ frees k) → (k : ℕ) → next k ≡ (if nat_lt k (j + 1) then free_in (slots k) else 0)
  frees_more here others k = elim (cases_order k j) [
    | inl same ↦ ap next same ∙ here ∙ ap (λ (m : ℕ). free_in (slots m)) (sym same) ∙ sym (cond-true (nat_lt k (j + 1)) (free_in (slots k)) 0 (lt-ltb k (j + 1) (omega (arith, same))))
    | inr (inl less) ↦
        others k (λ e. omega (arith, e, less)) ∙ free k ∙ cond-true (nat_lt k j) (free_in (slots k)) 0 (lt-ltb k j less)
        ∙ sym (cond-true (nat_lt k (j + 1)) (free_in (slots k)) 0 (lt-ltb k (j + 1) (omega (arith, less))))
    | inr (inr more) ↦
        others k (λ e. omega (arith, e, more)) ∙ free k ∙ cond-false (nat_lt k j) (free_in (slots k)) 0 (le-ltb k j (omega (arith, more)))
        ∙ sym (cond-false (nat_lt k (j + 1)) (free_in (slots k)) 0 (le-ltb k (j + 1) (omega (arith, more))))
  ]

  pub not_yet : frees j ≡ 0
  not_yet = free j ∙ cond-false (nat_lt j j) (free_in (slots j)) 0 (le-ltb j j (omega arith))

module _ (spots : Spots) (frees : ℕ → ℕ) (j : ℕ) (slots : ℕ → Slot) (agree : Agree spots frees j slots) where
  still_stands : (id : FragId) (spot : Spot) → spots id ≡ Some spot → StandsAt (j + 1) slots id spot
  still_stands id spot e = let s = agree.stands id spot e in record { stored = s.stored; within = omega (arith, s.within); full = s.full; name = s.name; is = s.is }

  -- the next slot is free
  pub more_free : (next : ℕ → ℕ) → slots j ≡ free_slot → ((k : ℕ) → next k ≡ frees k + once j k) → Agree spots next (j + 1) slots
  more_free next is more = record {
    good = over j (λ k. slots k ≢ bad_slot) agree.good (λ e. free_not_bad (sym is ∙ e));
    stands = still_stands;
    listed = λ k stored lt. over j (λ m. slots m ≡ full_slot stored → spots stored.id ≡ Some (spot_at m stored)) (λ m less e. agree.listed m stored less e)
        (λ e. absurd (not_free stored (sym e ∙ is))) k lt;
    free = frees_more frees next j slots agree.free (omega (arith, more j, once_same j, not_yet frees next j slots agree.free, ap free_in is)) (λ k ne. omega (arith, more k, once_other j k (λ e. ne (sym e))));
  }

  -- the next slot is full, and none before it has its name
  pub more_full : (next : Spots) (stored : Stored) → slots j ≡ full_slot stored → ((k : ℕ) (other : Stored) → k < j → slots k ≡ full_slot other → other.id ≡ stored.id → ⊥)
      → Put spots next stored.id (Some (spot_at j stored)) → Agree next frees (j + 1) slots
  more_full next stored is alone put = record {
    good = over j (λ k. slots k ≢ bad_slot) agree.good (λ e. full_not_bad stored (sym is ∙ e));
    stands = λ q spot e. elim (cases_Bool (same_frag stored.id q)) [
      | inl same ↦
          let here : spot_at j stored ≡ spot = same_Some (spot_at j stored) spot (sym (put q ∙ cond-true (same_frag stored.id q) (Some (spot_at j stored)) (spots q) same) ∙ e) in
          subst (λ (s : Spot). StandsAt (j + 1) slots q s) here (record { stored = stored; within = omega arith; full = is; name = same_frag-is stored.id q same; is = refl })
      | inr other ↦ still_stands q spot (sym (put q ∙ cond-false (same_frag stored.id q) (Some (spot_at j stored)) (spots q) other) ∙ e)
    ];
    listed = λ k s lt. over j (λ m. slots m ≡ full_slot s → next s.id ≡ Some (spot_at m s)) (λ m less e. elim (cases_Bool (same_frag stored.id s.id)) [
      | inl same ↦ absurd (alone m s less e (sym (same_frag-is stored.id s.id same)))
      | inr other ↦ put s.id ∙ cond-false (same_frag stored.id s.id) (Some (spot_at j stored)) (spots s.id) other ∙ agree.listed m s less e
    ])
        (λ e.
        let one : stored ≡ s = same_full stored s (sym is ∙ e) in
        put s.id ∙ cond-true (same_frag stored.id s.id) (Some (spot_at j stored)) (spots s.id) (same_frag-of stored.id s.id (ap (λ (x : Stored). x.id) one)) ∙ ap (λ (x : Stored). Some (spot_at j x)) one) k lt;
    free = frees_more frees frees j slots agree.free (not_yet frees frees j slots agree.free ∙ sym (ap free_in is)) (λ k ne. refl);
  }

-- ---- the slots without the older parities

-- a slot that is kept, whose name stands for one of its turn
pub record IsKept (slots : ℕ → Slot) (n j : ℕ) (stored : Stored) : Type 0 where
  pub full : slots j ≡ full_slot stored
  pub newest : Stored
  pub stands : held slots n stored.id ≡ Some newest
  pub turn : newest.turn ≡ stored.turn

module _ (slots : ℕ → Slot) (n : ℕ) where
  pub tidied_free : (j : ℕ) → slots j ≡ free_slot → tidied slots n j ≡ free_slot
  tidied_free j e = ap (tidied_slot slots n) e

  pub tidied_newest : (j : ℕ) (stored : Stored) → slots j ≡ full_slot stored → held slots n stored.id ≡ Some stored → tidied slots n j ≡ full_slot stored
  tidied_newest j stored full e =
      ap (tidied_slot slots n) full ∙ ap (λ (o : Option Stored). kept_of o stored) e ∙ cond-true (stored.turn == stored.turn) (full_slot stored) free_slot (eq-eqb stored.turn stored.turn refl)

  pub tidied_older : (j : ℕ) → IsOlder slots n j → tidied slots n j ≡ free_slot
  tidied_older j o =
      ap (tidied_slot slots n) o.full ∙ ap (λ (s : Option Stored). kept_of s o.stored) o.stands
      ∙ cond-false (o.newest.turn == o.stored.turn) (full_slot o.stored) free_slot (ne_eqb o.newest.turn o.stored.turn o.other)

  kept_by : (j : ℕ) (stored : Stored) (newest : Option Stored) (s : Stored) → slots j ≡ full_slot stored → held slots n stored.id ≡ newest → kept_of newest stored ≡ full_slot s → IsKept slots n j s
  kept_by j stored None s full is e = absurd (not_free s (sym e))
  kept_by j stored (Some newest) s full is e = elim (cases_Bool (newest.turn == stored.turn)) [
    | inl same ↦
        let one : stored ≡ s = same_full stored s (sym (cond-true (newest.turn == stored.turn) (full_slot stored) free_slot same) ∙ e) in
        subst (IsKept slots n j) one (record { full = full; newest = newest; stands = is; turn = eqb-true newest.turn stored.turn same })
    | inr other ↦ absurd (not_free s (sym e ∙ cond-false (newest.turn == stored.turn) (full_slot stored) free_slot other))
  ]

  kept : (j : ℕ) (slot : Slot) (s : Stored) → slots j ≡ slot → tidied_slot slots n slot ≡ full_slot s → IsKept slots n j s
  kept j bad_slot s is e = absurd (full_not_bad s (sym e))
  kept j free_slot s is e = absurd (not_free s (sym e))
  kept j (full_slot stored) s is e = kept_by j stored (held slots n stored.id) s is refl e

  pub tidied_full : (j : ℕ) (s : Stored) → tidied slots n j ≡ full_slot s → IsKept slots n j s
  tidied_full j s e = kept j (slots j) s refl e

  module _ (good : NoneIsBad slots n) where
    -- no two slots that are kept hold one name
    pub tidied_once : (i j : ℕ) (a b : Stored) → i < n → j < n → i ≢ j → tidied slots n i ≡ full_slot a → tidied slots n j ≡ full_slot b → a.id ≡ b.id → ⊥
    tidied_once i j a b ilt jlt ne there here same =
        let x = tidied_full i a there in
        let y = tidied_full j b here in
        let one : x.newest ≡ y.newest = same_Some x.newest y.newest (sym x.stands ∙ ap (held slots n) same ∙ y.stands) in
        turns_differ n i j slots a b good ilt jlt ne x.full y.full same (sym x.turn ∙ ap (λ (s : Stored). s.turn) one ∙ y.turn)

    -- a slot that isn't older is kept as it is
    kept_slot : (j : ℕ) (slot : Slot) → j < n → slots j ≡ slot → (IsOlder slots n j → ⊥) → tidied_slot slots n slot ≡ slot
    kept_slot j bad_slot lt is never = refl
    kept_slot j free_slot lt is never = refl
    kept_slot j (full_slot stored) lt is never = by (held slots n stored.id) refl
      where
        by : (o : Option Stored) → held slots n stored.id ≡ o → kept_of (held slots n stored.id) stored ≡ full_slot stored
        by None e = absurd (none-some stored (sym (none_holds n j stored.id slots e lt) ∙ ap (named stored.id) is ∙ named_full stored stored.id refl))
        by (Some newest) e = elim (cases_Bool (newest.turn == stored.turn)) [
          | inl same ↦ ap (λ (o : Option Stored). kept_of o stored) e ∙ cond-true (newest.turn == stored.turn) (full_slot stored) free_slot same
          | inr other ↦ absurd (never (record { stored = stored; newest = newest; within = lt; full = is; stands = e; other = eqb-false newest.turn stored.turn other }))
        ]

    pub tidied_same : (j : ℕ) → j < n → (IsOlder slots n j → ⊥) → tidied slots n j ≡ slots j
    tidied_same j lt never = kept_slot j (slots j) lt refl never

-- what a name stands for isn't the older of two
pub newest_not_older : (slots : ℕ → Slot) (n j : ℕ) (stored : Stored) → slots j ≡ full_slot stored → held slots n stored.id ≡ Some stored → IsOlder slots n j → ⊥
newest_not_older slots n j stored full held_is o =
    let one : o.stored ≡ stored = same_full o.stored stored (sym o.full ∙ full) in
    let newest : o.newest ≡ stored = same_Some o.newest stored (sym o.stands ∙ ap (λ (s : Stored). held slots n s.id) one ∙ held_is) in
    o.other (ap (λ (s : Stored). s.turn) (newest ∙ sym one))

-- ---- what the kept slots hold

-- a slot that holds what a name stands for
record Holds (slots : ℕ → Slot) (n : ℕ) (id : FragId) (stored : Stored) : Type 0 where
  at : ℕ
  within : at < n
  is : named id (slots at) ≡ Some stored

newer_one : (a b : Option Stored) (x : Stored) → newer a b ≡ Some x → (a ≡ Some x) ⊎ (b ≡ Some x)
newer_one None b x e = inr e
newer_one (Some y) None x e = inl e
newer_one (Some y) (Some z) x e = elim (cases_Bool (z.turn == following y.turn)) [
  | inl same ↦ inr (sym (cond-true (z.turn == following y.turn) (Some z) (Some y) same) ∙ e)
  | inr other ↦ inl (sym (cond-false (z.turn == following y.turn) (Some z) (Some y) other) ∙ e)
]

held_at : (slots : ℕ → Slot) (n : ℕ) (id : FragId) (x : Stored) → held slots n id ≡ Some x → Holds slots n id x
held_at slots zero id x e = absurd (none-some x e)
held_at slots (suc n) id x e = elim (newer_one (held slots n id) (named id (slots n)) x e) [
  | inl before ↦ let h = held_at slots n id x before in record { at = h.at; within = omega (arith, h.within); is = h.is }
  | inr last ↦ record { at = n; within = omega arith; is = last }
]

module _ (slots : ℕ → Slot) (n : ℕ) (good : NoneIsBad slots n) where
  -- the kept slots hold under each name what all slots hold
  pub tidied_held : (id : FragId) → held (tidied slots n) n id ≡ held slots n id
  tidied_held id = by (held slots n id) refl
    where
      by : (o : Option Stored) → held slots n id ≡ o → held (tidied slots n) n id ≡ held slots n id
      by None e =
          none_held n id (tidied slots n) (λ k lt. named_none (tidied slots n k) id (λ s h.
          let is = named_is (tidied slots n k) id s h in
          none-some s (sym (none_holds n k id slots e lt) ∙ ap (named id) (tidied_full slots n k s is.full).full ∙ named_full s id is.name)))
          ∙ sym e
      by (Some newest) e =
          let h = held_at slots n id newest e in
          let is = named_is (slots h.at) id newest h.is in
          let here = tidied_newest slots n h.at newest is.full (ap (held slots n) is.name ∙ e) in
          one_holds n h.at id (tidied slots n) h.within (λ k lt ne. named_none (tidied slots n k) id (λ s f.
          let other = named_is (tidied slots n k) id s f in
          tidied_once slots n good k h.at s newest lt h.within ne other.full here (other.name ∙ sym is.name)))
          ∙ ap (named id) here ∙ named_full newest id is.name ∙ sym e

-- ---- the older parities' slots

pub times_append : (j slot : ℕ) (xs : List ℕ) → times j (xs ++ slot ∷ []) ≡ times j xs + once slot j
times_append j slot [] = omega arith
times_append j slot (x ∷ xs) = omega (arith, times_append j slot xs)

times_at : (xs : List ℕ) (k : ℕ) → k < length xs → 0 < times (get_or xs k 0) xs
times_at [] k lt = absurd (omega (arith, lt))
times_at (x ∷ xs) zero lt = omega (arith, once_same x)
times_at (x ∷ xs) (suc k) lt = omega (arith, times_at xs k (omega (arith, lt)))

increasing_more : (xs : List ℕ) (j : ℕ) → IsStrictlyIncreasing xs → ((k : ℕ) → k < length xs → get_or xs k 0 < j) → IsStrictlyIncreasing (xs ++ j ∷ [])
increasing_more xs j order below k lt = elim (cases_lt (k + 1) (length xs)) [
  | inl less ↦ omega (arith, order k less, get_or_append_left xs (j ∷ []) 0 k (omega (arith, less)), get_or_append_left xs (j ∷ []) 0 (k + 1) less)
  | inr past ↦
      let last : k + 1 ≡ length xs = omega (arith, past, lt, length-append xs (j ∷ [])) in
      let none : (k + 1) - (k + 1) ≡ 0 = omega arith in
      let here : get_or (xs ++ j ∷ []) (k + 1) 0 ≡ j = get_or-append_right xs (j ∷ []) (k + 1) (k + 1) 0 (sym last) (omega arith) ∙ ap (λ m. get_or (j ∷ []) m 0) none in
      omega (arith, below k (omega (arith, last)), get_or_append_left xs (j ∷ []) 0 k (omega (arith, last)), here)
]

module _ (slots : ℕ → Slot) (n j : ℕ) (older : List ℕ) (was : AreOlderBelow slots n j older) where
  pub older_past : (IsOlder slots n j → ⊥) → AreOlderBelow slots n (j + 1) older
  older_past never = record {
    order = was.order;
    each = λ k lt. let h = was.each k lt in (h.0, omega (arith, h.1));
    all = over j (λ k. IsOlder slots n k → 0 < times k older) was.all (λ o. absurd (never o));
  }

  pub older_more : IsOlder slots n j → AreOlderBelow slots n (j + 1) (older ++ j ∷ [])
  older_more is = record {
    order = increasing_more older j was.order (λ k lt. (was.each (get_or older k 0) (times_at older k lt)).1);
    each = λ k lt. elim (cases_eq j k) [
      | inl same ↦ (subst (λ (m : ℕ). IsOlder slots n m) same is, omega (arith, same))
      | inr other ↦ let h = was.each k (omega (arith, lt, times_append k j older, once_other j k other)) in (h.0, omega (arith, h.1))
    ];
    all = over j (λ k. IsOlder slots n k → 0 < times k (older ++ j ∷ [])) (λ k less o. omega (arith, was.all k less o, times_append k j older)) (λ o. omega (arith, times_append j j older, once_same j));
  }

-- ---- the index

module _ (index : SeenIndex) (older : List ℕ) (slots : ℕ → Slot) (n : ℕ) (good : NoneIsBad slots n)
    (draft : IsDraftOf index.entries index.free older slots n n) where
  pub are_older : AreOlder slots n older
  are_older = record {
    order = draft.older.order;
    each = λ j lt. (draft.older.each j lt).0;
    all = λ j o. draft.older.all j o.within o;
  }

  module _ (now : ℕ → Slot) (freed : AreFreed n older slots now) where
    freed_is : (j : ℕ) → j < n → now j ≡ tidied slots n j
    freed_is j lt = elim (cases_lt 0 (times j older)) [
      | inl some ↦ freed.free j lt some ∙ sym (tidied_older slots n j (draft.older.each j some).0)
      | inr none ↦ freed.others j lt (omega (arith, none)) ∙ sym (tidied_same slots n good j lt (λ o. omega (arith, draft.older.all j lt o, none)))
    ]

    pub index_of_freed : IsIndexOf index n now
    index_of_freed = depends index n (tidied slots n) now freed_is draft.agree

    pub held_by_freed : (id : FragId) → held now n id ≡ held slots n id
    held_by_freed id = same_held n id (tidied slots n) now (λ k lt. ap (named id) (freed_is k lt)) ∙ tidied_held slots n good id
