-- Names that are held, each once, and free slots are together no more than the slots.
use Rattle.std.proofs.Common.{◌≡◌, ◌≢◌, inl, inr, ℕ, zero, suc, ◌+◌, ◌<◌, ◌≤◌, Bool, true, false, not, if◌then◌else◌, is_some, List, [], ◌∷◌, length, Option, None, Some, refl, sym, ◌∙◌, ap, subst, arith}
use Rattle.std.specs.List.{All, AllPairs, filter, slice_index_or}
use Rattle.std.proofs.lemmas.Bool.{cases_lt, false≢true}
use Rattle.std.proofs.lemmas.List.Elements.{All-filter, All-head, filter_passes}
use Rattle.std.proofs.lemmas.List.Kept.{AllPairs-filter}
use Rattle.std.proofs.lemmas.List.Filters.{length-filter_both}
use Rattle.std.proofs.lemmas.Map.Made.{AllPairs-from_IsDistinct}
use Rattle.zb_types.specs.declared.ids.FragId.{FragId}
use Rattle.zb_holding.specs.Carrying.{same_frag}
use Rattle.zb_holding.proofs.Keys.{same_frag-is, same_frag-of}
use Rattle.zb_slots.specs.Slots.{Slot, Stored, bad_slot, free_slot, full_slot, slots_of}
use Rattle.zb_slots.specs.Holding.{named, newer, held, fragment_of, free_in, free_count}
use Rattle.zb_fragstore.specs.Laws.{RoomForAll}

-- no two are one name
abbrev Differ : List FragId → Type 0
Differ ids = AllPairs (λ a b. a ≢ b) ids

-- the first n slots hold something under each name
abbrev AreHeld : (ℕ → Slot) → ℕ → List FragId → Type 0
AreHeld slots n ids = All (λ id. is_some (fragment_of (held slots n id)) ≡ true) ids

newer_none : (found : Option Stored) → newer found None ≡ found
newer_none None = refl
newer_none (Some stored) = refl

-- a slot that doesn't hold a name adds nothing to it
not_there : (slots : ℕ → Slot) (n : ℕ) (id : FragId) → named id (slots n) ≡ None → held slots (suc n) id ≡ held slots n id
not_there slots n id none = ap (newer (held slots n id)) none ∙ newer_none (held slots n id)

held_below : (slots : ℕ → Slot) (n : ℕ) (ids : List FragId) → All (λ id. named id (slots n) ≡ None) ids → AreHeld slots (suc n) ids → AreHeld slots n ids
held_below slots n ids none all = λ i d lt. subst (λ (o : Option Stored). is_some (fragment_of o) ≡ true) (not_there slots n (slice_index_or ids i d) (none i d lt)) (all i d lt)

-- one name stands at most once among names that differ
once : (id : FragId) (ids : List FragId) → Differ ids → length (filter (same_frag id) ids) ≤ 1
once id ids differ = elim (cases_lt 1 (length (filter (same_frag id) ids))) [
  | inl two ↦
      let pairs : Differ (filter (same_frag id) ids) = AllPairs-filter (λ a b. a ≢ b) (same_frag id) ids differ in
      let same : (i : ℕ) → i < length (filter (same_frag id) ids) → id ≡ slice_index_or (filter (same_frag id) ids) i id = λ i lt. same_frag-is id _ (filter_passes (same_frag id) ids i id lt) in
      absurd (pairs 0 1 id (omega arith) two (sym (same 0 (omega (arith, two))) ∙ same 1 two))
  | inr few ↦ few
]

others_none : (stored : Stored) (q : FragId) → not (same_frag stored.id q) ≡ true → named q (full_slot stored) ≡ None
others_none stored q h = pick (same_frag stored.id q) h
  where
    pick : (b : Bool) → not b ≡ true → (if b then Some stored else None) ≡ None
    pick true h = absurd (false≢true h)
    pick false h = refl

-- what holds of the names below a slot holds with it
module _ (slots : ℕ → Slot) (n : ℕ) (before : (ids : List FragId) → Differ ids → AreHeld slots n ids → length ids + free_count slots n ≤ n) (ids : List FragId) (differ : Differ ids) (all : AreHeld slots (suc n) ids) where
  -- a slot that holds nothing
  empty : (s : Slot) → slots n ≡ s → ((q : FragId) → named q s ≡ None) → length ids + free_count slots n ≤ n
  empty s is none = before ids differ (held_below slots n ids (λ i d lt. ap (named (slice_index_or ids i d)) is ∙ none (slice_index_or ids i d)) all)

  by_slot : (s : Slot) → slots n ≡ s → length ids + (free_count slots n + free_in (slots n)) ≤ suc n
  by_slot bad_slot is = let h = empty bad_slot is (λ q. refl) in let none : free_in (slots n) ≡ 0 = ap free_in is in omega (arith, h, none)
  by_slot free_slot is = let h = empty free_slot is (λ q. refl) in let one : free_in (slots n) ≡ 1 = ap free_in is in omega (arith, h, one)
  by_slot (full_slot stored) is =
      let rest : List FragId = filter (λ q. not (same_frag stored.id q)) ids in
      let kept : AreHeld slots (suc n) rest = All-filter (λ q. not (same_frag stored.id q)) (λ id. is_some (fragment_of (held slots (suc n) id)) ≡ true) ids all in
      let none : All (λ id. named id (slots n) ≡ None) rest =
      λ i d lt. ap (named (slice_index_or rest i d)) is ∙ others_none stored (slice_index_or rest i d) (filter_passes (λ q. not (same_frag stored.id q)) ids i d lt) in
      let h = before rest (AllPairs-filter (λ a b. a ≢ b) (λ q. not (same_frag stored.id q)) ids differ) (held_below slots n rest none kept) in
      let both = length-filter_both (same_frag stored.id) (λ q. not (same_frag stored.id q)) (λ q. refl) ids in
      let few = once stored.id ids differ in
      let full : free_in (slots n) ≡ 0 = ap free_in is in
      omega (arith, h, both, few, full)

pub counted : (slots : ℕ → Slot) (n : ℕ) (ids : List FragId) → Differ ids → AreHeld slots n ids → length ids + free_count slots n ≤ n
counted slots zero [] differ all = omega arith
counted slots zero (id ∷ ids) differ all = absurd (false≢true (All-head (λ q. is_some (fragment_of (held slots zero q)) ≡ true) id ids all))
counted slots (suc n) ids differ all = by_slot slots n (λ kept apart h. counted slots n kept apart h) ids differ all (slots n) refl

pub room_for_all : RoomForAll
room_for_all geo image ids distinct all = counted (slots_of geo.servers geo.fragment image) geo.slots ids (AllPairs-from_IsDistinct (λ a b. (same_frag-is a b, same_frag-of a b)) ids distinct) all
