-- What an index keeps of slots is in range, whatever their bytes.
use Rattle.std.proofs.Common.{◌≡◌, inl, inr, ℕ, zero, suc, ◌<◌, ◌≤◌, nat_lt, Bool, true, false, if◌then◌else◌, List, [], ◌∷◌, length, slice_get, slice_index_or, All, Option, None, Some, refl, sym, ◌∙◌, ap, subst, arith}
use Rattle.std.proofs.lemmas.Bool.{cases_lt, cond-true, cond-false, lt-ltb, le-ltb}
use Rattle.zb_types.specs.declared.geometry.Geometry.{Geometry}
use Rattle.zb_holding.specs.Fragments.{share_fragment, parity_fragment}
use Rattle.zb_slots.specs.declared.header.Header.{Header}
use Rattle.zb_slots.specs.declared.header.Header.TheVariants.{Free, Share, Parity}
use Rattle.zb_slots.specs.Headers.{MayStand}
use Rattle.zb_slots.specs.Holding.{free_in}
use Rattle.zb_slots.specs.Slots.{Slot, Stored, bad_slot, free_slot, full_slot, shown}
use Rattle.zb_slots.specs.Showing.{AllMayStand}
use Rattle.zb_index.specs.declared.spot.Spot.{Spot}
use Rattle.zb_index.specs.Free.{times}
use Rattle.zb_index.specs.Indexed.{size_of, IsIndexOf}
use Rattle.zb_index.specs.Seen.{SeenIndex}
use Rattle.zb_slots.specs.Shown.{Says, AreShownBy}
use Rattle.zb_index.specs.Twins.{AreOlder, AreFreed}
use Rattle.zb_index.proofs.Counting.{once_same}
use Rattle.zb_slots.proofs.Shows.{shown_says}
use Rattle.zb_index.proofs.Following.{same_full}
use Rattle.zb_slot_map.proofs.Knowing.{not_free}
use Rattle.zb_fragstore.specs.Ranges.{AreInRange}

-- one of three turns, and bytes that fit
record Fits (f : ℕ) (stored : Stored) : Type 0 where
  turn : stored.turn < 3
  size : size_of stored.fragment ≤ f

says_fit : (n f : ℕ) (header : Option Header) (slot : Slot) → ((h : Header) → header ≡ Some h → MayStand n f h) → Says header slot → (stored : Stored) → slot ≡ full_slot stored → Fits f stored
says_fit n f None slot may says stored full = let no : bad_slot ≡ full_slot stored = sym says ∙ full in absurd (cc no)
says_fit n f (Some Free) slot may says stored full = absurd (not_free stored (sym says ∙ full))
says_fit n f (Some (Share id len)) slot may says stored full =
    subst (Fits f) (same_full (record { id = id; turn = 0; fragment = share_fragment says.bytes }) stored (sym says.is ∙ full))
    (record { turn = omega arith; size = omega (arith, says.size, (may (Share id len) refl).1) })
says_fit n f (Some (Parity id turn len)) slot may says stored full =
    subst (Fits f) (same_full (record { id = id; turn = turn; fragment = parity_fragment says.lengths says.bytes }) stored (sym says.is ∙ full))
    (record { turn = (may (Parity id turn len) refl).1.0; size = omega (arith, says.size, (may (Parity id turn len) refl).1.1) })

-- the index of slots whose fragments fit
in_range : (geo : Geometry) (index : SeenIndex) (now : ℕ → Slot) → IsIndexOf index geo.slots now → ((j : ℕ) (stored : Stored) → now j ≡ full_slot stored → Fits geo.fragment stored) → AreInRange geo index
in_range geo index now agree fit = record {
  held = λ id spot at.
      let s = agree.stands id spot at in
      let h = fit spot.slot s.stored s.full in
      record { slot = s.within; turn = omega (arith, h.turn, ap (λ (x : Spot). x.turn) s.is); len = omega (arith, h.size, ap (λ (x : Spot). x.len) s.is) };
  free = λ j some. elim (cases_lt j geo.slots) [
    | inl lt ↦ lt
    | inr past ↦ absurd (omega (arith, some, agree.free j, cond-false (nat_lt j geo.slots) (free_in (now j)) 0 (le-ltb j geo.slots past)))
  ];
}

pub all_free_in_range : (geo : Geometry) (index : SeenIndex) → ((now : ℕ → Slot) → ((j : ℕ) → j < geo.slots → now j ≡ free_slot) → IsIndexOf index geo.slots now) → AreInRange geo index
all_free_in_range geo index is = in_range geo index (λ _. free_slot) (is (λ _. free_slot) (λ j lt. refl)) (λ j stored full. absurd (not_free stored full))

-- slots that these headers show
abbrev slot_by : (n : ℕ) → Option (Option Header) → Slot
slot_by n None = bad_slot
slot_by n (Some header) = shown n (λ _. 0) header

abbrev slots_by : (n : ℕ) → List (Option Header) → ℕ → Slot
slots_by n headers j = slot_by n (slice_get headers j)

shown_by : (n : ℕ) (headers : List (Option Header)) → AreShownBy headers (slots_by n headers)
shown_by n headers j header is = subst (λ (o : Option (Option Header)). Says header (slot_by n o)) (sym is) (shown_says n (λ _. 0) header)

-- and some of them freed
abbrev freed : (ℕ → Slot) → List ℕ → ℕ → Slot
freed slots older j = if nat_lt 0 (times j older) then free_slot else slots j

are_freed : (n : ℕ) (slots : ℕ → Slot) (older : List ℕ) → AreFreed n older slots (freed slots older)
are_freed n slots older = record {
  free = λ j within some. cond-true (nat_lt 0 (times j older)) free_slot (slots j) (lt-ltb 0 (times j older) some);
  others = λ j within none. cond-false (nat_lt 0 (times j older)) free_slot (slots j) (le-ltb 0 (times j older) (omega (arith, none)));
}

was_full : (b : Bool) (slot : Slot) (stored : Stored) → (if b then free_slot else slot) ≡ full_slot stored → slot ≡ full_slot stored
was_full true slot stored full = absurd (not_free stored full)
was_full false slot stored full = full

module _ (geo : Geometry) (headers : List (Option Header)) (count : length headers ≡ geo.slots) (may : AllMayStand geo.servers geo.fragment headers) where
  abbrev slots : ℕ → Slot
  slots = slots_by geo.servers headers

  fit_by : (j : ℕ) (o : Option (Option Header)) → slice_get headers j ≡ o → (stored : Stored) → slot_by geo.servers o ≡ full_slot stored → Fits geo.fragment stored
  fit_by j None is stored full = absurd (cc full)
  fit_by j (Some header) is stored full = says_fit geo.servers geo.fragment header (shown geo.servers (λ _. 0) header) (λ h e. may j h (is ∙ ap (λ (x : Option Header). Some x) e)) (shown_says geo.servers (λ _. 0) header) stored full

  pub built_in_range : (index : SeenIndex) (older : List ℕ) → ((slots now : ℕ → Slot) → AreShownBy headers slots → AreFreed (length headers) older slots now → IsIndexOf index (length headers) now) → AreInRange geo index
  built_in_range index older is =
      in_range geo index (freed slots older)
      (subst (λ (n : ℕ). IsIndexOf index n (freed slots older)) count (is slots (freed slots older) (shown_by geo.servers headers) (are_freed (length headers) slots older)))
      (λ j stored full. fit_by j (slice_get headers j) refl stored (was_full (nat_lt 0 (times j older)) (slots j) stored full))

-- a slot of a list stands in it
pub stands_times : (xs : List ℕ) (k d : ℕ) → k < length xs → 0 < times (slice_index_or xs k d) xs
stands_times [] k d lt = absurd (omega arith)
stands_times (x ∷ xs) zero d lt = omega (arith, once_same x)
stands_times (x ∷ xs) (suc k) d lt = omega (arith, stands_times xs k d (omega (arith, lt)))

pub older_within : (geo : Geometry) (headers : List (Option Header)) (older : List ℕ) → length headers ≡ geo.slots
    → ((slots : ℕ → Slot) → AreShownBy headers slots → AreOlder slots (length headers) older) → All (λ slot. slot < geo.slots) older
older_within geo headers older count is k d lt =
    let h = is (slots_by geo.servers headers) (shown_by geo.servers headers) in
    omega (arith, count, (h.each (slice_index_or older k d) (stands_times older k d lt)).within)
