-- On which bytes a slot depends.
use Rattle.std.proofs.Common.{◌≡◌, ◌≢◌, ◌⊎◌, inl, inr, ℕ, ◌+◌, ◌-◌, ◌*◌, ◌<◌, ◌≤◌, ◌==◌, nat_lt, nat_le, ◌&&◌, Bool, true, false, if◌then◌else◌, List, slice_index, Option, None, Some, refl, ◌∙◌, ap, arith}
use Rattle.std.proofs.lemmas.Bool.{cases_lt}
use Rattle.std.proofs.lemmas.Bool.Decides.{nat_tests}
use Rattle.std.proofs.Math.Nat.{mul-le-mul_right}
use Rattle.byteorder.specs.Endian.{big_from}
use Rattle.zb_cell.specs.Cell.{window, value_of, bytes_at}
use Rattle.zb_cell.proofs.Values.{value_ext, window_ext}
use Rattle.zb_types.specs.declared.ids.FragId.{FragId}
use Rattle.zb_holding.specs.Fragments.{share_fragment, parity_fragment}
use Rattle.zb_slots.specs.declared.header.Header.{Header}
use Rattle.zb_slots.specs.declared.header.Header.TheVariants.{Free, Share, Parity}
use Rattle.zb_slots.specs.Headers.{judged, name_in}
use Rattle.zb_slots.specs.Slots.{full_slot, numbers_at, shown, header_in, slot_in, slot_place}
use Rattle.zb_slots.specs.Laws.{DependsOnItsBytes, LeavesOthers}
use Rattle.zb_slots.proofs.Numbers.{numbers_ext}

-- up to where the bytes of a slot with this header count
abbrev pub counted_to : Option Header → ℕ
counted_to None = 128
counted_to (Some Free) = 128
counted_to (Some (Share id length)) = 192 + length
counted_to (Some (Parity id turn length)) = 192 + length

fits_by : (f : ℕ) (id : FragId) (turn length : ℕ) (free share parity : Bool) → (share ≡ true → length ≤ f) → (parity ≡ true → length ≤ f)
    → counted_to (if free then Some Free else (if share then Some (Share id length) else (if parity then Some (Parity id turn length) else None))) ≤ 192 + f
fits_by f id turn length true share parity a b = omega arith
fits_by f id turn length false true parity a b = omega (arith, a refl)
fits_by f id turn length false false true a b = omega (arith, b refl)
fits_by f id turn length false false false a b = omega arith

share_fits : (n f kind index turn length : ℕ) → (kind == 1 && (nat_lt (index + 1) n && (turn == 0 && nat_le length f))) ≡ true → length ≤ f
share_fits n f kind index turn length h = grind (arith, nat_tests)

parity_fits : (n f kind index turn length : ℕ) → (kind == 2 && (index + 1 == n && (nat_lt turn 3 && nat_le length f))) ≡ true → length ≤ f
parity_fits n f kind index turn length h = grind (arith, nat_tests)

judged_fits : (n f kind : ℕ) (id : FragId) (turn length : ℕ) → counted_to (judged n f kind id turn length) ≤ 192 + f
judged_fits n f kind id turn length = fits_by f id turn length
    (kind == 0 && (id.index == 0 && (turn == 0 && length == 0)))
    (kind == 1 && (nat_lt (id.index + 1) n && (turn == 0 && nat_le length f)))
    (kind == 2 && (id.index + 1 == n && (nat_lt turn 3 && nat_le length f)))
    (share_fits n f kind id.index turn length) (parity_fits n f kind id.index turn length)

header_fits : (n f : ℕ) (v : Option (List ℕ)) → counted_to (header_in n f v) ≤ 192 + f
header_fits n f None = omega arith
header_fits n f (Some payload) = judged_fits n f (slice_index payload 13) (name_in payload) (slice_index payload 14) (big_from 16 4 payload)

-- what isn't counted doesn't matter
pub shown_ext : (n : ℕ) (a b : ℕ → ℕ) → n ≤ 16 → (h : Option Header) → ((i : ℕ) → 128 ≤ i → i < counted_to h → a i ≡ b i) → shown n a h ≡ shown n b h
shown_ext n a b few None same = refl
shown_ext n a b few (Some Free) same = refl
shown_ext n a b few (Some (Share id length)) same =
    let body : window a 192 length ≡ window b 192 length = window_ext a b 192 length (λ i le lt. same i (omega arith) (omega arith)) in
    λ i. full_slot (record { id = id; turn = 0; fragment = share_fragment (body i) })
shown_ext n a b few (Some (Parity id turn length)) same =
    let body : window a 192 length ≡ window b 192 length = window_ext a b 192 length (λ i le lt. same i (omega arith) (omega arith)) in
    let lengths : numbers_at a 128 (n - 1) ≡ numbers_at b 128 (n - 1) = numbers_ext a b 128 (n - 1) (λ i le lt. same i (omega arith) (omega arith)) in
    λ i. full_slot (record { id = id; turn = turn; fragment = parity_fragment (lengths i) (body i) })

pub slot_ext : (n f : ℕ) (a b : ℕ → ℕ) → n ≤ 16 → ((i : ℕ) → i < 192 + f → a i ≡ b i) → slot_in n f a ≡ slot_in n f b
slot_ext n f a b few same =
    ap (λ (v : Option (List ℕ)). shown n a (header_in n f v)) (value_ext a b (λ i lt. same i (omega arith)))
    ∙ shown_ext n a b few (header_in n f (value_of b)) (λ i le lt. same i (omega (arith, header_fits n f (value_of b))))

pub depends : DependsOnItsBytes
depends n f image other place few same = slot_ext n f (bytes_at other place) (bytes_at image place) few same

-- slots stand apart
apart : (f i j k : ℕ) → j ≢ i → k < 192 + f → (slot_place f j + k < slot_place f i) ⊎ (slot_place f i + (192 + f) ≤ slot_place f j + k)
apart f i j k ne lt = elim (cases_lt j i) [
  | inl below ↦ let h : (j + 1) * (192 + f) ≤ i * (192 + f) = mul-le-mul_right (192 + f) (omega arith) in inl (omega (arith, h, one_more j (192 + f)))
  | inr above ↦ let h : (i + 1) * (192 + f) ≤ j * (192 + f) = mul-le-mul_right (192 + f) (omega arith) in inr (omega (arith, h, one_more i (192 + f)))
]
  where
    one_more : (a b : ℕ) → (a + 1) * b ≡ a * b + b
    one_more a b = grind arith

pub others_left : LeavesOthers
others_left n f i j old new few ne o =
    slot_ext n f (bytes_at new (slot_place f j)) (bytes_at old (slot_place f j)) few (λ k lt. o.same (slot_place f j + k) (apart f i j k ne lt))
