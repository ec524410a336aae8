-- The bytes of merged blocks.
use Rattle.std.proofs.Common.{◌≡◌, ℕ, ◌+◌, ◌-◌, ◌<◌, ◌≤◌, min, max, List, length, take, drop, sym, ap, ◌∙◌, inl, inr, arith, length-take, length-drop}
use Rattle.std.specs.Prelude.{slice_index}
use Rattle.std.proofs.lemmas.List.{get_or-take, get_or-drop, get_or_past}
use Rattle.std.proofs.lemmas.List.FromFn.{length-map-range_with_len, get_or-map-range_with_len}
use Rattle.std.proofs.lemmas.Bool.{cases_lt}
use Rattle.std.proofs.lemmas.Bool.Decides.{nat_tests}
use Rattle.zb_types.specs.Bytes.{first_bytes, byte_over, written, resized}

length-first_bytes : (n : ℕ) (f : ℕ → ℕ) → length (first_bytes n f) ≡ n
length-first_bytes n f = length-map-range_with_len f 0 n

byte-first_bytes : (n i : ℕ) (f : ℕ → ℕ) → i < n → slice_index (first_bytes n f) i ≡ f i
byte-first_bytes n i f l = get_or-map-range_with_len f 0 n i i 0 l (omega arith)

byte-first_bytes_past : (n i : ℕ) (f : ℕ → ℕ) → n ≤ i → slice_index (first_bytes n f) i ≡ 0
byte-first_bytes_past n i f l = get_or_past (first_bytes n f) i 0 (omega (arith, length-first_bytes n f))

-- where a byte that is written comes from
module _ (old : List ℕ) (at : ℕ) (bytes : List ℕ) where
  byte_over_within : (i : ℕ) → at ≤ i → i < at + length bytes → byte_over old at bytes i ≡ slice_index bytes (i - at)
  byte_over_within i low high = grind (arith, nat_tests)

  byte_over_before : (i : ℕ) → i < at → byte_over old at bytes i ≡ slice_index old i
  byte_over_before i l = grind (arith, nat_tests)

  byte_over_behind : (i : ℕ) → at + length bytes ≤ i → byte_over old at bytes i ≡ slice_index old i
  byte_over_behind i l = grind (arith, nat_tests)

  -- also past the end, where both are zero
  byte-written : (i : ℕ) → slice_index (written old at bytes) i ≡ byte_over old at bytes i
  byte-written i = elim (cases_lt i (max (length old) (at + length bytes))) [
    | inl l ↦ byte-first_bytes (max (length old) (at + length bytes)) i (byte_over old at bytes) l
    | inr l ↦ byte-first_bytes_past (max (length old) (at + length bytes)) i (byte_over old at bytes) l ∙ sym (byte_over_behind i (omega arith) ∙ get_or_past old i 0 (omega arith))
  ]

abbrev SameIn : ℕ → ℕ → List ℕ → List ℕ → Type 0
SameIn b start old file = (i : ℕ) → i < b → slice_index old i ≡ slice_index file (start + i)

module _ (b start offset y : ℕ) (file old bytes : List ℕ) (inside : y < b) (same : SameIn b start old file) where
  abbrev from : ℕ
  from = offset - start

  abbrev part : List ℕ
  part = take (b - from) (drop (start - offset) bytes)

  length-part : length part ≡ min (b - from) (length bytes - (start - offset))
  length-part = omega (arith, length-take (b - from) (drop (start - offset) bytes), length-drop (start - offset) bytes)

  byte-part : (i : ℕ) → i < b - from → slice_index part i ≡ slice_index bytes (start - offset + i)
  byte-part i l = get_or-take (b - from) (drop (start - offset) bytes) i 0 l ∙ get_or-drop (start - offset) bytes i 0

  within : offset ≤ start + y → start + y < offset + length bytes → slice_index (written old from part) y ≡ slice_index (written file offset bytes) (start + y)
  within low high = byte-written old from part y ∙ (byte_over_within old from part y (omega arith) (omega (arith, length-part)) ∙ (byte-part (y - from) (omega arith)
      ∙ (ap (slice_index bytes) (omega arith) ∙ sym (byte-written file offset bytes (start + y) ∙ byte_over_within file offset bytes (start + y) low high))))

  before : start + y < offset → slice_index (written old from part) y ≡ slice_index (written file offset bytes) (start + y)
  before l = byte-written old from part y ∙ (byte_over_before old from part y (omega arith) ∙ (same y inside ∙ sym (byte-written file offset bytes (start + y) ∙ byte_over_before file offset bytes (start + y) l)))

  behind : offset + length bytes ≤ start + y → slice_index (written old from part) y ≡ slice_index (written file offset bytes) (start + y)
  behind l = byte-written old from part y ∙ (byte_over_behind old from part y (omega (arith, length-part)) ∙ (same y inside ∙ sym (byte-written file offset bytes (start + y) ∙ byte_over_behind file offset bytes (start + y) l)))

  pub block_byte : slice_index (written old from part) y ≡ slice_index (written file offset bytes) (start + y)
  block_byte = elim (cases_lt (start + y) offset) [
    | inl l ↦ before l
    | inr low ↦ elim (cases_lt (start + y) (offset + length bytes)) [ inl high ↦ within low high | inr l ↦ behind l ]
  ]

pub cut_byte : (b start n y : ℕ) (file old : List ℕ) → y < b → SameIn b start old file → slice_index (resized old (n - start)) y ≡ slice_index (resized file n) (start + y)
cut_byte b start n y file old inside same = elim (cases_lt y (n - start)) [
  | inl l ↦ byte-first_bytes (n - start) y (slice_index old) l ∙ (same y inside ∙ sym (byte-first_bytes n (start + y) (slice_index file) (omega arith)))
  | inr l ↦ byte-first_bytes_past (n - start) y (slice_index old) l ∙ sym (byte-first_bytes_past n (start + y) (slice_index file) (omega arith))
]
