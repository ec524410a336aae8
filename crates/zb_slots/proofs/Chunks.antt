-- Bytes that are compared in pieces.
use Rattle.std.proofs.Common.{◌≡◌, inl, inr, ℕ, ◌+◌, ◌-◌, ◌<◌, ◌≤◌, Bool, ◌↔◌, IsTrue, List, length, take, drop, slice_index, Decides, sym, ◌∙◌, ap, arith, length-take, length-drop}
use Rattle.std.proofs.lemmas.Bool.{cases_lt}
use Rattle.std.proofs.lemmas.List.{get_or-take, get_or-drop}
use Rattle.zb_outside.specs.Ranges.{Reads}
use Rattle.zb_slots.proofs.Bodies.{same_bytes}

-- one piece is compared with the front of what is read
pub chunk_is : (image buffer chunk there : List ℕ) (place : ℕ) (same : Bool) → there ≡ take (length chunk) buffer → length chunk ≤ length buffer → Reads image place buffer → Decides same (there ≡ chunk) → (IsTrue same ↔ Reads image place chunk)
chunk_is image buffer chunk there place same is fits reads eq = (
  λ h i lt. ap (λ (l : List ℕ). slice_index l i) (sym (eq.0 h) ∙ is) ∙ get_or-take (length chunk) buffer i 0 lt ∙ reads i (omega (arith, lt, fits)),
  λ h. eq.1 (is ∙ same_bytes (take (length chunk) buffer) chunk (omega (arith, length-take (length chunk) buffer, fits))
      (λ k lt. let low : k < length chunk = omega (arith, length-take (length chunk) buffer, fits, lt) in get_or-take (length chunk) buffer k 0 low ∙ reads k (omega (arith, low, fits)) ∙ sym (h k low))),
)

-- the bytes up to a place, and one piece more
pub more_there : (image bytes chunk : List ℕ) (place at end : ℕ) → chunk ≡ take (end - at) (drop at bytes) → at ≤ end → end ≤ length bytes → ((i : ℕ) → i < at → slice_index bytes i ≡ slice_index image (place + i))
    → Reads image (place + at) chunk → (i : ℕ) → i < end → slice_index bytes i ≡ slice_index image (place + i)
more_there image bytes chunk place at end is le within before reads i lt = elim (cases_lt i at) [
  | inl low ↦ before i low
  | inr high ↦
      let size : length chunk ≡ end - at = ap (λ (l : List ℕ). length l) is ∙ omega (arith, length-take (end - at) (drop at bytes), length-drop at bytes) in
      let here : slice_index chunk (i - at) ≡ slice_index bytes i =
      ap (λ (l : List ℕ). slice_index l (i - at)) is ∙ get_or-take (end - at) (drop at bytes) (i - at) 0 (omega arith) ∙ get_or-drop at bytes (i - at) 0 ∙ ap (slice_index bytes) (omega arith) in
      sym here ∙ reads (i - at) (omega (arith, size, lt, high)) ∙ ap (slice_index image) (omega (arith, high))
]

-- a piece that differs
pub not_there : (image bytes chunk : List ℕ) (place at end : ℕ) → chunk ≡ take (end - at) (drop at bytes) → at ≤ end → end ≤ length bytes → Reads image place bytes → Reads image (place + at) chunk
not_there image bytes chunk place at end is le within reads i lt =
    let size : length chunk ≡ end - at = ap (λ (l : List ℕ). length l) is ∙ omega (arith, length-take (end - at) (drop at bytes), length-drop at bytes) in
    let low : i < end - at = omega (arith, lt, size) in
    ap (λ (l : List ℕ). slice_index l i) is ∙ get_or-take (end - at) (drop at bytes) i 0 low ∙ get_or-drop at bytes i 0 ∙ reads (at + i) (omega (arith, low, within)) ∙ ap (slice_index image) (omega arith)
