-- Headers that are read one behind the other.
use Rattle.std.proofs.Common.{◌≡◌, ◌⊎◌, inl, inr, ⊎_elim, ℕ, ◌-◌, zero, suc, List, [], ◌∷◌, ◌++◌, length, Option, None, Some, refl, sym, ◌∙◌, ap, subst, arith}
use Rattle.std.specs.Prelude.{slice_get}
use Rattle.zb_cell.specs.Cell.{window, bytes_at, value}
use Rattle.zb_types.specs.declared.geometry.Geometry.{Geometry}
use Rattle.zb_slots.specs.declared.header.Header.{Header}
use Rattle.zb_slots.specs.declared.header.Header.TheVariants.{Free, Share, Parity}
use Rattle.zb_slots.specs.Headers.{MayStand}
use Rattle.zb_slots.specs.Slots.{numbers_at, shown, header_in, slot_place}
use Rattle.zb_slots.proofs.Fills.{length-window}
use Rattle.zb_slots.specs.Slots.{slots_in}
use Rattle.zb_slots.specs.Shown.{Says}
use Rattle.zb_slots.specs.Showing.{header_of, AreShown, AllMayStand}

-- an entry of a list with one more
got : {A : Type 0} (xs : List A) (x : A) (j : ℕ) (y : A) → slice_get (xs ++ x ∷ []) j ≡ Some y → (slice_get xs j ≡ Some y) ⊎ ((j ≡ length xs) × (x ≡ y))
got [] x zero y h = inr (refl, cc h)
got [] x (suc j) y h = absurd (cc h)
got (z ∷ xs) x zero y h = inl h
got (z ∷ xs) x (suc j) y h = ⊎_elim (λ a. inl a) (λ b. inr (omega (arith, b.0), b.1)) (got xs x j y h)

pub says : (geo : Geometry) (image now : List ℕ) (slot place : ℕ) (header : Option Header) → now ≡ image → place ≡ slot_place geo.fragment slot → header ≡ header_in geo.servers geo.fragment (value now place) → header ≡ header_of geo image slot
says geo image now slot place header same at is = is ∙ (λ i. header_in geo.servers geo.fragment (value (same i) (at i)))

pub one_more_shown : (geo : Geometry) (image : List ℕ) (headers : List (Option Header)) (last : Option Header) (slot : ℕ) → length headers ≡ slot → ((j : ℕ) (header : Option Header) → slice_get headers j ≡ Some header → header ≡ header_of geo image j)
    → last ≡ header_of geo image slot → (j : ℕ) (header : Option Header) → slice_get (headers ++ last ∷ []) j ≡ Some header → header ≡ header_of geo image j
one_more_shown geo image headers last slot count each here j header h = ⊎_elim
    (λ before. each j header before)
    (λ new. sym new.1 ∙ here ∙ ap (header_of geo image) (sym count ∙ sym new.0))
    (got headers last j header h)

-- a slot is as its header says
pub shown_says : (n : ℕ) (byte : ℕ → ℕ) (header : Option Header) → Says header (shown n byte header)
shown_says n byte None = refl
shown_says n byte (Some Free) = refl
shown_says n byte (Some (Share id len)) = record { bytes = window byte 192 len; is = refl; size = length-window byte 192 len }
shown_says n byte (Some (Parity id turn len)) = record { lengths = numbers_at byte 128 (n - 1); bytes = window byte 192 len; is = refl; size = length-window byte 192 len }

pub are_shown : (geo : Geometry) (image : List ℕ) (headers : List (Option Header)) → length headers ≡ geo.slots → ((j : ℕ) (header : Option Header) → slice_get headers j ≡ Some header → header ≡ header_of geo image j) → AreShown geo image headers
are_shown geo image headers count each = record {
  count = count;
  each = each;
  slots = λ j header h. subst (λ (said : Option Header). Says said (slots_in geo image j)) (sym (each j header h)) (shown_says geo.servers (bytes_at image (slot_place geo.fragment j)) (header_of geo image j));
}

pub one_more_stands : (n f : ℕ) (headers : List (Option Header)) (says : Option Header) → AllMayStand n f headers → ((header : Header) → says ≡ Some header → MayStand n f header) → AllMayStand n f (headers ++ says ∷ [])
one_more_stands n f headers says all here j header h = ⊎_elim (λ before. all j header before) (λ last. here header last.1) (got headers says j (Some header) h)
