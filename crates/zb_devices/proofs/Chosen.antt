-- Images of a platter: what was written is determined, and what a restart chooses is one.
use Rattle.std.proofs.Common.{◌≡◌, inl, inr, ℕ, ◌+◌, ◌-◌, ◌<◌, ◌≤◌, ◌==◌, Bool, true, false, if◌then◌else◌, List, [], ◌∷◌, ◌++◌, length, replicate, slice_index, refl, sym, ◌∙◌, ap, subst, arith}
use Rattle.std.proofs.lemmas.List.{length-replicate, ext_get_or}
use Rattle.std.proofs.lemmas.Bool.{cases_lt}
use Rattle.zb_outside.specs.Ranges.{Torn, Written, torn_same}
use Rattle.zb_devices.specs.Record.{overlaid, filled, chosen, stands, TornBy, MayLeave}
use Rattle.zb_devices.specs.Images.{torn_written, overlaid_written, seen_may_be_left}
use Rattle.zb_devices.specs.declared.device.Event.{Event}

-- what was written is determined
pub written_unique : (at : ℕ) (bytes old new other : List ℕ) → Written at bytes old new → Written at bytes old other → new ≡ other
written_unique at bytes old new other w v = ext_get_or 0 new other (w.size ∙ sym v.size) same
  where
    inside : (i : ℕ) → at ≤ i → i < at + length bytes → slice_index new i ≡ slice_index other i
    inside i low high =
        let is : at + (i - at) ≡ i = omega arith in
        sym (ap (slice_index new) is) ∙ w.within (i - at) (omega arith) ∙ sym (v.within (i - at) (omega arith)) ∙ ap (slice_index other) is

    same : (i : ℕ) → i < length new → slice_index new i ≡ slice_index other i
    same i lt = elim (cases_lt i at) [
      | inl low ↦ w.below i low ∙ sym (v.below i low)
      | inr ge ↦ elim (cases_lt i (at + length bytes)) [
        | inl mid ↦ inside i ge mid
        | inr high ↦ w.above i high ∙ sym (v.above i high)
      ]
    ]

pub torn_last : (rs : List (ℕ × ℕ)) (r : ℕ × ℕ) (base c : List ℕ) → TornBy (rs ++ r ∷ []) base c → (d : List ℕ) × TornBy rs base d × Torn r.0 r.1 d c
torn_last [] r base c is = (base, refl, subst (Torn r.0 r.1 base) (sym is.2) is.1)
torn_last (q ∷ rs) r base c is = let rest = torn_last rs r is.0 c is.2 in (rest.0, (is.0, is.1, rest.1), rest.2)

pub base_may_be_left : (rs : List (ℕ × ℕ)) (base : List ℕ) → TornBy rs base base
base_may_be_left [] base = refl
base_may_be_left (r ∷ rs) base = (base, torn_same r.0 r.1 base, base_may_be_left rs base)

filled_torn : (r : ℕ × ℕ) (byte : ℕ) (base : List ℕ) → Torn r.0 r.1 base (overlaid base r.0 (replicate r.1 byte))
filled_torn r byte base = subst (λ (n : ℕ). Torn r.0 n base (overlaid base r.0 (replicate r.1 byte))) (length-replicate {A = ℕ} r.1 byte) (torn_written (overlaid_written r.0 (replicate r.1 byte) base))

filled_may_be_left : (byte : ℕ) (rs : List (ℕ × ℕ)) (base : List ℕ) → TornBy rs base (filled byte rs base)
filled_may_be_left byte [] base = refl
filled_may_be_left byte (r ∷ rs) base = (overlaid base r.0 (replicate r.1 byte), filled_torn r byte base, filled_may_be_left byte rs (overlaid base r.0 (replicate r.1 byte)))

-- what a restart chooses is an image
pub chosen_may_be_left : (choice : ℕ) (es : List Event) (p : ℕ) → MayLeave (stands es p) (chosen choice (stands es p))
chosen_may_be_left choice es p = first (choice == 0)
  where
    second : (b : Bool) → MayLeave (stands es p) (if b then (stands es p).seen else filled choice (stands es p).ranges (stands es p).base)
    second true = seen_may_be_left es p
    second false = filled_may_be_left choice (stands es p).ranges (stands es p).base

    first : (b : Bool) → MayLeave (stands es p) (if b then (stands es p).base else (if choice == 1 then (stands es p).seen else filled choice (stands es p).ranges (stands es p).base))
    first true = base_may_be_left (stands es p).ranges (stands es p).base
    first false = second (choice == 1)
