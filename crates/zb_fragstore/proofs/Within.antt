-- What is kept of slots stays in range.
use Rattle.std.proofs.Common.{◌≡◌, inl, inr, ℕ, ◌<◌, ◌≤◌, Bool, true, false, if◌then◌else◌, Option, None, Some, sym, ◌∙◌, subst, arith}
use Rattle.std.proofs.lemmas.Bool.{cases_eq}
use Rattle.zb_cell.specs.Cell.{following}
use Rattle.zb_types.specs.declared.geometry.Geometry.{Geometry}
use Rattle.zb_types.specs.declared.ids.FragId.{FragId}
use Rattle.zb_holding.specs.Carrying.{same_frag}
use Rattle.zb_index.specs.declared.spot.Spot.{Spot}
use Rattle.zb_index.specs.Free.{times, IsTaken, IsGiven, IsExchanged}
use Rattle.zb_index.proofs.Counting.{once_other}
use Rattle.zb_index.specs.Seen.{SeenIndex, spot_of}
use Rattle.zb_index.specs.Changes.{IsPut, first_spot, lengthened, next_spot}
use Rattle.zb_fragstore.specs.Ranges.{IsInRange, AreInRange}

-- where one name has another spot
put_held : (geo : Geometry) (id : FragId) (put : Option Spot) (old new : SeenIndex) → AreInRange geo old → ((spot : Spot) → put ≡ Some spot → IsInRange geo spot) → IsPut old new id put
    → (q : FragId) (spot : Spot) → spot_of new q ≡ Some spot → IsInRange geo spot
put_held geo id put old new range fits is q spot at = by_case (same_frag id q) (is q)
  where
    by_case : (b : Bool) → spot_of new q ≡ (if b then put else spot_of old q) → IsInRange geo spot
    by_case true e = fits spot (sym e ∙ at)
    by_case false e = range.held q spot (sym e ∙ at)

turn_low : (turn : ℕ) → following turn < 3
turn_low turn = grind arith

some_is : (a b : Spot) → Some a ≡ Some b → a ≡ b
some_is a b e = cc e

pub taken_within : (geo : Geometry) (id : FragId) (slot len : ℕ) (old new : SeenIndex) → AreInRange geo old → len ≤ geo.fragment → IsTaken old.free slot new.free → IsPut old new id (Some (first_spot slot len)) → AreInRange geo new
taken_within geo id slot len old new range fits taken put = record {
  held = put_held geo id (Some (first_spot slot len)) old new range (λ spot e. subst (IsInRange geo) (some_is (first_spot slot len) spot e) (record { slot = range.free slot taken.least.there; turn = omega arith; len = fits })) put;
  free = λ j some. range.free j (omega (arith, some, taken.left j));
}

pub given_within : (geo : Geometry) (id : FragId) (spot : Spot) (old new : SeenIndex) → AreInRange geo old → spot_of old id ≡ Some spot → IsGiven old.free spot.slot new.free → IsPut old new id None → AreInRange geo new
given_within geo id spot old new range was given put = record {
  held = put_held geo id None old new range (λ other e. absurd (cc e)) put;
  free = λ j some. elim (cases_eq spot.slot j) [
    | inl is ↦ subst (λ (k : ℕ). k < geo.slots) is (range.held id spot was).slot
    | inr not ↦ range.free j (omega (arith, some, given.more j, once_other spot.slot j not))
  ];
}

pub longer_within : (geo : Geometry) (id : FragId) (spot : Spot) (len : ℕ) (old new : SeenIndex) → AreInRange geo old → spot_of old id ≡ Some spot → len ≤ geo.fragment → new.free ≡ old.free → IsPut old new id (Some (lengthened len spot)) → AreInRange geo new
longer_within geo id spot len old new range was fits same put = record {
  held = put_held geo id (Some (lengthened len spot)) old new range (λ other e. subst (IsInRange geo) (some_is (lengthened len spot) other e) (record { slot = (range.held id spot was).slot; turn = (range.held id spot was).turn; len = fits })) put;
  free = λ j some. range.free j (subst (λ free. 0 < times j free) same some);
}

pub moved_within : (geo : Geometry) (id : FragId) (former : Spot) (slot len : ℕ) (old new : SeenIndex) → AreInRange geo old → spot_of old id ≡ Some former → len ≤ geo.fragment → IsExchanged old.free slot former.slot new.free → IsPut old new id (Some (next_spot slot len former)) → AreInRange geo new
moved_within geo id former slot len old new range was fits moved put = record {
  held = put_held geo id (Some (next_spot slot len former)) old new range (λ other e. subst (IsInRange geo) (some_is (next_spot slot len former) other e) (record { slot = range.free slot moved.least.there; turn = turn_low former.turn; len = fits })) put;
  free = λ j some. elim (cases_eq former.slot j) [
    | inl is ↦ subst (λ (k : ℕ). k < geo.slots) is (range.held id former was).slot
    | inr not ↦ range.free j (omega (arith, some, moved.left j, once_other former.slot j not))
  ];
}
