-- What an index that has changed makes of a store.
use Rattle.std.proofs.Common.{◌≡◌, ℕ, Bool, true, false, if◌then◌else◌, List, length, Option, Some, IfSome, Result, Ok, Err, OnOk, ap, refl, sym, ◌∙◌, subst}
use Rattle.std.specs.Option.{option_map}
use Rattle.zb_cell.specs.Cell.{following}
use Rattle.zb_types.specs.declared.ids.FragId.{FragId}
use Rattle.zb_index.specs.declared.spot.Spot.{Spot}
use Rattle.zb_index.specs.Free.{IsTaken, IsExchanged}
use Rattle.zb_index.specs.Seen.{SeenIndex, spot_of}
use Rattle.zb_index.specs.Changes.{IsPut, first_spot, lengthened, next_spot, FollowsFill, FollowsMove}
use Rattle.zb_index.specs.Free.{IsLeast}
use Rattle.zb_holding.specs.Carrying.{same_frag}
use Rattle.zb_holding.proofs.Keys.{same_frag-of}
use Rattle.zb_fragstore.specs.Seen.{SeenStore, ChangesLength, TakesLeastSlot}
use Rattle.zb_fragstore.specs.Ranges.{AreInRange}
use Rattle.zb_fragstore.specs.Taking.{TakesSlot, Lengthens, MovesSlot}

some_is : (a b : Spot) → Some a ≡ Some b → a ≡ b
some_is a b e = cc e

pub taken_slot : (id : FragId) (slot len : ℕ) (old : SeenStore) (now : SeenIndex) → AreInRange old.geo old.index → IsTaken old.index.free slot now.free → IsPut old.index now id (Some (first_spot slot len)) → FollowsFill old.index now slot id 0 len
    → TakesSlot id slot len old (record old { index = now })
taken_slot id slot len old now range taken put follows = record { least = taken.least; within = range.free slot taken.least.there; put = put; count = taken.count; index = follows }

pub longer_slot : (id : FragId) (spot : Spot) (len : ℕ) (old : SeenStore) (now : SeenIndex) → spot_of old.index id ≡ Some spot → now.free ≡ old.index.free
    → IsPut old.index now id (option_map (lengthened len) (spot_of old.index id)) → IfSome (spot_of old.index id) (λ at. FollowsFill old.index now at.slot id at.turn len)
    → Lengthens id spot len old (record old { index = now })
longer_slot id spot len old now was free put follows = record {
  put = subst (λ (found : Option Spot). IsPut old.index now id (option_map (lengthened len) found)) was put;
  count = ap (λ (slots : List ℕ). length slots) free;
  index = subst (λ (found : Option Spot). IfSome found (λ at. FollowsFill old.index now at.slot id at.turn len)) was follows;
}

pub moved_slot : (id : FragId) (former : Spot) (slot len : ℕ) (old : SeenStore) (now : SeenIndex) → AreInRange old.geo old.index → spot_of old.index id ≡ Some former → IsExchanged old.index.free slot former.slot now.free
    → IsPut old.index now id (Some (next_spot slot len former)) → FollowsMove old.index now former.slot slot id (following former.turn) len → MovesSlot id former slot len old (record old { index = now })
moved_slot id former slot len old now range was moved put follows = record { was = was; least = moved.least; within = range.free slot moved.least.there; put = put; count = moved.count; index = follows }

-- a name whose spot has another length
lengths_put : (id : FragId) (put : Option Spot) (len : Option ℕ) (old new : SeenIndex) → option_map (λ (spot : Spot). spot.len) put ≡ len → IsPut old new id put
    → (q : FragId) → option_map (λ (spot : Spot). spot.len) (spot_of new q) ≡ (if same_frag id q then len else option_map (λ (spot : Spot). spot.len) (spot_of old q))
lengths_put id put len old new is changed q = by_case (same_frag id q) (changed q)
  where
    by_case : (b : Bool) → spot_of new q ≡ (if b then put else spot_of old q) → option_map (λ (spot : Spot). spot.len) (spot_of new q) ≡ (if b then len else option_map (λ (spot : Spot). spot.len) (spot_of old q))
    by_case true e = ap (option_map (λ (spot : Spot). spot.len)) e ∙ is
    by_case false e = ap (option_map (λ (spot : Spot). spot.len)) e

pub changes_length : (id : FragId) (put : Option Spot) (len : Option ℕ) (old new : SeenStore) → new ≡ record old { index = new.index } → option_map (λ (spot : Spot). spot.len) put ≡ len → IsPut old.index new.index id put → ChangesLength id len old new
changes_length id put len old new rest is changed = record { fence = ap (λ (s : SeenStore). s.fence) rest; lengths = lengths_put id put len old.index new.index is changed }

pub takes_least : (id : FragId) (slot : ℕ) (put : Spot) (old new : SeenStore) → IsLeast old.index.free slot → IsPut old.index new.index id (Some put) → put.slot ≡ slot → TakesLeastSlot id old new
takes_least id slot put old new least changed is spot at =
    let here : spot_of new.index id ≡ Some put = changed id ∙ ap (λ (b : Bool). if b then Some put else spot_of old.index id) (same_frag-of id id refl) in
    subst (IsLeast old.index.free) (sym is ∙ ap (λ (s : Spot). s.slot) (some_is put spot (sym here ∙ at))) least

-- what holds holds where all went well
pub if_ok : {T E P : Type 0} (r : Result T E) → P → OnOk r P
if_ok (Ok x) p = p
if_ok (Err e) p = tt
