-- Which slots hold one name.
use Rattle.std.specs.Prelude.{◌≡◌, ◌≢◌, ℕ, ◌<◌, Bool, true, false, List, Option, None, Some}
use Rattle.std.specs.Map.{lookup}
use Rattle.zb_holding.specs.Carrying.{same_frag}
use Rattle.zb_types.specs.declared.ids.FragId.{FragId}
use Rattle.zb_slots.specs.Slots.{Slot, Stored, free_slot, full_slot}
use Rattle.zb_slots.specs.Holding.{named, held, is_parity, IsBad}
use Rattle.zb_index.specs.declared.holders.Holder.{Holder}
use Rattle.zb_index.specs.declared.holders.Holders.{Holders}
use Rattle.zb_index.specs.declared.holders.Holders.TheVariants.{One, Two, More}
use Rattle.zb_index.specs.declared.spot.Spot.{Spot}
use Rattle.zb_index.specs.Indexed.{spot_at}
use Rattle.zb_index.specs.Twins.{IsOlder}

-- the holder of what slot j holds
abbrev pub holder_at : ℕ → Stored → Holder
holder_at j stored = record { spot = spot_at j stored; is_parity = is_parity stored.fragment }

-- slot j, which is this one, holds a fragment as its name and holder say
pub record IsHeldBy (j : ℕ) (slot : Slot) (id : FragId) (holder : Holder) : Type 0 where
  pub stored : Stored
  pub full : slot ≡ full_slot stored
  pub name : stored.id ≡ id
  pub is : holder ≡ holder_at j stored

-- slot j is free, or full as its name and holder say
abbrev pub ShowsHolder : ℕ → Slot → Option (FragId × Holder) → Type 0
ShowsHolder j slot None = slot ≡ free_slot
ShowsHolder j slot (Some named) = IsHeldBy j slot named.0 named.1

-- a slot, of n, holds this name as the holder says
pub record HoldsAs (n : ℕ) (slots : ℕ → Slot) (id : FragId) (holder : Holder) : Type 0 where
  pub stored : Stored
  pub within : holder.spot.slot < n
  pub full : slots holder.spot.slot ≡ full_slot stored
  pub name : stored.id ≡ id
  pub is : holder ≡ holder_at holder.spot.slot stored

-- one slot alone, of n, holds this name
pub record IsOne (n : ℕ) (slots : ℕ → Slot) (id : FragId) (first : Holder) : Type 0 where
  pub holds : HoldsAs n slots id first
  pub alone : (k : ℕ) → k < n → k ≢ first.spot.slot → named id (slots k) ≡ None

-- two slots, of n, hold this name
pub record AreTwo (n : ℕ) (slots : ℕ → Slot) (id : FragId) (first second : Holder) : Type 0 where
  pub holds : HoldsAs n slots id first
  pub too : HoldsAs n slots id second
  pub order : first.spot.slot < second.spot.slot
  pub alone : (k : ℕ) → k < n → k ≢ first.spot.slot → k ≢ second.spot.slot → named id (slots k) ≡ None

-- more slots than two, of n, hold this name, and this one is the first
pub record AreMore (n : ℕ) (slots : ℕ → Slot) (id : FragId) (first : Holder) : Type 0 where
  pub second : Holder
  pub third : Holder
  pub holds : HoldsAs n slots id first
  pub too : HoldsAs n slots id second
  pub also : HoldsAs n slots id third
  pub order : first.spot.slot < second.spot.slot
  pub next : second.spot.slot < third.spot.slot
  pub least : (k : ℕ) → k < first.spot.slot → named id (slots k) ≡ None

-- these are the slots, of the first n, that hold this name
abbrev pub AreHolders : (n : ℕ) (slots : ℕ → Slot) → FragId → Option Holders → Type 0
AreHolders n slots id None = (k : ℕ) → k < n → named id (slots k) ≡ None
AreHolders n slots id (Some (One first)) = IsOne n slots id first
AreHolders n slots id (Some (Two first second)) = AreTwo n slots id first second
AreHolders n slots id (Some (More first)) = AreMore n slots id first

-- the holders of each name
abbrev pub Gathered : Type 0
Gathered = List (FragId × Holders)

-- these are the slots, of the first n, that hold each name
abbrev pub AreGathered : (n : ℕ) (slots : ℕ → Slot) → Gathered → Type 0
AreGathered n slots names = (id : FragId) → AreHolders n slots id (lookup (same_frag id) names)

-- whether slot j, of n, is bad
pub record TellsBad (slots : ℕ → Slot) (n j : ℕ) (answer : Bool) : Type 0 where
  pub bad : answer ≡ true → IsBad slots n j
  pub good : answer ≡ false → IsBad slots n j → ⊥

-- a slot, of n, holds the fragment that the name stands for
pub record IsNewestAt (n : ℕ) (slots : ℕ → Slot) (id : FragId) (spot : Spot) : Type 0 where
  pub stored : Stored
  pub within : spot.slot < n
  pub full : slots spot.slot ≡ full_slot stored
  pub name : stored.id ≡ id
  pub is : spot ≡ spot_at spot.slot stored
  pub held : held slots n id ≡ Some stored

-- whether a name stands for what slot j holds, or that is the older of two
pub record TellsNewest (slots : ℕ → Slot) (n j : ℕ) (stored : Stored) (answer : Bool) : Type 0 where
  pub newest : answer ≡ true → held slots n stored.id ≡ Some stored
  pub older : answer ≡ false → IsOlder slots n j
