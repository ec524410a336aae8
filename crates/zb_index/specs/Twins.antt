-- Two parities under one name, and slots that are bad.
use Rattle.std.specs.Prelude.{◌≡◌, ◌≢◌, ℕ, ◌<◌, List, Some}
use Rattle.std.specs.List.Sorted.{IsStrictlyIncreasing}
use Rattle.zb_slots.specs.Slots.{Slot, Stored, free_slot, full_slot}
use Rattle.zb_slots.specs.Holding.{held, IsBad}
use Rattle.zb_index.specs.declared.faults.IndexFault.{IndexFault}
use Rattle.zb_index.specs.declared.faults.IndexFault.TheVariants.{Bad, NoMemory}
use Rattle.zb_index.specs.Free.{times}

-- none of the first n slots is bad
abbrev pub NoneIsBad : (ℕ → Slot) → ℕ → Type 0
NoneIsBad slots n = (j : ℕ) → j < n → IsBad slots n j → ⊥

-- slot j, of n, is bad, and none below it
pub record IsFirstBad (slots : ℕ → Slot) (n j : ℕ) : Type 0 where
  pub within : j < n
  pub bad : IsBad slots n j
  pub first : (i : ℕ) → i < j → IsBad slots n i → ⊥

-- a fault names the first bad slot, and is want of memory only where none is bad
abbrev pub NamesFirstBad : (ℕ → Slot) → ℕ → IndexFault → Type 0
NamesFirstBad slots n (Bad slot) = IsFirstBad slots n slot
NamesFirstBad slots n NoMemory = NoneIsBad slots n

-- slot j, of n, holds the older of two parities: its name stands for one with another turn
pub record IsOlder (slots : ℕ → Slot) (n j : ℕ) : Type 0 where
  pub stored : Stored
  pub newest : Stored
  pub within : j < n
  pub full : slots j ≡ full_slot stored
  pub stands : held slots n stored.id ≡ Some newest
  pub other : newest.turn ≢ stored.turn

-- the list has the older parities' slots, in order
pub record AreOlder (slots : ℕ → Slot) (n : ℕ) (older : List ℕ) : Type 0 where
  pub order : IsStrictlyIncreasing older
  pub each : (j : ℕ) → 0 < times j older → IsOlder slots n j
  pub all : (j : ℕ) → IsOlder slots n j → 0 < times j older

-- these slots are free now, and the others of the first n the same
pub record AreFreed (n : ℕ) (freed : List ℕ) (before now : ℕ → Slot) : Type 0 where
  pub free : (j : ℕ) → j < n → 0 < times j freed → now j ≡ free_slot
  pub others : (j : ℕ) → j < n → times j freed ≡ 0 → now j ≡ before j
