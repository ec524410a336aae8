-- An index of slots without the older parities, while it is built.
use Rattle.std.specs.Prelude.{ℕ, ◌<◌, ◌==◌, if◌then◌else◌, List, Option, None, Some}
use Rattle.std.specs.List.Sorted.{IsStrictlyIncreasing}
use Rattle.zb_slots.specs.Slots.{Slot, Stored, bad_slot, free_slot, full_slot}
use Rattle.zb_slots.specs.Holding.{held}
use Rattle.zb_index.specs.Free.{times}
use Rattle.zb_index.specs.Indexed.{Agree}
use Rattle.zb_index.specs.Seen.{Entries, spot_in}
use Rattle.zb_index.specs.Twins.{IsOlder}

-- a slot that holds this, or is free where its name stands for one with another turn
abbrev pub kept_of : Option Stored → Stored → Slot
kept_of None stored = free_slot
kept_of (Some newest) stored = if newest.turn == stored.turn then full_slot stored else free_slot

-- a slot once the older parities are freed
abbrev pub tidied_slot : (ℕ → Slot) → ℕ → Slot → Slot
tidied_slot slots n bad_slot = bad_slot
tidied_slot slots n free_slot = free_slot
tidied_slot slots n (full_slot stored) = kept_of (held slots n stored.id) stored

-- the slots once the older parities of the first n are freed
abbrev pub tidied : (ℕ → Slot) → ℕ → ℕ → Slot
tidied slots n j = tidied_slot slots n (slots j)

-- the list has the slots below j of the older parities, in order
pub record AreOlderBelow (slots : ℕ → Slot) (n j : ℕ) (older : List ℕ) : Type 0 where
  pub order : IsStrictlyIncreasing older
  pub each : (k : ℕ) → 0 < times k older → IsOlder slots n k × (k < j)
  pub all : (k : ℕ) → k < j → IsOlder slots n k → 0 < times k older

-- these parts of an index are those of the first j slots, of n
pub record IsDraftOf (spots : Entries) (free freed : List ℕ) (slots : ℕ → Slot) (n j : ℕ) : Type 0 where
  pub agree : Agree (spot_in spots) (λ k. times k free) j (tidied slots n)
  pub older : AreOlderBelow slots n j freed
