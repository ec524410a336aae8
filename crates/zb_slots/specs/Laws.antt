-- What follows of slots: on which bytes each depends, and what a change of one does to what all hold.
use Rattle.std.specs.Prelude.{◌≡◌, ◌≢◌, ℕ, ◌+◌, ◌<◌, ◌≤◌, List, slice_index, None, Some}
use Rattle.zb_cell.specs.Cell.{following}
use Rattle.zb_outside.specs.Ranges.{SameBeside}
use Rattle.zb_types.specs.declared.ids.FragId.{FragId}
use Rattle.zb_slots.specs.declared.header.Header.{Header}
use Rattle.zb_slots.specs.Headers.{said, header_text, HasRoom, MayStand}
use Rattle.zb_slots.specs.Slots.{Slot, Stored, slot_of, slot_place, slots_of}
use Rattle.zb_slots.specs.Holding.{named, held, free_in, free_count}

-- a header that may stand is read back from its payload
abbrev pub ReadsBack : Type 0
ReadsBack = (n f : ℕ) (header : Header) → HasRoom header → MayStand n f header → said n f (header_text header) ≡ Some header

-- a slot depends on its own bytes alone; its lengths area has room for the numbers of 16 servers
abbrev pub DependsOnItsBytes : Type 0
DependsOnItsBytes = (n f : ℕ) (image other : List ℕ) (place : ℕ) → n ≤ 16 → ((i : ℕ) → i < 192 + f → slice_index other (place + i) ≡ slice_index image (place + i)) → slot_of n f other place ≡ slot_of n f image place

-- what changes within slot i leaves the other slots
abbrev pub LeavesOthers : Type 0
LeavesOthers = (n f i j : ℕ) (old new : List ℕ) → n ≤ 16 → j ≢ i → SameBeside (slot_place f i) (192 + f) old new → slots_of n f new j ≡ slots_of n f old j

-- of the first n slots all but slot i are the same
abbrev pub SameBut : (n i : ℕ) → (ℕ → Slot) → (ℕ → Slot) → Type 0
SameBut n i before now = (k : ℕ) → k < n → k ≢ i → now k ≡ before k

-- none of the first n slots but slot i holds this name
abbrev pub NoneBut : (n i : ℕ) → FragId → (ℕ → Slot) → Type 0
NoneBut n i id slots = (k : ℕ) → k < n → k ≢ i → named id (slots k) ≡ None

-- another name stands for what it stood for
abbrev pub OtherNamesStay : Type 0
OtherNamesStay = (n i : ℕ) (id : FragId) (before now : ℕ → Slot) → SameBut n i before now → named id (before i) ≡ None → named id (now i) ≡ None → held now n id ≡ held before n id

-- a name that one slot alone may hold stands for what that slot holds
abbrev pub OneHolds : Type 0
OneHolds = (n i : ℕ) (id : FragId) (slots : ℕ → Slot) → i < n → NoneBut n i id slots → held slots n id ≡ named id (slots i)

-- a name under which nothing is held stands in no slot
abbrev pub NoneHolds : Type 0
NoneHolds = (n i : ℕ) (id : FragId) (slots : ℕ → Slot) → held slots n id ≡ None → i < n → named id (slots i) ≡ None

-- slot i holds the former of a name and slot j the one whose turn follows, and no other slot holds it
pub record HoldBoth (n i j : ℕ) (id : FragId) (slots : ℕ → Slot) (former stored : Stored) : Type 0 where
  pub within : i < n
  pub also : j < n
  pub apart : j ≢ i
  pub there : named id (slots i) ≡ Some former
  pub here : named id (slots j) ≡ Some stored
  pub turn : former.turn < 3
  pub follows : stored.turn ≡ following former.turn
  pub alone : (k : ℕ) → k < n → k ≢ i → k ≢ j → named id (slots k) ≡ None

-- of two parities of one name the one counts whose turn follows
abbrev pub NewerCounts : Type 0
NewerCounts = (n i j : ℕ) (id : FragId) (slots : ℕ → Slot) (former stored : Stored) → HoldBoth n i j id slots former stored → held slots n id ≡ Some stored

-- a change of one slot changes the count of the free ones by that slot
abbrev pub CountsOne : Type 0
CountsOne = (n i : ℕ) (before now : ℕ → Slot) → i < n → SameBut n i before now → free_count now n + free_in (before i) ≡ free_count before n + free_in (now i)
