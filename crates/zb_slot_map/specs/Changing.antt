-- What the calls on a platter do to its map, moment by moment.
use Rattle.std.specs.Prelude.{◌≡◌, ◌≢◌, ◌⊎◌, ℕ, ◌-◌, ◌<◌, List, ◌++◌, length, drop, Option, None, Some, Result, OnOk}
use Rattle.zb_outside.specs.Meaning.{Meaning, Standing}
use Rattle.zb_outside.specs.Runs.{Run, IsSettled}
use Rattle.zb_cell.specs.Cell.{value, following}
use Rattle.zb_types.specs.declared.geometry.Geometry.{Geometry}
use Rattle.zb_types.specs.declared.ids.FragId.{FragId}
use Rattle.zb_holding.specs.Fragments.{Fragment, share_fragment, parity_fragment}
use Rattle.zb_slots.specs.Slots.{Slot, Stored, bad_slot, free_slot, full_slot}
use Rattle.zb_slots.specs.Area.{lengths_in}
use Rattle.zb_slots.specs.Changing.{share_slot, parity_slot}
use Rattle.zb_slots.specs.Laws.{SameBut, NoneBut}
use Rattle.zb_slots.specs.Slots.{slots_in}
use Rattle.zb_slots.specs.Holding.{map_of}
use Rattle.zb_slot_map.specs.Tidy.{AreTidy, IsSound, IsTidy, put}
use Rattle.zb_slot_map.specs.declared.replace.ParitySlot.{ParitySlot}

-- no slot is bad, the super cell and the length are as before, and the map is the former or the next
pub record FormerOrNext (geo : Geometry) (next : FragId → Option Fragment) (old new : List ℕ) : Type 0 where
  pub sound : IsSound geo new
  pub super : value new 0 ≡ value old 0
  pub size : length new ≡ length old
  pub map : ((id : FragId) → map_of geo new id ≡ map_of geo old id) ⊎ ((id : FragId) → map_of geo new id ≡ next id)

-- slot i is this one and the others are as before, and the map is the next
pub record IsChanged (geo : Geometry) (i : ℕ) (this : Slot) (next : FragId → Option Fragment) (old new : List ℕ) : Type 0 where
  pub tidy : IsTidy geo new
  pub super : value new 0 ≡ value old 0
  pub slot : slots_in geo new i ≡ this
  pub others : SameBut geo.slots i (slots_in geo old) (slots_in geo new)
  pub map : (id : FragId) → map_of geo new id ≡ next id

-- on the way the map is the former or the next; after Ok it is the next by a change of slot i, and no write is unsynced
pub record MapTold {T E : Type 0} (geo : Geometry) (p i : ℕ) (this : Slot) (next : FragId → Option Fragment) (result : Result T E) (old new : Meaning) : Type 0 where
  pub run : Run p (FormerOrNext geo next (old.now.seen p)) old new
  pub settled : OnOk result (IsSettled p new.now)
  pub changed : OnOk result (IsChanged geo i this next (old.now.seen p) (new.now.seen p))

-- no write of the platter is unsynced, and it is tidy
pub record IsKept (geo : Geometry) (p : ℕ) (s : Standing) : Type 0 where
  pub settled : IsSettled p s
  pub tidy : IsTidy geo (s.seen p)

-- a slot holds nothing but this name
abbrev pub OnlyNames : FragId → Slot → Type 0
OnlyNames id slot = (stored : Stored) → slot ≡ full_slot stored → stored.id ≡ id

-- slot i of n may become this one: both hold nothing but this name, and no other slot holds it
pub record MayChange (n i : ℕ) (id : FragId) (this : Slot) (before : ℕ → Slot) : Type 0 where
  pub tidy : AreTidy n before
  pub within : i < n
  pub others : NoneBut n i id before
  pub was : OnlyNames id (before i)
  pub is : OnlyNames id this
  pub good : this ≢ bad_slot

-- slot i is free, slot j is this one and the others are as before, and the map is the next
pub record IsReplaced (geo : Geometry) (i j : ℕ) (this : Slot) (next : FragId → Option Fragment) (old new : List ℕ) : Type 0 where
  pub tidy : IsTidy geo new
  pub super : value new 0 ≡ value old 0
  pub former : slots_in geo new i ≡ free_slot
  pub slot : slots_in geo new j ≡ this
  pub others : (k : ℕ) → k < geo.slots → k ≢ i → k ≢ j → slots_in geo new k ≡ slots_in geo old k
  pub map : (id : FragId) → map_of geo new id ≡ next id

-- on the way the map is the former or the next; after Ok slot j holds it in place of slot i, and no write is unsynced
pub record ReplaceTold {T E : Type 0} (geo : Geometry) (p i j : ℕ) (this : Slot) (next : FragId → Option Fragment) (result : Result T E) (old new : Meaning) : Type 0 where
  pub run : Run p (FormerOrNext geo next (old.now.seen p)) old new
  pub settled : OnOk result (IsSettled p new.now)
  pub replaced : OnOk result (IsReplaced geo i j this next (old.now.seen p) (new.now.seen p))

-- where slot i is free and the map lacks the name, it holds this parity then: the lengths and the bytes in this area
abbrev pub StoresParity : {T E : Type 0} → Geometry → (p i : ℕ) → FragId → (area : List ℕ) → Result T E → Meaning → Meaning → Type 0
StoresParity geo p i id area result old new =
    let lengths : List ℕ = lengths_in (geo.servers - 1) area in
    slots_in geo (old.now.seen p) i ≡ free_slot → map_of geo (old.now.seen p) id ≡ None
    → MapTold geo p i (parity_slot id 0 lengths (drop 64 area)) (put id (Some (parity_fragment lengths (drop 64 area))) (map_of geo (old.now.seen p))) result old new

-- where slot i holds a share of this name and of so many bytes, these bytes stand behind them then
abbrev pub AppendsShare : {T E : Type 0} → Geometry → (p i : ℕ) → FragId → (len : ℕ) → (bytes : List ℕ) → Result T E → Meaning → Meaning → Type 0
AppendsShare geo p i id len bytes result old new = (stands : List ℕ) → length stands ≡ len → slots_in geo (old.now.seen p) i ≡ share_slot id stands
    → MapTold geo p i (share_slot id (stands ++ bytes)) (put id (Some (share_fragment (stands ++ bytes))) (map_of geo (old.now.seen p))) result old new

-- where a slot holds a parity of this name and turn and slot j is free, slot j holds the parity in this area in its place then
abbrev pub ReplacesParity : {T E : Type 0} → Geometry → (p : ℕ) → (former : ParitySlot) → (j : ℕ) → FragId → (area : List ℕ) → Result T E → Meaning → Meaning → Type 0
ReplacesParity geo p former j id area result old new = (covered bytes : List ℕ) →
    let lengths : List ℕ = lengths_in (geo.servers - 1) area in
    slots_in geo (old.now.seen p) former.slot ≡ parity_slot id former.turn covered bytes → slots_in geo (old.now.seen p) j ≡ free_slot
    → ReplaceTold geo p former.slot j (parity_slot id (following former.turn) lengths (drop 64 area)) (put id (Some (parity_fragment lengths (drop 64 area))) (map_of geo (old.now.seen p))) result old new
