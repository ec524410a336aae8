-- What is read of a fragment of an open store, and why nothing is.
use Rattle.std.proofs.Common.{◌≡◌, ℕ, ◌+◌, ◌≤◌, ◌++◌, nat_le, true, false, List, length, take, drop, replicate, Result, Ok, Err, IfOk, Option, Some, sym, ◌∙◌, ap, subst, arith}
use Rattle.std.proofs.lemmas.Bool.{cond-true}
use Rattle.std.proofs.lemmas.Bool.Decides.{nat_tests}
use Rattle.zb_outside.specs.Meaning.{Standing}
use Rattle.zb_types.specs.declared.geometry.Geometry.{Geometry}
use Rattle.zb_types.specs.declared.ids.FragId.{FragId}
use Rattle.zb_types.specs.declared.requests.Response.TheVariants.{Bytes, Parity, Refused}
use Rattle.zb_types.specs.declared.requests.StoreFault.TheVariants.{Short}
use Rattle.zb_holding.specs.Fragments.{Fragment}
use Rattle.zb_holding.specs.Carrying.{found}
use Rattle.zb_slots.specs.Slots.{Slot}
use Rattle.zb_slots.specs.Changing.{share_slot, parity_slot}
use Rattle.zb_index.specs.declared.spot.Spot.{Spot}
use Rattle.zb_index.specs.Seen.{spot_of}
use Rattle.zb_slots.specs.Slots.{slots_in}
use Rattle.zb_slots.specs.declared.read_fault.ReadFault.{ReadFault}
use Rattle.zb_slots.specs.declared.read_fault.ReadFault.TheVariants as reading
use Rattle.zb_slots.specs.declared.range.ParityRange.{ParityRange}
use Rattle.zb_fragstore.specs.Reading.{or_unread}
use Rattle.zb_fragstore.specs.Seen.{SeenStore}
use Rattle.zb_fragstore.specs.Seen.{is_share}
use Rattle.zb_fragstore.specs.Changing.{map_in, IsOpen}
use Rattle.zb_fragstore.proofs.Found.{ShareAt, ParityAt, share_at, parity_at}

-- what was read
read_ok : {T : Type 0} (P : T → Type 0) (r : Result T ReadFault) (x : T) → Ok x ≡ or_unread r → IfOk r P → P x
read_ok P (Ok y) x e h = let same : x ≡ y = cc e in subst P (sym same) h
read_ok P (Err reading.NoMemory) x e h = absurd (cc e)
read_ok P (Err reading.Stopped) x e h = absurd (cc e)

-- a spot of an open store, by its sizes and its platter
module _ (store : SeenStore) (s : Standing) (id : FragId) (spot : Spot) (geo : Geometry) (p : ℕ) (geo_is : geo ≡ store.geo) (p_is : p ≡ store.server.0)
    (is_open : IsOpen store s) (at : spot_of store.index id ≡ Some spot) (place len : ℕ) where
  abbrev slot : Slot
  slot = slots_in geo (s.seen p) spot.slot

  same_slot : slot ≡ slots_in store.geo (s.seen store.server.0) spot.slot
  same_slot = ap (λ (g : Geometry). slots_in g (s.seen p) spot.slot) geo_is ∙ ap (λ (q : ℕ). slots_in store.geo (s.seen q) spot.slot) p_is

  abbrev Covers : ParityRange → Type 0
  Covers range = (name : FragId) (turn : ℕ) (covers stands : List ℕ) → slot ≡ parity_slot name turn covers stands → range.lengths ≡ covers

  abbrev Padded : ParityRange → Type 0
  Padded range = (name : FragId) (turn : ℕ) (covers stands : List ℕ) → slot ≡ parity_slot name turn covers stands → length stands ≡ spot.len → range.bytes ≡ take len (drop place stands ++ replicate len 0)

  parity_found : (range : ParityRange) → is_share store id ≡ false → Covers range → Padded range → Parity range.lengths range.bytes ≡ found (map_in store s id) place len
  parity_found range parity covered read =
      let h : ParityAt store.geo (s.seen store.server.0) id spot = parity_at store s id spot is_open at parity in
      let here : slot ≡ parity_slot id spot.turn h.lengths h.stands = same_slot ∙ h.slot in
      ap (λ (l : List ℕ). Parity l range.bytes) (covered id spot.turn h.lengths h.stands here)
      ∙ ap (λ (l : List ℕ). Parity h.lengths l) (read id spot.turn h.lengths h.stands here h.len)
      ∙ sym (ap (λ (o : Option Fragment). found o place len) h.map)

  -- a range of a parity
  pub parity_read : (r : Result ParityRange ReadFault) (range : ParityRange) → Ok range ≡ or_unread r → is_share store id ≡ false → IfOk r Covers → IfOk r Padded
      → Parity range.lengths range.bytes ≡ found (map_in store s id) place len
  parity_read r range e parity covered read = parity_found range parity (read_ok Covers r range e covered) (read_ok Padded r range e read)

  abbrev Cut : List ℕ → Type 0
  Cut bytes = (name : FragId) (stands : List ℕ) → slot ≡ share_slot name stands → place + len ≤ length stands → bytes ≡ take len (drop place stands)

  share_found : (bytes : List ℕ) → is_share store id ≡ true → place + len ≤ spot.len → Cut bytes → Bytes bytes ≡ found (map_in store s id) place len
  share_found bytes share within read =
      let h : ShareAt store.geo (s.seen store.server.0) id spot = share_at store s id spot is_open at share in
      let fits : place + len ≤ length h.stands = omega (arith, h.len, within) in
      let low : nat_le (place + len) (length h.stands) ≡ true = grind (arith, nat_tests) in
      ap (λ (l : List ℕ). Bytes l) (read id h.stands (same_slot ∙ h.slot) fits)
      ∙ sym (cond-true (nat_le (place + len) (length h.stands)) (Bytes (take len (drop place h.stands))) (Refused (Short (length h.stands))) low)
      ∙ sym (ap (λ (o : Option Fragment). found o place len) h.map)

  -- a range of a share
  pub share_read : (r : Result (List ℕ) ReadFault) (bytes : List ℕ) → Ok bytes ≡ or_unread r → is_share store id ≡ true → place + len ≤ spot.len → IfOk r Cut → Bytes bytes ≡ found (map_in store s id) place len
  share_read r bytes e share within read = share_found bytes share within (read_ok Cut r bytes e read)
