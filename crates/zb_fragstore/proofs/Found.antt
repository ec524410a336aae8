-- A share's name stands for a share, and a parity's for a parity.
use Rattle.std.proofs.Common.{◌≡◌, ◌⊎◌, inl, inr, ⊎_elim, ℕ, ◌+◌, ◌-◌, ◌<◌, nat_lt, true, false, List, length, Option, None, Some, refl, sym, ◌∙◌, ap, subst, arith}
use Rattle.std.proofs.lemmas.Bool.Decides.{nat_tests}
use Rattle.zb_outside.specs.Meaning.{Standing}
use Rattle.zb_cell.specs.Cell.{value_of, bytes_at, window}
use Rattle.zb_types.specs.declared.geometry.Geometry.{Geometry}
use Rattle.zb_types.specs.declared.ids.FragId.{FragId}
use Rattle.zb_holding.specs.Fragments.{share_fragment, parity_fragment}
use Rattle.zb_slots.specs.declared.header.Header.{Header}
use Rattle.zb_slots.specs.declared.header.Header.TheVariants.{Free, Share, Parity}
use Rattle.zb_slots.specs.Slots.{Stored, full_slot, shown, header_in, numbers_at, slot_place}
use Rattle.zb_slots.specs.Holding.{fragment_of}
use Rattle.zb_slots.specs.Changing.{share_slot, parity_slot}
use Rattle.zb_slots.proofs.Saying.{Stands, header_stands}
use Rattle.zb_slots.proofs.Bodies.{length-numbers}
use Rattle.zb_index.specs.declared.spot.Spot.{Spot}
use Rattle.zb_index.specs.Indexed.{size_of}
use Rattle.zb_index.specs.Laws.{IsHeldAt}
use Rattle.zb_index.specs.Seen.{spot_of}
use Rattle.zb_slots.specs.Slots.{slots_in}
use Rattle.zb_slots.specs.Holding.{map_of}
use Rattle.zb_index.proofs.Following.{same_full}
use Rattle.zb_fragstore.specs.Seen.{SeenStore}
use Rattle.zb_fragstore.specs.Seen.{is_share}
use Rattle.zb_fragstore.specs.Changing.{IsOpen}
use Rattle.zb_fragstore.proofs.Absent.{held_at}

abbrev share_stored : FragId → List ℕ → Stored
share_stored id bytes = record { id = id; turn = 0; fragment = share_fragment bytes }

abbrev parity_stored : FragId → ℕ → List ℕ → List ℕ → Stored
parity_stored id turn lengths bytes = record { id = id; turn = turn; fragment = parity_fragment lengths bytes }

record AsShare (n : ℕ) (stored : Stored) : Type 0 where
  below : stored.id.index + 1 < n
  bytes : List ℕ
  is : stored ≡ share_stored stored.id bytes

record AsParity (n : ℕ) (stored : Stored) : Type 0 where
  last : stored.id.index + 1 ≡ n
  lengths : List ℕ
  count : length lengths ≡ n - 1
  bytes : List ℕ
  is : stored ≡ parity_stored stored.id stored.turn lengths bytes

-- a slot with this header
kind_shown : (n f : ℕ) (byte : ℕ → ℕ) (header : Option Header) → Stands n f header → (stored : Stored) → shown n byte header ≡ full_slot stored → AsShare n stored ⊎ AsParity n stored
kind_shown n f byte None stands stored e = absurd (cc e)
kind_shown n f byte (Some Free) stands stored e = absurd (cc e)
kind_shown n f byte (Some (Share id len)) stands stored e =
    inl (subst (AsShare n) (same_full (share_stored id (window byte 192 len)) stored e)
    (record { below = stands.0; bytes = window byte 192 len; is = refl }))
kind_shown n f byte (Some (Parity id turn len)) stands stored e =
    inr (subst (AsParity n) (same_full (parity_stored id turn (numbers_at byte 128 (n - 1)) (window byte 192 len)) stored e)
    (record { last = stands.0; lengths = numbers_at byte 128 (n - 1); count = length-numbers byte 128 (n - 1); bytes = window byte 192 len; is = refl }))

kind : (geo : Geometry) (image : List ℕ) (slot : ℕ) (stored : Stored) → slots_in geo image slot ≡ full_slot stored → AsShare geo.servers stored ⊎ AsParity geo.servers stored
kind geo image slot stored e =
    let byte = bytes_at image (slot_place geo.fragment slot) in
    kind_shown geo.servers geo.fragment byte (header_in geo.servers geo.fragment (value_of byte)) (header_stands geo.servers geo.fragment (value_of byte)) stored e

-- a share stands at this spot
pub record ShareAt (geo : Geometry) (image : List ℕ) (id : FragId) (spot : Spot) : Type 0 where
  pub stands : List ℕ
  pub len : length stands ≡ spot.len
  pub turn : spot.turn ≡ 0
  pub slot : slots_in geo image spot.slot ≡ share_slot id stands
  pub map : map_of geo image id ≡ Some (share_fragment stands)

-- a parity stands at this spot
pub record ParityAt (geo : Geometry) (image : List ℕ) (id : FragId) (spot : Spot) : Type 0 where
  pub lengths : List ℕ
  pub count : length lengths ≡ geo.servers - 1
  pub stands : List ℕ
  pub len : length stands ≡ spot.len
  pub slot : slots_in geo image spot.slot ≡ parity_slot id spot.turn lengths stands
  pub map : map_of geo image id ≡ Some (parity_fragment lengths stands)

not_share : (n index : ℕ) → index + 1 ≡ n → nat_lt (index + 1) n ≡ true → ⊥
not_share n index e t = grind (arith, nat_tests)

below_is_share : (n index : ℕ) → index + 1 < n → nat_lt (index + 1) n ≡ false → ⊥
below_is_share n index lt t = grind (arith, nat_tests)

pub last_is_parity : (store : SeenStore) (id : FragId) → id.index + 1 ≡ store.geo.servers → is_share store id ≡ false
last_is_parity store id e = grind (arith, nat_tests)

module _ (store : SeenStore) (s : Standing) (id : FragId) (spot : Spot) (is_open : IsOpen store s) (at : spot_of store.index id ≡ Some spot) where
  abbrev image : List ℕ
  image = s.seen store.server.0

  here : IsHeldAt store.geo.slots (slots_in store.geo image) id spot
  here = held_at store s id spot is_open at

  share_of_kind : AsShare store.geo.servers here.stored → ShareAt store.geo image id spot
  share_of_kind h =
      let e : here.stored ≡ share_stored id h.bytes = h.is ∙ ap (λ (x : FragId). share_stored x h.bytes) here.name in
      record {
        stands = h.bytes;
        len = sym (ap (λ (x : Spot). x.len) here.is ∙ ap (λ (x : Stored). size_of x.fragment) e);
        turn = ap (λ (x : Spot). x.turn) here.is ∙ ap (λ (x : Stored). x.turn) e;
        slot = here.full ∙ ap full_slot e;
        map = ap fragment_of here.held ∙ ap (λ (x : Stored). Some x.fragment) e;
      }

  turn_here : here.stored.turn ≡ spot.turn
  turn_here = sym (ap (λ (x : Spot). x.turn) here.is)

  parity_of_kind : AsParity store.geo.servers here.stored → ParityAt store.geo image id spot
  parity_of_kind h =
      let e : here.stored ≡ parity_stored id spot.turn h.lengths h.bytes =
      h.is ∙ ap (λ (x : FragId). parity_stored x here.stored.turn h.lengths h.bytes) here.name ∙ ap (λ (t : ℕ). parity_stored id t h.lengths h.bytes) turn_here in
      record {
        lengths = h.lengths;
        count = h.count;
        stands = h.bytes;
        len = sym (ap (λ (x : Spot). x.len) here.is ∙ ap (λ (x : Stored). size_of x.fragment) e);
        slot = here.full ∙ ap full_slot e;
        map = ap fragment_of here.held ∙ ap (λ (x : Stored). Some x.fragment) e;
      }

  index_here : here.stored.id.index ≡ id.index
  index_here = ap (λ (x : FragId). x.index) here.name

  pub share_at : is_share store id ≡ true → ShareAt store.geo image id spot
  share_at share = ⊎_elim share_of_kind
      (λ h. absurd (not_share store.geo.servers id.index (omega (arith, h.last, index_here)) share))
      (kind store.geo image spot.slot here.stored here.full)

  pub parity_at : is_share store id ≡ false → ParityAt store.geo image id spot
  parity_at parity = ⊎_elim
      (λ h. absurd (below_is_share store.geo.servers id.index (omega (arith, h.below, index_here)) parity))
      parity_of_kind
      (kind store.geo image spot.slot here.stored here.full)
