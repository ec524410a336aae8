-- What the calls of a platter do to a store whose memory has changed already.
use Rattle.std.proofs.Common.{◌≡◌, ℕ, ◌+◌, ◌-◌, false, List, drop, length, Result, Option, None, Some, refl, sym, ◌∙◌, ap, subst, arith}
use Rattle.std.proofs.lemmas.Result.{on_ok_weaker}
use Rattle.zb_outside.specs.Meaning.{Meaning}
use Rattle.zb_cell.specs.Cell.{following}
use Rattle.zb_types.specs.declared.memory.Failed.{Failed}
use Rattle.zb_types.specs.declared.geometry.Geometry.{Geometry}
use Rattle.zb_types.specs.declared.ids.FragId.{FragId}
use Rattle.zb_types.specs.declared.nodes.Class.{Class}
use Rattle.zb_types.specs.declared.requests.Request.TheVariants as ask
use Rattle.zb_types.specs.declared.requests.StoreFault.{StoreFault}
use Rattle.zb_holding.specs.Fragments.{Fragment, share_fragment, parity_fragment}
use Rattle.zb_slots.specs.Slots.{Stored, free_slot, full_slot}
use Rattle.zb_slots.specs.Area.{IsArea, lengths_in}
use Rattle.zb_slots.specs.Changing.{share_slot, parity_slot}
use Rattle.zb_index.specs.declared.spot.Spot.{Spot}
use Rattle.zb_index.specs.Indexed.{IsIndexOf, size_of}
use Rattle.zb_index.specs.Seen.{SeenIndex, spot_of}
use Rattle.zb_index.specs.Free.{times, IsLeast}
use Rattle.zb_index.proofs.Following.{free_there}
use Rattle.zb_index.specs.Changes.{FollowsFill, FollowsFree, FollowsMove}
use Rattle.zb_slots.specs.Slots.{slots_in}
use Rattle.zb_slots.specs.Holding.{map_of}
use Rattle.zb_slot_map.specs.Tidy.{put}
use Rattle.zb_slot_map.specs.Changing.{IsKept, IsChanged, MapTold, IsReplaced, ReplaceTold}
use Rattle.zb_fragstore.specs.Seen.{SeenStore, is_there}
use Rattle.zb_fragstore.specs.Answers.{or_stopped}
use Rattle.zb_fragstore.specs.Changing.{IsOpen, CarriesOut}
use Rattle.zb_fragstore.specs.Taking.{TakesSlot, GivesSlot, MovesSlot}
use Rattle.zb_fragstore.proofs.Absent.{absent, held_at}
use Rattle.zb_index.specs.Laws.{IsHeldAt}
use Rattle.zb_fragstore.specs.Seen.{is_share}
use Rattle.zb_fragstore.proofs.Found.{ParityAt, parity_at}
use Rattle.zb_fragstore.proofs.Carried.{IsNext, carried}
use Rattle.zb_fragstore.proofs.Nexts.{next_store, next_parity, next_delete}

module _ (geo : Geometry) (next : FragId → Option Fragment) (before now : SeenIndex) (old new : List ℕ) (was : IsIndexOf before geo.slots (slots_in geo old)) where
  pub filled_next : (slot : ℕ) (id : FragId) (turn len : ℕ) (stored : Stored) → stored.id ≡ id → stored.turn ≡ turn → size_of stored.fragment ≡ len → FollowsFill before now slot id turn len
      → IsChanged geo slot (full_slot stored) next old new → IsNext geo next now old new
  filled_next slot id turn len stored name turns lens follows is = record {
    tidy = is.tidy;
    super = is.super;
    map = is.map;
    follows = follows geo.slots (slots_in geo old) (slots_in geo new) was (record { stored = stored; full = is.slot; name = name; turn_is = turns; len_is = lens; others = is.others });
  }

  pub freed_next : (slot : ℕ) → FollowsFree before now slot → IsChanged geo slot free_slot next old new → IsNext geo next now old new
  freed_next slot follows is = record {
    tidy = is.tidy;
    super = is.super;
    map = is.map;
    follows = follows geo.slots (slots_in geo old) (slots_in geo new) was (record { free = is.slot; others = is.others });
  }

  pub moved_next : (i j : ℕ) (id : FragId) (turn len : ℕ) (stored : Stored) → stored.id ≡ id → stored.turn ≡ turn → size_of stored.fragment ≡ len → FollowsMove before now i j id turn len
      → IsReplaced geo i j (full_slot stored) next old new → IsNext geo next now old new
  moved_next i j id turn len stored name turns lens follows is = record {
    tidy = is.tidy;
    super = is.super;
    map = is.map;
    follows = follows geo.slots (slots_in geo old) (slots_in geo new) was
        (record { stored = stored; full = is.slot; name = name; turn_is = turns; len_is = lens; free = is.former; others = is.others });
  }

-- a free slot is taken on an open store
pub least_free : (old : SeenStore) (slot : ℕ) (a : Meaning) → IsOpen old a.now → IsLeast old.index.free slot → slots_in old.geo (a.now.seen old.server.0) slot ≡ free_slot
least_free old slot a is_open least = (free_there (spot_of old.index) (λ j. times j old.index.free) old.geo.slots (slots_in old.geo (a.now.seen old.server.0)) is_open.index slot least.there).free

pub slot_free : (old new : SeenStore) (id : FragId) (slot len : ℕ) (a : Meaning) → IsOpen old a.now → TakesSlot id slot len old new → slots_in old.geo (a.now.seen old.server.0) slot ≡ free_slot
slot_free old new id slot len a is_open takes = least_free old slot a is_open takes.least

-- what a call is told of the system and the platter that it names
pub at_system : (P : Geometry → ℕ → Type 0) (geo other : Geometry) (p q : ℕ) → geo ≡ other → p ≡ q → P geo p → P other q
at_system P geo other p q g is x = subst (P other) is (subst (λ (s : Geometry). P s p) g x)

module _ (a b : Meaning) (r : Result (Unit {0}) Failed) where
  -- the clause of a store
  abbrev pub StoreClause : (slot : ℕ) → FragId → List ℕ → Geometry → (p : ℕ) → Type 0
  StoreClause slot id bytes geo p = IsKept geo p a.now → slots_in geo (a.now.seen p) slot ≡ free_slot → map_of geo (a.now.seen p) id ≡ None
      → MapTold geo p slot (share_slot id bytes) (put id (Some (share_fragment bytes)) (map_of geo (a.now.seen p))) r a b

  -- of a first parity, by its area
  abbrev pub ParityClause : (slot : ℕ) → FragId → List ℕ → Geometry → (p : ℕ) → Type 0
  ParityClause slot id area geo p = IsKept geo p a.now → slots_in geo (a.now.seen p) slot ≡ free_slot → map_of geo (a.now.seen p) id ≡ None
      → MapTold geo p slot (parity_slot id 0 (lengths_in (geo.servers - 1) area) (drop 64 area)) (put id (Some (parity_fragment (lengths_in (geo.servers - 1) area) (drop 64 area))) (map_of geo (a.now.seen p))) r a b

  -- of one that replaces another
  abbrev pub ReplaceClause : (former turn slot : ℕ) → FragId → List ℕ → Geometry → (p : ℕ) → Type 0
  ReplaceClause former turn slot id area geo p = IsKept geo p a.now → (covered bytes : List ℕ) → slots_in geo (a.now.seen p) former ≡ parity_slot id turn covered bytes → slots_in geo (a.now.seen p) slot ≡ free_slot
      → ReplaceTold geo p former slot (parity_slot id (following turn) (lengths_in (geo.servers - 1) area) (drop 64 area)) (put id (Some (parity_fragment (lengths_in (geo.servers - 1) area) (drop 64 area))) (map_of geo (a.now.seen p))) r a b

  -- of a delete
  abbrev pub FreeClause : (slot : ℕ) → Geometry → (p : ℕ) → Type 0
  FreeClause slot geo p = IsKept geo p a.now → (stored : Stored) → slots_in geo (a.now.seen p) slot ≡ full_slot stored
      → MapTold geo p slot free_slot (put stored.id None (map_of geo (a.now.seen p))) r a b

module _ (old new : SeenStore) (r : Result (Unit {0}) Failed) (result : Result (Unit {0}) StoreFault) (a b : Meaning) (geo : Geometry) (p : ℕ)
    (is : result ≡ or_stopped r) (rest : new ≡ record old { index = new.index }) (is_open : IsOpen old a.now) (geo_is : geo ≡ old.geo) (p_is : p ≡ old.server.0) where
  abbrev image : List ℕ
  image = a.now.seen old.server.0

  pub stored : (id : FragId) (slot : ℕ) (bytes : List ℕ) (class : Class) → is_there old id ≡ false → TakesSlot id slot (length bytes) old new
      → StoreClause a b r slot id bytes geo p → CarriesOut (ask.Store id bytes class) old new result a b
  stored id slot bytes class none takes clause =
      let told = at_system (StoreClause a b r slot id bytes) geo old.geo p old.server.0 geo_is p_is clause is_open.kept (slot_free old new id slot (length bytes) a is_open takes) (absent old a.now id is_open none) in
      carried (ask.Store id bytes class) old new (put id (Some (share_fragment bytes)) (map_of old.geo image)) r result a b is rest is_open
      (next_store id bytes class (map_of old.geo image) (absent old a.now id is_open none)) told.run told.settled
      (on_ok_weaker r (λ change. filled_next old.geo (put id (Some (share_fragment bytes)) (map_of old.geo image)) old.index new.index image (b.now.seen old.server.0) is_open.index
      slot id 0 (length bytes) (record { id = id; turn = 0; fragment = share_fragment bytes }) refl refl refl takes.index change) told.changed)

  pub stored_parity : (id : FragId) (slot len : ℕ) (area : List ℕ) (class : Class) → is_there old id ≡ false → length (drop 64 area) ≡ len → TakesSlot id slot len old new
      → ParityClause a b r slot id area geo p → CarriesOut (ask.Parity id (lengths_in (old.geo.servers - 1) area) (drop 64 area) class) old new result a b
  stored_parity id slot len area class none size takes clause =
      let lengths : List ℕ = lengths_in (old.geo.servers - 1) area in
      let bytes : List ℕ = drop 64 area in
      let told = at_system (ParityClause a b r slot id area) geo old.geo p old.server.0 geo_is p_is clause is_open.kept (slot_free old new id slot len a is_open takes) (absent old a.now id is_open none) in
      carried (ask.Parity id lengths bytes class) old new (put id (Some (parity_fragment lengths bytes)) (map_of old.geo image)) r result a b is rest is_open
      (next_parity id lengths bytes class (map_of old.geo image)) told.run told.settled
      (on_ok_weaker r (λ change. filled_next old.geo (put id (Some (parity_fragment lengths bytes)) (map_of old.geo image)) old.index new.index image (b.now.seen old.server.0) is_open.index
      slot id 0 len (record { id = id; turn = 0; fragment = parity_fragment lengths bytes }) refl refl size takes.index change) told.changed)

  pub moved : (id : FragId) (former : Spot) (slot len : ℕ) (area : List ℕ) (class : Class) → is_share old id ≡ false → length (drop 64 area) ≡ len → MovesSlot id former slot len old new
      → ReplaceClause a b r former.slot former.turn slot id area geo p → CarriesOut (ask.Parity id (lengths_in (old.geo.servers - 1) area) (drop 64 area) class) old new result a b
  moved id former slot len area class parity size moves clause =
      let lengths : List ℕ = lengths_in (old.geo.servers - 1) area in
      let bytes : List ℕ = drop 64 area in
      let was : ParityAt old.geo image id former = parity_at old a.now id former is_open moves.was parity in
      let told = at_system (ReplaceClause a b r former.slot former.turn slot id area) geo old.geo p old.server.0 geo_is p_is clause is_open.kept was.lengths was.stands was.slot
      (least_free old slot a is_open moves.least) in
      carried (ask.Parity id lengths bytes class) old new (put id (Some (parity_fragment lengths bytes)) (map_of old.geo image)) r result a b is rest is_open
      (next_parity id lengths bytes class (map_of old.geo image)) told.run told.settled
      (on_ok_weaker r (λ change. moved_next old.geo (put id (Some (parity_fragment lengths bytes)) (map_of old.geo image)) old.index new.index image (b.now.seen old.server.0) is_open.index
      former.slot slot id (following former.turn) len (record { id = id; turn = following former.turn; fragment = parity_fragment lengths bytes }) refl refl size moves.index change) told.replaced)

  pub deleted : (id : FragId) (slot : ℕ) → GivesSlot id slot old new → FreeClause a b r slot geo p → CarriesOut (ask.Delete id) old new result a b
  deleted id slot gives clause =
      let here : IsHeldAt old.geo.slots (slots_in old.geo image) id gives.spot = held_at old a.now id gives.spot is_open gives.was in
      let told = subst (λ (name : FragId). MapTold old.geo old.server.0 slot free_slot (put name None (map_of old.geo image)) r a b) here.name
      (at_system (FreeClause a b r slot) geo old.geo p old.server.0 geo_is p_is clause is_open.kept here.stored (ap (slots_in old.geo image) (sym gives.slot_is) ∙ here.full)) in
      carried (ask.Delete id) old new (put id None (map_of old.geo image)) r result a b is rest is_open
      (next_delete id (map_of old.geo image)) told.run told.settled
      (on_ok_weaker r (λ change. freed_next old.geo (put id None (map_of old.geo image)) old.index new.index image (b.now.seen old.server.0) is_open.index slot gives.index change) told.changed)

-- a parity by its area is the one that was given
pub parity_given : {T : Type 0} (id : FragId) (n : ℕ) (lengths bytes area : List ℕ) (class : Class) (old new : SeenStore) (result : Result T StoreFault) (a b : Meaning) → IsArea lengths bytes area → length lengths + 1 ≡ n
    → CarriesOut (ask.Parity id (lengths_in (n - 1) area) (drop 64 area) class) old new result a b → CarriesOut (ask.Parity id lengths bytes class) old new result a b
parity_given id n lengths bytes area class old new result a b is count told =
    let m : n - 1 ≡ length lengths = omega (arith, count) in
    let head : lengths_in (n - 1) area ≡ lengths = ap (λ (k : ℕ). lengths_in k area) m ∙ is.head in
    subst (λ (l : List ℕ). CarriesOut (ask.Parity id l bytes class) old new result a b) head
    (subst (λ (l : List ℕ). CarriesOut (ask.Parity id (lengths_in (n - 1) area) l class) old new result a b) is.body told)
