-- What a store knows in memory is so on its platter.
use Rattle.std.proofs.Common.{◌≡◌, ℕ, ◌-◌, Bool, true, false, if◌then◌else◌, nat_lt, is_some, List, Option, None, Some, refl, sym, ◌∙◌, ap}
use Rattle.std.specs.Prelude.{option_map}
use Rattle.zb_outside.specs.Meaning.{Standing}
use Rattle.zb_types.specs.declared.ids.FragId.{FragId}
use Rattle.zb_types.specs.declared.requests.Request.{Request}
use Rattle.zb_types.specs.declared.requests.Request.TheVariants as ask
use Rattle.zb_types.specs.declared.requests.StoreFault.{StoreFault}
use Rattle.zb_types.specs.declared.requests.StoreFault.TheVariants.{NoFragment, OldGeneration}
use Rattle.zb_holding.specs.Fragments.{Fragment}
use Rattle.zb_holding.specs.Rules.{Size, share_size, parity_size, size_of, outline_of, unless_old, unless_there, known_refusal}
use Rattle.zb_holding.proofs.Ruled.{same_refusal}
use Rattle.zb_index.specs.declared.spot.Spot.{Spot}
use Rattle.zb_index.specs.Seen.{spot_of}
use Rattle.zb_fragstore.specs.Seen.{SeenStore, is_there, is_share, length_of, size_by, size_at, size_in, known, holding}
use Rattle.zb_fragstore.specs.Changing.{IsOpen, map_in}
use Rattle.zb_fragstore.proofs.Absent.{absent}
use Rattle.zb_fragstore.proofs.Found.{share_at, parity_at}

some_map : {A B : Type 0} (f : A → B) (o : Option A) → is_some (option_map f o) ≡ is_some o
some_map f None = refl
some_map f (Some x) = refl

-- the size of so many bytes under a name
abbrev pub sized : SeenStore → FragId → Option ℕ → Option Size
sized store id len = option_map (size_by (is_share store id) (store.geo.servers - 1)) len

by_spot : (store : SeenStore) (id : FragId) (spot : Option Spot) → option_map (size_at store id) spot ≡ sized store id (option_map (λ s. s.len) spot)
by_spot store id None = refl
by_spot store id (Some spot) = refl

-- a size is told by a length
pub by_length : (store : SeenStore) (id : FragId) → size_in store id ≡ sized store id (length_of store id)
by_length store id = by_spot store id (spot_of store.index id)

-- a name is there just where its size is known
pub there_known : (store : SeenStore) (id : FragId) → is_there store id ≡ is_some (size_in store id)
there_known store id = sym (some_map (size_at store id) (spot_of store.index id))

module _ (store : SeenStore) (s : Standing) (is_open : IsOpen store s) where
  size_here : (id : FragId) (spot : Spot) → spot_of store.index id ≡ Some spot → (share : Bool) → is_share store id ≡ share
      → option_map size_of (map_in store s id) ≡ Some (size_by share (store.geo.servers - 1) spot.len)
  size_here id spot at true share =
      let h = share_at store s id spot is_open at share in
      ap (option_map size_of) h.map ∙ ap (λ (n : ℕ). Some (share_size n)) h.len
  size_here id spot at false parity =
      let h = parity_at store s id spot is_open at parity in
      ap (option_map size_of) h.map ∙ (λ i. Some (parity_size (h.count i) (h.len i)))

  size_by_spot : (id : FragId) (spot : Option Spot) → spot_of store.index id ≡ spot → option_map size_of (map_in store s id) ≡ option_map (size_at store id) spot
  size_by_spot id None none = ap (option_map size_of) (absent store s id is_open (ap is_some none))
  size_by_spot id (Some spot) at = size_here id spot at (is_share store id) refl

  -- the size of each fragment
  pub size_is : (id : FragId) → option_map size_of (map_in store s id) ≡ size_in store id
  size_is id = size_by_spot id (spot_of store.index id) refl

  -- and so what the sizes refuse
  pub refusal_is : (generation : ℕ) (request : Request) → known_refusal (outline_of (holding store (map_in store s))) generation request ≡ known_refusal (known store) generation request
  refusal_is generation request = same_refusal (outline_of (holding store (map_in store s))) (known store) size_is refl refl generation request

  -- a name is there in memory just where something stands under it
  pub there_is : (id : FragId) → is_some (map_in store s id) ≡ is_there store id
  there_is id = sym (some_map size_of (map_in store s id)) ∙ ap is_some (size_is id) ∙ some_map (size_at store id) (spot_of store.index id)

  never_none : (is_old : Bool) (fault : StoreFault) → (if is_old then Some fault else Some NoFragment) ≡ None → ⊥
  never_none true fault e = absurd (cc e)
  never_none false fault e = absurd (cc e)

  by_stands : (id : FragId) (generation : ℕ) (stands : Option Fragment) → map_in store s id ≡ stands → unless_old store.fence generation (unless_there (option_map size_of stands)) ≡ None → (fragment : Fragment) × (map_in store s id ≡ Some fragment)
  by_stands id generation None is none = absurd (never_none (nat_lt generation store.fence) (OldGeneration store.fence) none)
  by_stands id generation (Some fragment) is none = (fragment, is)

  -- a fragment to which bytes may be appended stands on the platter
  pub fragment_there : (id : FragId) (place : ℕ) (bytes : List ℕ) (generation : ℕ) → known_refusal (known store) generation (ask.Append id place bytes) ≡ None → (fragment : Fragment) × (map_in store s id ≡ Some fragment)
  fragment_there id place bytes generation none = by_stands id generation (map_in store s id) refl (refusal_is generation (ask.Append id place bytes) ∙ none)
