-- What the servers hold of a stripe.
use Rattle.std.specs.Prelude.{◌≡◌, ℕ, ◌-◌, ◌*◌, ◌<◌, ◌≤◌, Bool, false, ◌==◌, List, [], length, take, slice_index, Option, Some, None}
use Rattle.zb_types.specs.declared.ids.LogId.{LogId}
use Rattle.zb_types.specs.declared.ids.ServerId.{ServerId}
use Rattle.zb_types.specs.declared.ids.FragId.{FragId}
use Rattle.zb_holding.specs.Fragments.{Fragment, share_fragment, parity_fragment}
use Rattle.zb_holding.specs.Placing.{share_length, share_of, frag_id, server_of}
use Rattle.zb_holding.specs.Exclusive.{xor_at, greatest}

-- what each server keeps under each name
abbrev pub Maps : Type 0
Maps = ServerId → FragId → Option Fragment

-- is this the server that isn't looked at?
abbrev pub is_away : Option ServerId → ServerId → Bool
is_away None server = false
is_away (Some x) server = x.0 == server.0

-- what stands at each index of a stripe, placed among n servers
abbrev pub standing : ℕ → Maps → LogId → ℕ → ℕ → Option Fragment
standing n maps log stripe k = maps (server_of n (frag_id log stripe k)) (frag_id log stripe k)

-- is index k of a stripe on the server that isn't looked at?
abbrev pub away_at : ℕ → Option ServerId → LogId → ℕ → ℕ → Bool
away_at n x log stripe k = is_away x (server_of n (frag_id log stripe k))

-- the bytes of a share that stands, none where it is absent
abbrev pub share_bytes : Option Fragment → List ℕ
share_bytes None = []
share_bytes (Some (share_fragment bytes)) = bytes
share_bytes (Some (parity_fragment lengths parity)) = []

-- nothing stands, or a share that is the beginning of these bytes and isn't empty
abbrev pub Begins : Option Fragment → List ℕ → Type 0
Begins None bytes = Unit {0}
Begins (Some (share_fragment stands)) bytes = (0 < length stands) × (stands ≡ take (length stands) bytes)
Begins (Some (parity_fragment lengths parity)) bytes = ⊥

-- nothing stands, or a share of at least so many bytes
abbrev pub IsGoneOrReaches : ℕ → Option Fragment → Type 0
IsGoneOrReaches n None = Unit {0}
IsGoneOrReaches n (Some (share_fragment bytes)) = n ≤ length bytes
IsGoneOrReaches n (Some (parity_fragment lengths parity)) = ⊥

-- what a parity with these lengths covers of share k
abbrev pub covered : ℕ → List ℕ → List ℕ → ℕ → List ℕ
covered f bytes lengths k = take (slice_index lengths k) (share_of f bytes k)

-- A stripe of m shares with room for f bytes each, judged by what stands at each index, where some indexes are away:
-- they aren't looked at. It is committed up to `end`.
module _ (m f : ℕ) (stands : ℕ → Option Fragment) (away : ℕ → Bool) (end : ℕ) (bytes : List ℕ) where
  -- share k begins as it should, and reaches the committed end
  pub record ShareHolds (k : ℕ) : Type 0 where
    pub begins : Begins (stands k) (share_of f bytes k)
    pub reaches : share_length f end k ≤ length (share_bytes (stands k))

  -- a parity covers the committed bytes, and no more than what is written
  pub record CoversShares (lengths parity : List ℕ) : Type 0 where
    pub count : length lengths ≡ m
    pub enough : (k : ℕ) → k < m → share_length f end k ≤ slice_index lengths k
    pub within : (k : ℕ) → k < m → slice_index lengths k ≤ length (share_of f bytes k)
    pub stored : (k : ℕ) → k < m → away k ≡ false → slice_index lengths k ≤ length (share_bytes (stands k))
    pub exclusive : (y : ℕ) → slice_index parity y ≡ xor_at (covered f bytes lengths) m y
    pub longest : length parity ≡ greatest lengths

  -- what stands is a parity that covers the shares
  abbrev pub ParityHolds : Option Fragment → Type 0
  ParityHolds None = ⊥
  ParityHolds (Some (share_fragment bytes)) = ⊥
  ParityHolds (Some (parity_fragment lengths parity)) = CoversShares lengths parity

  -- each share and the parity hold, but those that are away
  pub record FragmentsHold : Type 0 where
    pub whole : end ≤ length bytes
    pub room : length bytes ≤ m * f
    pub shares : (k : ℕ) → k < m → away k ≡ false → ShareHolds k
    pub parity : away m ≡ false → ParityHolds (stands m)

  -- share k is gone, or it begins as it should and reaches the committed end
  pub record ShareRemains (k : ℕ) : Type 0 where
    pub begins : Begins (stands k) (share_of f bytes k)
    pub reaches : IsGoneOrReaches (share_length f end k) (stands k)

  -- a parity covers the committed bytes, and no more than what is written of each share that isn't gone
  pub record CoversRest (lengths parity : List ℕ) : Type 0 where
    pub count : length lengths ≡ m
    pub enough : (k : ℕ) → k < m → share_length f end k ≤ slice_index lengths k
    pub within : (k : ℕ) → k < m → slice_index lengths k ≤ length (share_of f bytes k)
    pub stored : (k : ℕ) → k < m → away k ≡ false → IsGoneOrReaches (slice_index lengths k) (stands k)
    pub exclusive : (y : ℕ) → slice_index parity y ≡ xor_at (covered f bytes lengths) m y
    pub longest : length parity ≡ greatest lengths

  -- nothing stands, or a parity that covers what remains
  abbrev pub ParityRemains : Option Fragment → Type 0
  ParityRemains None = Unit {0}
  ParityRemains (Some (share_fragment bytes)) = ⊥
  ParityRemains (Some (parity_fragment lengths parity)) = CoversRest lengths parity

  -- each fragment that is there is as these bytes want it, but those that are away
  pub record FragmentsRemain : Type 0 where
    pub whole : end ≤ length bytes
    pub room : length bytes ≤ m * f
    pub shares : (k : ℕ) → k < m → away k ≡ false → ShareRemains k
    pub parity : away m ≡ false → ParityRemains (stands m)

-- What is looked at: so many servers, with room for so many bytes in a fragment, what each keeps under each name, and
-- the server of them, or none, that isn't looked at.
pub record View : Type 0 where
  pub servers : ℕ
  pub fragment : ℕ
  pub maps : Maps
  pub away : Option ServerId

-- the view of n servers with room for f bytes in a fragment, which keep these maps, x or none not being looked at
abbrev pub view_of : ℕ → ℕ → Maps → Option ServerId → View
view_of n f maps x = record { servers = n; fragment = f; maps = maps; away = x }

-- the view once the servers keep these maps
abbrev pub with_maps : View → Maps → View
with_maps v maps = record v { maps = maps }

-- the servers in view hold these bytes of a stripe that is committed up to `end`
abbrev pub StripeHolds : View → LogId → ℕ → ℕ → List ℕ → Type 0
StripeHolds v log stripe end bytes =
    FragmentsHold (v.servers - 1) v.fragment (standing v.servers v.maps log stripe) (away_at v.servers v.away log stripe) end bytes

-- what the servers in view still have of a stripe that was committed up to `end` is of these bytes: fragments may be
-- gone, since the stripe is no longer held
abbrev pub StripeRemains : View → LogId → ℕ → ℕ → List ℕ → Type 0
StripeRemains v log stripe end bytes =
    FragmentsRemain (v.servers - 1) v.fragment (standing v.servers v.maps log stripe) (away_at v.servers v.away log stripe) end bytes

-- the committed bytes of a stripe are these
pub record AreBytesOfStripe (v : View) (log : LogId) (stripe end : ℕ) (committed : List ℕ) : Type 0 where
  pub bytes : List ℕ
  pub held : StripeHolds v log stripe end bytes
  pub first : committed ≡ take end bytes
