-- The requests that write the stripes of a flush.
use Rattle.std.specs.Prelude.{ℕ, zero, suc, ◌-◌, ◌<◌, ◌≤◌, ◌==◌, if◌then◌else◌, List, [], ◌∷◌, ◌++◌, length, map, drop, Option, AllPairs}
use Rattle.std.specs.List.{range_with_len, flat_map}
use Rattle.zb_types.specs.declared.ids.LogId.{LogId}
use Rattle.zb_types.specs.declared.ids.ServerId.{ServerId}
use Rattle.zb_types.specs.declared.ids.FragId.{FragId}
use Rattle.zb_types.specs.declared.nodes.Class.{Class}
use Rattle.zb_types.specs.declared.requests.Request.{Request}
use Rattle.zb_types.specs.declared.requests.Request.TheVariants as ask
use Rattle.zb_holding.specs.Exclusive.{xor_at, greatest}
use Rattle.zb_holding.specs.Placing.{share_length, share_of, frag_id, server_of}
use Rattle.zb_holding.specs.Holding.{is_away}
use Rattle.zb_stripe.specs.declared.flush.Part.{Part}
use Rattle.zb_stripe.specs.declared.flush.Flush.{Flush}

-- what adds bytes to a share that has so many: a store where it has none, else an append behind them
abbrev pub grow : FragId → Class → ℕ → List ℕ → Request
grow id class had bytes = if had == 0 then ask.Store id bytes class else ask.Append id had bytes

-- a request to the server of a fragment, none where that server is left away
abbrev pub unless_out : ℕ → Option ServerId → FragId → Request → List (ServerId × Request)
unless_out n out id request = if is_away out (server_of n id) then [] else (server_of n id, request) ∷ []

-- the new bytes of share k
abbrev pub new_bytes : ℕ → Part → ℕ → List ℕ
new_bytes f part k = drop (share_length f part.begin k) (share_of f part.bytes k)

-- the request for share k, where it has new bytes
abbrev pub share_request : ℕ → ℕ → Option ServerId → Class → LogId → Part → ℕ → List (ServerId × Request)
share_request n f out class log part k =
    if length (new_bytes f part k) == 0 then []
    else unless_out n out (frag_id log part.stripe k) (grow (frag_id log part.stripe k) class (share_length f part.begin k) (new_bytes f part k))

-- the requests for the first m shares, by index
abbrev pub share_requests : ℕ → ℕ → Option ServerId → Class → LogId → Part → ℕ → List (ServerId × Request)
share_requests n f out class log part zero = []
share_requests n f out class log part (suc k) = share_requests n f out class log part k ++ share_request n f out class log part k

-- the length of each share at the end of a part
abbrev pub lengths_of : ℕ → ℕ → Part → List ℕ
lengths_of n f part = map (share_length f (length part.bytes)) (range_with_len 0 (n - 1))

-- the parity of a stripe's bytes: the exclusive or of their shares, as long as the longest
abbrev pub parity_upto : ℕ → ℕ → List ℕ → List ℕ
parity_upto n f bytes =
    map (xor_at (share_of f bytes) (n - 1)) (range_with_len 0 (greatest (map (share_length f (length bytes)) (range_with_len 0 (n - 1)))))

-- the parity of all bytes of a part
abbrev pub parity_bytes : ℕ → ℕ → Part → List ℕ
parity_bytes n f part = parity_upto n f part.bytes

-- the request for the parity over all its bytes
abbrev pub parity_request : ℕ → ℕ → Option ServerId → Class → LogId → Part → List (ServerId × Request)
parity_request n f out class log part =
    let id = frag_id log part.stripe (n - 1) in
    unless_out n out id (ask.Parity id (lengths_of n f part) (parity_bytes n f part) class)

-- the requests of a part: its shares by index, and then their parity
abbrev pub part_requests : ℕ → ℕ → Option ServerId → Class → LogId → Part → List (ServerId × Request)
part_requests n f out class log part = share_requests n f out class log part (n - 1) ++ parity_request n f out class log part

-- the requests of a flush, part by part
abbrev pub plan_requests : ℕ → ℕ → Option ServerId → Class → Flush → List (ServerId × Request)
plan_requests n f out class flush = flat_map (part_requests n f out class flush.log) flush.parts

-- the part has new bytes, and fits into a stripe with room for so many
pub record IsWritable (most : ℕ) (part : Part) : Type 0 where
  pub new : part.begin < length part.bytes
  pub room : length part.bytes ≤ most

-- each part is of a later stripe than the one before
abbrev pub StripesRise : List Part → Type 0
StripesRise parts = AllPairs (λ one other. one.stripe < other.stripe) parts
