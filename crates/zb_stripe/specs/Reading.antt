-- How the bytes of a pointer are read, request by request.
use Rattle.std.specs.Prelude.{◌≡◌, ◌≢◌, ◌⊎◌, ℕ, zero, suc, ◌+◌, ◌-◌, ◌/◌, ◌%◌, ◌<◌, ◌≤◌, min, Bool, true, false, ◌==◌, ◌&&◌, ◌||◌, nat_lt, nat_le, if◌then◌else◌, List, [], ◌∷◌, ◌++◌, length, map, slice_index, slice_index_or, slice_set, Option, Some, None}
use Rattle.std.specs.List.{range_with_len}
use Rattle.zb_types.specs.declared.ids.ServerId.{ServerId}
use Rattle.zb_types.specs.declared.ids.FragId.{FragId}
use Rattle.zb_types.specs.declared.ids.Ptr.{Ptr}
use Rattle.zb_types.specs.declared.requests.Request.{Request}
use Rattle.zb_types.specs.declared.requests.Request.TheVariants as ask
use Rattle.zb_types.specs.declared.requests.Response.{Response}
use Rattle.zb_types.specs.declared.requests.Response.TheVariants as told
use Rattle.zb_types.specs.declared.requests.StoreFault.TheVariants as fault
use Rattle.zb_holding.specs.Exclusive.{xored}
use Rattle.zb_holding.specs.Placing.{frag_id, server_of}
use Rattle.zb_holding.specs.Holding.{is_away}
use Rattle.zb_stripe.specs.declared.read_plan.Got.{Got}
use Rattle.zb_stripe.specs.declared.read_plan.Got.TheVariants as got
use Rattle.zb_stripe.specs.declared.progress.Phase.{Phase}
use Rattle.zb_stripe.specs.declared.progress.Phase.TheVariants.{Direct, Lengths, Others}
use Rattle.zb_stripe.specs.declared.progress.Progress.{Progress}
use Rattle.zb_stripe.specs.declared.source.Source.{Source}

-- A read among so many servers with room for so many bytes in a fragment: the pointer, for each index of its stripe
-- whether the server is known to be out, down or blank, the bytes read so far, and what is asked for the next range.
pub record Reading : Type 0 where
  pub servers : ℕ
  pub fragment : ℕ
  pub ptr : Ptr
  pub lost : List Bool
  pub read : List ℕ
  pub phase : Phase

-- where the last range ends in the stripe
abbrev pub end_of : Reading → ℕ
end_of r = r.ptr.offset + r.ptr.len

-- where the next range begins
abbrev pub pos_of : Reading → ℕ
pos_of r = r.ptr.offset + length r.read

-- the share of the next range
abbrev pub index_of : Reading → ℕ
index_of r = pos_of r / r.fragment

-- its place in that share
abbrev pub place_of : Reading → ℕ
place_of r = pos_of r % r.fragment

-- its length
abbrev pub len_of : Reading → ℕ
len_of r = min (end_of r - pos_of r) (r.fragment - place_of r)

-- fragment k of the stripe
abbrev pub frag_at : Reading → ℕ → FragId
frag_at r k = frag_id r.ptr.log r.ptr.stripe k

-- the server of fragment k
abbrev pub server_at : Reading → ℕ → ServerId
server_at r k = server_of r.servers (frag_at r k)

-- is the server of fragment k known to be out, down or blank?
abbrev pub is_lost : Reading → ℕ → Bool
is_lost r k = slice_index_or r.lost k false

-- the request for some bytes of fragment k, from the range's place on
abbrev pub ask_for : Reading → ℕ → ℕ → Option (ServerId × Request)
ask_for r k len = Some (server_at r k, ask.Retrieve (frag_at r k) (place_of r) len)

-- the range itself, the parity for that very range, or of another share what the parity covers in the range
abbrev pub asked_in : Reading → Phase → Option (ServerId × Request)
asked_in r Direct = if nat_lt (pos_of r) (end_of r) then ask_for r (index_of r) (len_of r) else None
asked_in r Lengths = ask_for r (r.servers - 1) (len_of r)
asked_in r (Others lengths sum k) = ask_for r k (min (len_of r) (slice_index lengths k - place_of r))

-- the request that stands, none where all bytes are there
abbrev pub asked : Reading → Option (ServerId × Request)
asked r = asked_in r r.phase

-- the read, at another phase
abbrev pub with_phase : Reading → Phase → Reading
with_phase r phase = record {
  servers = r.servers;
  fragment = r.fragment;
  ptr = r.ptr;
  lost = r.lost;
  read = r.read;
  phase = phase;
}

-- a range is asked for directly, but in its parity where its server is lost
abbrev pub entered : Reading → Reading
entered r = with_phase r (if nat_lt (pos_of r) (end_of r) && is_lost r (index_of r) then Lengths else Direct)

-- the bytes of a range are there
abbrev pub advanced : Reading → List ℕ → Reading
advanced r bytes = entered (record {
  servers = r.servers;
  fragment = r.fragment;
  ptr = r.ptr;
  lost = r.lost;
  read = r.read ++ bytes;
  phase = Direct;
})

-- the range's own server is lost as well, so its parity is asked
abbrev pub own_lost : Reading → Reading
own_lost r = record {
  servers = r.servers;
  fragment = r.fragment;
  ptr = r.ptr;
  lost = slice_set r.lost (index_of r) true;
  read = r.read;
  phase = Lengths;
}

-- the next of the last `rest` shares that the parity covers into the range is asked; where there is none, the sum is
-- the range
abbrev pub sought : Reading → List ℕ → List ℕ → ℕ → Reading
sought r lengths sum zero = advanced r sum
sought r lengths sum (suc rest) =
    if (r.servers - 1 - suc rest == index_of r) || nat_le (slice_index lengths (r.servers - 1 - suc rest)) (place_of r) then sought r lengths sum rest
    else with_phase r (Others lengths sum (r.servers - 1 - suc rest))

-- two servers, the one with the lesser number first
abbrev pub names_two : ServerId → ServerId → Got
names_two a b = if nat_lt a.0 b.0 then got.Unreachable a b else got.Unreachable b a

-- neither the range's own server nor that of fragment k can be read
abbrev pub two_lost : Reading → ℕ → Got
two_lost r k = names_two (server_at r (index_of r)) (server_at r k)

-- the fragment that would be asked in place of the range's own, where its server is lost too
abbrev pub blocked_in : Reading → Phase → Option ℕ
blocked_in r Direct = None
blocked_in r Lengths = if is_lost r (r.servers - 1) then Some (r.servers - 1) else None
blocked_in r (Others lengths sum k) = if is_lost r k then Some k else None

-- a read that leads on is there, or has all bytes; where a second server is lost it is left as before
abbrev pub gained_by : Reading → Reading → Option ℕ → Reading × Got
gained_by before r None = (r, if nat_lt (pos_of r) (end_of r) then got.More else got.Bytes r.read)
gained_by before r (Some k) = (before, two_lost r k)

-- what an answer comes to that leads to this read
abbrev pub gained : Reading → Reading → Reading × Got
gained before r = gained_by before r (blocked_in r r.phase)

-- what comes of a range's own server that doesn't answer
abbrev pub own_gone : Reading → Reading × Got
own_gone r = if is_lost r (r.servers - 1) then (r, two_lost r (r.servers - 1)) else (own_lost r, got.More)

-- what an answer without bytes comes to; a want of memory leaves the read as it was
abbrev pub ended_by : Response → Got
ended_by (told.Refused (fault.OldGeneration now)) = got.Old now
ended_by (told.Refused fault.NoMemory) = got.More
ended_by response = got.Gone

-- what an answer at a phase makes of a read
abbrev pub fed_in : Reading → Phase → Response → Reading × Got
fed_in r Direct (told.Bytes bytes) = gained r (advanced r bytes)
fed_in r Direct told.Down = own_gone r
fed_in r Direct told.Blank = own_gone r
fed_in r Lengths (told.Parity lengths bytes) = gained r (sought r lengths bytes (r.servers - 1))
fed_in r Lengths told.Down = (r, two_lost r (r.servers - 1))
fed_in r Lengths told.Blank = (r, two_lost r (r.servers - 1))
fed_in r (Others lengths sum k) (told.Bytes bytes) = gained r (sought r lengths (xored sum bytes) (r.servers - 1 - (k + 1)))
fed_in r (Others lengths sum k) told.Down = (r, two_lost r k)
fed_in r (Others lengths sum k) told.Blank = (r, two_lost r k)
fed_in r phase response = (r, ended_by response)

-- what an answer to the request that stands makes of a read
abbrev pub fed : Reading → Response → Reading × Got
fed r response = fed_in r r.phase response

-- for each index of the pointer's stripe, whether its server is out
abbrev pub first_lost : ℕ → Ptr → Option ServerId → List Bool
first_lost n ptr out = map (λ k. is_away out (server_of n (frag_id ptr.log ptr.stripe k))) (range_with_len 0 n)

-- a read of a pointer, as it begins
abbrev pub start : ℕ → ℕ → Ptr → Option ServerId → Reading
start n f ptr out = entered (record {
  servers = n;
  fragment = f;
  ptr = ptr;
  lost = first_lost n ptr out;
  read = [];
  phase = Direct;
})

-- does the read go on?
abbrev pub is_more : Got → Bool
is_more got.More = true
is_more g = false

-- what these answers, in order, make of a read: the first other than More
abbrev pub answered : Reading → List Response → Option Got
answered r [] = None
answered r (t ∷ ts) = if is_more (fed r t).1 then answered (fed r t).0 ts else Some (fed r t).1

-- a read as the code keeps it
abbrev pub read_of : Source → List Bool → Progress → Reading
read_of source lost p = record {
  servers = source.geo.servers;
  fragment = source.geo.fragment;
  ptr = source.ptr;
  lost = lost;
  read = p.read;
  phase = p.phase;
}

-- a read that has these bytes
abbrev pub reading : Source → List Bool → List ℕ → Reading
reading source lost read = record {
  servers = source.geo.servers;
  fragment = source.geo.fragment;
  ptr = source.ptr;
  lost = lost;
  read = read;
  phase = Direct;
}

-- another share than the range's, which the parity covers into the range
pub record IsCovered (r : Reading) (lengths : List ℕ) (k : ℕ) : Type 0 where
  pub other : k ≢ index_of r
  pub reached : place_of r < slice_index lengths k

-- share k is asked, as the parity covers it into the range, and the sum so far has the range's length
pub record IsSought (r : Reading) (lengths sum : List ℕ) (k : ℕ) : Type 0 where
  pub below : pos_of r < end_of r
  pub index : k < r.servers - 1
  pub count : length lengths ≡ r.servers - 1
  pub covered : IsCovered r lengths k
  pub long : length sum ≡ len_of r

-- something is left to read where another fragment is asked
abbrev pub PhaseIsSound : Reading → Phase → Type 0
PhaseIsSound r Direct = Unit {0}
PhaseIsSound r Lengths = pos_of r < end_of r
PhaseIsSound r (Others lengths sum k) = IsSought r lengths sum k

-- a read that has no more than the pointer's bytes
pub record IsSound (r : Reading) : Type 0 where
  pub within : length r.read ≤ r.ptr.len
  pub phase : PhaseIsSound r r.phase

-- what a server may answer to the request that stands
abbrev pub AnswersIn : Reading → Phase → Response → Type 0
AnswersIn r Direct (told.Bytes bytes) = length bytes ≡ len_of r
AnswersIn r Lengths (told.Parity lengths bytes) = (length lengths ≡ r.servers - 1) × (length bytes ≡ len_of r)
AnswersIn r (Others lengths sum k) (told.Bytes bytes) = length bytes
    ≡ min (len_of r) (slice_index lengths k - place_of r)
AnswersIn r phase told.Down = Unit {0}
AnswersIn r phase told.Blank = Unit {0}
AnswersIn r phase (told.Refused fault.NoFragment) = Unit {0}
AnswersIn r phase (told.Refused (fault.Short len)) = Unit {0}
AnswersIn r phase (told.Refused (fault.OldGeneration now)) = Unit {0}
AnswersIn r phase (told.Refused fault.NoMemory) = Unit {0}
AnswersIn r phase response = ⊥

-- a request stands, and this may answer it
pub record CanRead (r : Reading) (response : Response) : Type 0 where
  pub stands : pos_of r < end_of r
  pub answers : AnswersIn r r.phase response

-- what a server may answer to a retrieve: bytes of the asked length, from the parity's server with N - 1 lengths, or a
-- refusal
abbrev pub AnswersRetrieve : ℕ → FragId → ℕ → Response → Type 0
AnswersRetrieve n id len (told.Bytes bytes) = (id.index ≢ n - 1) × (length bytes ≡ len)
AnswersRetrieve n id len (told.Parity lengths bytes) = (id.index ≡ n - 1) × (length lengths ≡ n - 1)
    × (length bytes ≡ len)
AnswersRetrieve n id len told.Down = Unit {0}
AnswersRetrieve n id len told.Blank = Unit {0}
AnswersRetrieve n id len (told.Refused fault.NoFragment) = Unit {0}
AnswersRetrieve n id len (told.Refused (fault.Short found)) = Unit {0}
AnswersRetrieve n id len (told.Refused (fault.OldGeneration now)) = Unit {0}
AnswersRetrieve n id len (told.Refused fault.NoMemory) = Unit {0}
AnswersRetrieve n id len response = ⊥

-- an answer to the request that stands among n servers
abbrev pub Answers : ℕ → Option (ServerId × Request) → Response → Type 0
Answers n (Some (server, ask.Retrieve id place len)) response = AnswersRetrieve n id len response
Answers n request response = ⊥

-- an answer that brings bytes
abbrev pub BringsBytes : Response → Type 0
BringsBytes (told.Bytes bytes) = Unit {0}
BringsBytes (told.Parity lengths bytes) = Unit {0}
BringsBytes response = ⊥

-- an answer for which memory may run out
abbrev pub MayWant : Response → Type 0
MayWant (told.Refused fault.NoMemory) = Unit {0}
MayWant (told.Bytes bytes) = Unit {0}
MayWant (told.Parity lengths bytes) = Unit {0}
MayWant response = ⊥

-- does the answer say that the bytes aren't there?
abbrev pub lacks_bytes : Response → Bool
lacks_bytes (told.Refused fault.NoFragment) = true
lacks_bytes (told.Refused (fault.Short len)) = true
lacks_bytes response = false

-- is the read over as its bytes are gone?
abbrev pub is_gone : Got → Bool
is_gone got.Gone = true
is_gone g = false

-- a server that is down or blank
abbrev pub IsNotThere : Response → Type 0
IsNotThere told.Down = Unit {0}
IsNotThere told.Blank = Unit {0}
IsNotThere response = ⊥

-- this server was asked, and is down or blank
abbrev pub DidNotAnswer : Option (ServerId × Request) → Response → ServerId → Type 0
DidNotAnswer None response server = ⊥
DidNotAnswer (Some asked) response server = (server ≡ asked.0) × IsNotThere response

-- a server of the stripe that was known to be lost, or was asked this now and is down or blank
pub record IsLost (r : Reading) (asking : Option (ServerId × Request)) (response : Response) (server : ServerId) : Type 0 where
  pub index : ℕ
  pub below : index < r.servers
  pub at : server ≡ server_at r index
  pub lost : (is_lost r index ≡ true) ⊎ DidNotAnswer asking response server

-- where a read is unreachable, two different servers are named, the lesser first, and each of them is lost
abbrev pub NamesLost : Reading → Option (ServerId × Request) → Response → Got → Type 0
NamesLost r asking response (got.Unreachable a b) = (a.0 < b.0) × IsLost r asking response a × IsLost r asking response b
NamesLost r asking response g = Unit {0}

-- the server of the next range is lost where its parity or another share is asked
abbrev pub OwnIsLost : Reading → Phase → Type 0
OwnIsLost r Direct = Unit {0}
OwnIsLost r Lengths = is_lost r (index_of r) ≡ true
OwnIsLost r (Others lengths sum k) = is_lost r (index_of r) ≡ true
