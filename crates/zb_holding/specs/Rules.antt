-- The rules of a server: what it answers to a request of a generation, and what it has then.
use Rattle.std.specs.Prelude.{◌≡◌, ◌⊎◌, ℕ, ◌+◌, ◌-◌, Bool, true, false, ◌==◌, ◌&&◌, ◌||◌, nat_lt, nat_le, nat_eq, if◌then◌else◌, List, length, drop, option_map, is_some, Option, None, Some}
use Rattle.std.specs.List.{starts_with}
use Rattle.zb_types.specs.declared.ids.FragId.{FragId}
use Rattle.zb_types.specs.declared.nodes.Class.{Class}
use Rattle.zb_types.specs.declared.nodes.Class.TheVariants.{Client, Cleaner}
use Rattle.zb_types.specs.declared.requests.Request.{Request}
use Rattle.zb_types.specs.declared.requests.Request.TheVariants as ask
use Rattle.zb_types.specs.declared.requests.Response.{Response}
use Rattle.zb_types.specs.declared.requests.Response.TheVariants as told
use Rattle.zb_types.specs.declared.requests.StoreFault.{StoreFault}
use Rattle.zb_types.specs.declared.requests.StoreFault.TheVariants.{NoFragment, Exists, Offset, Short, NoSlot, OldGeneration, NoMemory}
use Rattle.zb_holding.specs.Fragments.{Fragment, share_fragment, parity_fragment}
use Rattle.zb_holding.specs.Carrying.{stands_after, is_about, found}
use Rattle.zb_holding.specs.Listing.{AreLeastAbove}

-- what a server has: what stands under each name, the least generation that it takes, and how many slots are free
pub record Holdings : Type 0 where
  pub map : FragId → Option Fragment
  pub fence : ℕ
  pub free : ℕ

-- the length of a share; how many lengths a parity has, and the length of its bytes
pub data Size : Type 0 where
  share_size : (len : ℕ) → Size
  parity_size : (lengths len : ℕ) → Size

-- the size of a fragment
abbrev pub size_of : Fragment → Size
size_of (share_fragment bytes) = share_size (length bytes)
size_of (parity_fragment lengths bytes) = parity_size (length lengths) (length bytes)

-- what a server knows of what it has without looking at bytes: the size of what stands under each name, the fence, the free slots
pub record Outline : Type 0 where
  pub sizes : FragId → Option Size
  pub fence : ℕ
  pub free : ℕ

-- the outline of what a server has
abbrev pub outline_of : Holdings → Outline
outline_of has = record { sizes = λ id. option_map size_of (has.map id); fence = has.fence; free = has.free }

-- ---- why a request is refused, in the order in which a server looks: the generation, the name, the place, the slots

-- is there no slot left for this class? A client leaves four free, the cleaner none
abbrev pub is_full : Class → ℕ → Bool
is_full Client free = nat_le free 4
is_full Cleaner free = free == 0

-- what refuses a generation below the fence, and then what else does
abbrev pub unless_old : (fence generation : ℕ) → Option StoreFault → Option StoreFault
unless_old fence generation other = if nat_lt generation fence then Some (OldGeneration fence) else other

-- a slot for this class, if there is none
abbrev pub no_slot : (free : ℕ) → Class → Option StoreFault
no_slot free class = if is_full class free then Some (NoSlot free) else None

-- a fragment, if there is none
abbrev pub unless_there : Option Size → Option StoreFault
unless_there None = Some NoFragment
unless_there (Some size) = None

-- why a range isn't read that ends there: nothing is there, or a share that is shorter
abbrev pub refusal_up_to : Option Size → (end : ℕ) → Option StoreFault
refusal_up_to None end = Some NoFragment
refusal_up_to (Some (share_size len)) end = if nat_le end len then None else Some (Short len)
refusal_up_to (Some (parity_size lengths len)) end = None

-- why a request is refused as far as the outline tells: a share is stored once; a first parity needs a slot for its class, one
-- that replaces another any slot; a share is read within its length, a parity anywhere; a fence isn't lowered
abbrev pub known_refusal : Outline → (generation : ℕ) → Request → Option StoreFault
known_refusal has generation (ask.Store id bytes class) =
    unless_old has.fence generation (if is_some (has.sizes id) then Some Exists else no_slot has.free class)
known_refusal has generation (ask.Append id place bytes) = unless_old has.fence generation (unless_there (has.sizes id))
known_refusal has generation (ask.Parity id lengths bytes class) =
    unless_old has.fence generation (no_slot has.free (if is_some (has.sizes id) then Cleaner else class))
known_refusal has generation (ask.Retrieve id place len) =
    unless_old has.fence generation (refusal_up_to (has.sizes id) (place + len))
known_refusal has generation (ask.Delete id) = unless_there (has.sizes id)
known_refusal has generation (ask.Identify after) = None
known_refusal has generation (ask.Fence fence) = unless_old has.fence fence None

-- do these bytes stand at a place already?
abbrev pub stand_at : List ℕ → ℕ → List ℕ → Bool
stand_at stands place bytes = nat_le place (length stands) && starts_with nat_eq (drop place stands) bytes

-- why bytes aren't appended to a fragment, if they aren't: they stand neither at that place already, nor go to a share's end
abbrev pub refusal_to_append : Fragment → (place : ℕ) → List ℕ → Option StoreFault
refusal_to_append (share_fragment stands) place bytes =
    if stand_at stands place bytes || place == length stands then None else Some (Offset (length stands))
refusal_to_append (parity_fragment lengths stands) place bytes =
    if stand_at stands place bytes then None else Some (Offset (length stands))

-- the first fault, and else what looking at a fragment that is there tells
abbrev pub or_by : Option StoreFault → (Fragment → Option StoreFault) → Option Fragment → Option StoreFault
or_by (Some fault) look stands = Some fault
or_by None look (Some fragment) = look fragment
or_by None look None = None

-- why a request of a generation is refused, if it is
abbrev pub refusal_of : Holdings → (generation : ℕ) → Request → Option StoreFault
refusal_of has generation (ask.Append id place bytes) =
    or_by (known_refusal (outline_of has) generation (ask.Append id place bytes)) (λ fragment. refusal_to_append fragment place bytes) (has.map id)
refusal_of has generation request = known_refusal (outline_of has) generation request

-- ---- what is answered

-- the names that are answered are the least above another, of those under which something is there
pub record AreTold (there : FragId → Bool) (after : Option FragId) (response : Response) : Type 0 where
  pub ids : List FragId
  pub told : response ≡ told.Ids ids
  pub least : AreLeastAbove there after ids

-- what a request is answered that isn't refused
abbrev pub IsServed : Holdings → Request → Response → Type 0
IsServed has (ask.Retrieve id place len) response = response ≡ found (has.map id) place len
IsServed has (ask.Identify after) response = AreTold (λ id. is_some (has.map id)) after response
IsServed has request response = response ≡ told.Done

-- a request of a generation is refused where a rule says so, and else served
pub record IsAnswer (has : Holdings) (generation : ℕ) (request : Request) (response : Response) : Type 0 where
  pub refused : (fault : StoreFault) → refusal_of has generation request ≡ Some fault → response ≡ told.Refused fault
  pub served : refusal_of has generation request ≡ None → IsServed has request response

-- an append, a delete and a fence take no memory
abbrev pub TakesMemory : Request → Type 0
TakesMemory (ask.Append id place bytes) = ⊥
TakesMemory (ask.Delete id) = ⊥
TakesMemory (ask.Fence fence) = ⊥
TakesMemory request = Unit {0}

-- memory ran out for a request that takes some
pub record LacksMemory (request : Request) (response : Response) : Type 0 where
  pub takes : TakesMemory request
  pub told : response ≡ told.Refused NoMemory

-- so where memory may run out, which it does only for what isn't refused
pub record MayAnswer (has : Holdings) (generation : ℕ) (request : Request) (response : Response) : Type 0 where
  pub refused : (fault : StoreFault) → refusal_of has generation request ≡ Some fault → response ≡ told.Refused fault
  pub served : refusal_of has generation request ≡ None → IsServed has request response ⊎ LacksMemory request response

-- ---- what is answered, as far as the outline tells

-- as many bytes as were asked for; of a parity also all its lengths
abbrev pub IsRange : Option Size → (len : ℕ) → Response → Type 0
IsRange (Some (share_size all)) len (told.Bytes bytes) = length bytes ≡ len
IsRange (Some (parity_size lengths all)) len (told.Parity ls bytes) = (length ls ≡ lengths) × (length bytes ≡ len)
IsRange size len response = ⊥

-- how many bytes of this size are there
abbrev pub len_of : Size → ℕ
len_of (share_size len) = len
len_of (parity_size lengths len) = len

-- is this place the end of a share?
abbrev pub is_end : Size → (place : ℕ) → Bool
is_end (share_size len) place = place == len
is_end (parity_size lengths len) place = false

-- the place isn't the end of the share that is there, and the length of what is there is told
pub record IsMisplaced (size : Option Size) (place : ℕ) (fault : StoreFault) : Type 0 where
  pub there : Size
  pub is : size ≡ Some there
  pub told : fault ≡ Offset (len_of there)
  pub elsewhere : is_end there place ≡ false

-- the answer is this fault, by which bytes aren't appended
pub record IsElsewhere (size : Option Size) (place : ℕ) (response : Response) : Type 0 where
  pub fault : StoreFault
  pub told : response ≡ told.Refused fault
  pub misplaced : IsMisplaced size place fault

-- the form of what a request is answered that the outline doesn't refuse
abbrev pub HasForm : Outline → Request → Response → Type 0
HasForm has (ask.Append id place bytes) response = (response ≡ told.Done) ⊎ IsElsewhere (has.sizes id) place response
HasForm has (ask.Retrieve id place len) response = IsRange (has.sizes id) len response
HasForm has (ask.Identify after) response = AreTold (λ id. is_some (has.sizes id)) after response
HasForm has request response = response ≡ told.Done

-- what a server may answer as far as the outline tells
pub record FitsOutline (has : Outline) (generation : ℕ) (request : Request) (response : Response) : Type 0 where
  pub refused : (fault : StoreFault) → known_refusal has generation request ≡ Some fault → response ≡ told.Refused fault
  pub served : known_refusal has generation request ≡ None → HasForm has request response ⊎ LacksMemory request response

-- ---- what a server has then

-- was the request carried out?
abbrev pub is_done : Response → Bool
is_done told.Done = true
is_done response = false

-- what stands under each name once a request was carried out
abbrev pub map_after : Request → (FragId → Option Fragment) → FragId → Option Fragment
map_after request map id = if is_about request id then stands_after request (map id) else map id

-- the fence once a request was carried out
abbrev pub fence_after : Request → ℕ → ℕ
fence_after (ask.Fence generation) fence = generation
fence_after request fence = fence

-- how many slots are free once a request was carried out
abbrev pub free_after : Request → (FragId → Bool) → ℕ → ℕ
free_after (ask.Store id bytes class) there free = free - 1
free_after (ask.Parity id lengths bytes class) there free = if there id then free else free - 1
free_after (ask.Delete id) there free = free + 1
free_after request there free = free

-- what a server has once a request was carried out
abbrev pub has_after : Request → Holdings → Holdings
has_after request has = record {
  map = map_after request has.map;
  fence = fence_after request has.fence;
  free = free_after request (λ id. is_some (has.map id)) has.free;
}

-- the same stands under each name, with the same fence and as many free slots
pub record AreSame (has other : Holdings) : Type 0 where
  pub map : (id : FragId) → has.map id ≡ other.map id
  pub fence : has.fence ≡ other.fence
  pub free : has.free ≡ other.free

-- what a server has once it answered: what the request leaves where it was done, and else what it had
abbrev pub IsLeft : Holdings → Request → Response → Holdings → Type 0
IsLeft has request response now = AreSame now (if is_done response then has_after request has else has)
