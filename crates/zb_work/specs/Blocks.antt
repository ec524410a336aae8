-- The old blocks that a batch or a read wants: those that are there, and those that are missing still.
use Rattle.std.specs.Prelude.{◌≡◌, ℕ, ◌+◌, ◌<◌, ◌≤◌, ◌==◌, Bool, false, if◌then◌else◌, List, [], ◌∷◌, fold, length, map, slice_set, Option, Some, None, option_map}
use Rattle.std.specs.List.{AllZip}
use Rattle.zb_types.specs.declared.ids.Ptr.{Ptr}
use Rattle.zb_cache.specs.Entries.{SeenCache, bytes_under, after_put, after_use}
use Rattle.zb_basis.specs.declared.basis.Fetched.{Fetched}

-- the bytes, where they are as many as the pointer says, else none
abbrev pub or_none : Ptr → Option (List ℕ) → List ℕ
or_none p None = []
or_none p (Some bytes) = if length bytes == p.len then bytes else []

-- a block as it is in a cache, without bytes where it isn't there
abbrev pub slot_of : List (Ptr × List ℕ) → Ptr → Fetched
slot_of entries p = record { ptr = p; bytes = or_none p (bytes_under p entries) }

-- the blocks as they are in a cache
abbrev pub slots_of : SeenCache → List Ptr → List Fetched
slots_of cache wanted = map (slot_of cache.entries) wanted

-- the block was neither fetched nor in the cache
abbrev pub is_missing : Fetched → Bool
is_missing block = length block.bytes == 0

-- a place so much further
abbrev pub shifted : ℕ → Option (ℕ × Ptr) → Option (ℕ × Ptr)
shifted n found = option_map (λ m. (m.0 + n, m.1)) found

-- the blocks that are there, as pairs of pointer and bytes
abbrev pub there : List Fetched → List (Ptr × List ℕ)
there [] = []
there (block ∷ blocks) = if is_missing block then there blocks else (block.ptr, block.bytes) ∷ there blocks

-- the place of the first block that is missing, and its pointer
abbrev pub next_missing : List Fetched → Option (ℕ × Ptr)
next_missing [] = None
next_missing (block ∷ blocks) = if is_missing block then Some (0, block.ptr) else shifted 1 (next_missing blocks)

-- the bytes of the block at this place have come
abbrev pub filled : List Fetched → ℕ → Ptr → List ℕ → List Fetched
filled blocks at p bytes = slice_set blocks at (record { ptr = p; bytes = bytes })

-- the block under this pointer, which has some bytes and ends within its stripe; it has them all unless it is missing
pub record IsSlot (room : ℕ) (p : Ptr) (block : Fetched) : Type 0 where
  pub is_from : block.ptr ≡ p
  pub long : is_missing block ≡ false → length block.bytes ≡ p.len
  pub some : 0 < p.len
  pub within : p.offset + p.len ≤ room

-- the blocks are those that are wanted, in order
abbrev pub AreSlots : ℕ → List Ptr → List Fetched → Type 0
AreSlots room wanted blocks = AllZip (IsSlot room) wanted blocks

-- the cache, once it was asked for these blocks in order
abbrev pub asked_for : List Ptr → SeenCache → SeenCache
asked_for wanted cache = record { entries = fold (λ entries p. after_use p entries) cache.entries wanted; room = cache.room }

-- the cache, once this block was put into it
abbrev pub put_in : SeenCache → Ptr → List ℕ → SeenCache
put_in cache p bytes = record { entries = after_put cache.room p bytes cache.entries; room = cache.room }
