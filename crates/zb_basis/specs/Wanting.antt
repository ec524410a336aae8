-- Which old blocks have to be fetched before a batch is formed, or a read is answered.
use Rattle.std.specs.Prelude.{◌≡◌, ℕ, ◌+◌, ◌*◌, ◌/◌, Bool, false, not, ◌&&◌, ◌||◌, ◌==◌, min, max, nat_lt, nat_le, if◌then◌else◌, List, [], ◌∷◌, ◌++◌, length, map, filter, Any, Option, Some, None}
use Rattle.std.specs.List.{AllZip, range_with_len, flat_map}
use Rattle.zb_types.specs.declared.ids.Ptr.{Ptr}
use Rattle.zb_types.specs.declared.calls.Call.{Call}
use Rattle.zb_types.specs.declared.calls.Call.TheVariants.{Write, Truncate, Read}
use Rattle.zb_types.specs.declared.tables.Found.{Found}
use Rattle.zb_types.specs.Keyed.{look}
use Rattle.zb_basis.specs.declared.asks.Ask.{Ask}
use Rattle.zb_basis.specs.declared.basis.Fetched.{Fetched}
use Rattle.zb_basis.specs.declared.calls.Numbered.{Numbered}
use Rattle.zb_basis.specs.Looking.{ask_of}
use Rattle.zb_basis.specs.Operations.{is_done, is_longer, blocks_in}

-- is this one of the blocks that were asked?
abbrev pub is_asked : Ask → ℕ → Bool
is_asked ask k = nat_le ask.first k && nat_lt k (ask.first + ask.count)

-- does the call give block k of file g a new place, or none, where the block stood as it was looked up?
abbrev pub touches : ℕ → Call → Found → ℕ → ℕ → Bool
touches b (Write fid offset text) found g k = g == fid.0 && (is_done found.version (offset + length text) && is_asked (ask_of b (Write fid offset text)) k)
touches b (Truncate fid n) found g k = g == fid.0 && (is_done found.version n && (nat_le (blocks_in b n) k || (k == n / b && is_longer b n (look k found.blocks))))
touches b call found g k = false

-- the pointer at which a block was found, where no earlier call touched it and some of its bytes are wanted
abbrev pub wanted_at : Bool → Bool → Option Ptr → List Ptr
wanted_at touched wants None = []
wanted_at touched wants (Some p) = if not touched && wants then p ∷ [] else []

-- has block k, which stands here, a byte outside of those from the offset to before the end?
abbrev pub has_other : ℕ → ℕ → ℕ → ℕ → Option Ptr → Bool
has_other b offset end k None = false
has_other b offset end k (Some p) = nat_lt (k * b) offset || nat_lt end (k * b + p.len)

-- what is wanted of block k for a write
abbrev pub wanted_of_write : ℕ → (ℕ → Bool) → ℕ → ℕ → Found → ℕ → List Ptr
wanted_of_write b touched offset end found k = wanted_at (touched k) (has_other b offset end k (look k found.blocks)) (look k found.blocks)

-- the blocks that are wanted for a call: those that a write covers in part, and that in which a truncation ends
abbrev pub wanted_of : ℕ → Call → Found → (ℕ → ℕ → Bool) → List Ptr
wanted_of b (Write fid offset text) found touched =
    if is_done found.version (offset + length text)
    then flat_map (wanted_of_write b (touched fid.0) offset (offset + length text) found) (range_with_len (ask_of b (Write fid offset text)).first (ask_of b (Write fid offset text)).count)
    else []
wanted_of b (Truncate fid n) found touched =
    if is_done found.version n then wanted_at (touched fid.0 (n / b)) (is_longer b n (look (n / b) found.blocks)) (look (n / b) found.blocks) else []
wanted_of b call found touched = []

-- the blocks that are wanted for some calls, behind others that touched these
abbrev pub wanted_behind : ℕ → List Numbered → List Found → (ℕ → ℕ → Bool) → List Ptr
wanted_behind b (call ∷ calls) (found ∷ founds) touched =
    wanted_of b call.call found touched ++ wanted_behind b calls founds (λ g k. touched g k || touches b call.call found g k)
wanted_behind b calls founds touched = []

-- the blocks that are wanted for a batch, in order
abbrev pub wanted_by : ℕ → List Numbered → List Found → List Ptr
wanted_by b calls founds = wanted_behind b calls founds (λ g k. false)

-- has a block a byte among those from the one place to before the other?
abbrev pub reaches : ℕ → ℕ → ℕ → ℕ × Ptr → Bool
reaches b from to entry = nat_lt (max from (entry.0 * b)) (min to (entry.0 * b + entry.1.len))

-- the blocks of a file with bytes in a range
abbrev pub wanted_in : ℕ → ℕ → ℕ → Found → List Ptr
wanted_in b from to found = map (λ entry. entry.1) (filter (reaches b from to) found.blocks)

-- the blocks that are wanted for a read, in order: those with bytes in its range of the file, and none of a file that is absent
abbrev pub wanted_by_read : ℕ → Call → List Found → List Ptr
wanted_by_read b (Read fid offset len) (found ∷ []) =
    if found.version == 0 then [] else wanted_in b (min offset found.length) (min (offset + len) found.length) found
wanted_by_read b call founds = []

-- a block that was fetched from this pointer, as long as that says
pub record IsFetched (ptr : Ptr) (block : Fetched) : Type 0 where
  pub is_from : block.ptr ≡ ptr
  pub long : length block.bytes ≡ ptr.len

-- each block that is wanted was fetched, in order
abbrev pub AreFetched : List Ptr → List Fetched → Type 0
AreFetched ptrs fetched = AllZip IsFetched ptrs fetched

-- a lookup found this pointer
abbrev pub Holds : List Found → Ptr → Type 0
Holds founds ptr = Any (λ found. Any (λ entry. entry.1 ≡ ptr) found.blocks) founds
