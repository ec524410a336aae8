-- The operations of a batch before its blocks have addresses: which blocks each makes anew, and with which bytes.
use Rattle.std.specs.Prelude.{ℕ, ◌<◌, ◌≤◌, ◌^◌, AllPairs, ◌+◌, ◌-◌, ◌/◌, ◌%◌, Bool, true, false, ◌&&◌, ◌==◌, nat_lt, nat_le, if◌then◌else◌, List, [], ◌∷◌, ◌++◌, length, map, slice_get, Option, Some, None}
use Rattle.std.specs.List.{range_with_len}
use Rattle.zb_types.specs.declared.ids.Ptr.{Ptr}
use Rattle.zb_types.specs.declared.calls.Call.{Call}
use Rattle.zb_types.specs.declared.calls.Call.TheVariants.{Write, Truncate}
use Rattle.zb_types.specs.declared.tables.Found.{Found}
use Rattle.zb_types.specs.Keyed.{look}
use Rattle.zb_types.specs.Tree.{or_none}
use Rattle.zb_basis.specs.declared.basis.Fetched.{Fetched}
use Rattle.zb_basis.specs.declared.calls.Numbered.{Numbered}
use Rattle.zb_basis.specs.Looking.{ask_of, no_file}
use Rattle.zb_basis.specs.Merging.{written_block, cut_block}
use Rattle.zb_basis.specs.Operations.{blocks_in, is_done}
use Rattle.zb_forming.specs.declared.draft.Was.{Was}
use Rattle.zb_forming.specs.declared.draft.Was.TheVariants.{Hole, Stored, New}
use Rattle.zb_forming.specs.declared.draft.Change.{Change}
use Rattle.zb_forming.specs.declared.draft.Draft.{Draft}
use Rattle.zb_forming.specs.declared.draft.Drafts.{Drafts}

-- is the block one of those from this number on?
abbrev pub is_left : Option ℕ → ℕ → Bool
is_left None k = false
is_left (Some left) k = nat_le left k

-- nowhere, where the block is one of those from a number on
abbrev pub hole_if : Bool → Option Was
hole_if true = Some Hole
hole_if false = None

-- where a block that is made anew stands, else another place
abbrev pub place_of : Option Change → Option Was → Option Was
place_of None other = other
place_of (Some change) other = Some (New change.place)

-- where block k of file g stands after an operation, where the operation says so
abbrev pub moved_by : Draft → ℕ → ℕ → Option Was
moved_by draft g k =
    if draft.done && draft.fid.0 == g
    then place_of (if nat_le draft.first k then slice_get draft.changes (k - draft.first) else None) (hole_if (is_left draft.left k))
    else None

-- the later of two places
abbrev pub later : Option Was → Option Was → Option Was
later None before = before
later (Some was) before = Some was

-- where block k of file g stands after some operations, where they say so
abbrev pub moved_in : List Draft → ℕ → ℕ → Option Was
moved_in [] g k = None
moved_in (draft ∷ drafts) g k = later (moved_in drafts g k) (moved_by draft g k)

-- where a lookup found a block
abbrev pub was_found : Option Ptr → Was
was_found None = Hole
was_found (Some ptr) = Stored ptr

-- the place that operations gave, else that of the lookup
abbrev pub or_stood : Option Was → Was → Was
or_stood None was = was
or_stood (Some moved) was = moved

-- where block k of file g stands after some operations
abbrev pub stands : List Draft → Found → ℕ → ℕ → Was
stands drafts found g k = or_stood (moved_in drafts g k) (was_found (look k found.blocks))

-- how often operations changed file g
abbrev pub rose_in : List Draft → ℕ → ℕ
rose_in [] g = 0
rose_in (draft ∷ drafts) g = if draft.done && draft.fid.0 == g then rose_in drafts g + 1 else rose_in drafts g

-- the version of file g after some operations, 0 where there is none
abbrev pub version_in : List Draft → Found → ℕ → ℕ
version_in drafts found g = if found.version == 0 then 0 else found.version + rose_in drafts g

-- the change of block k, where block `first` is the first that the operation makes anew, at this place among the blocks of its batch
abbrev pub change_at : List Draft → Found → ℕ → ℕ → ℕ → ℕ → Change
change_at drafts found g first start k = record { block = k; was = stands drafts found g k; place = start + (k - first) }

-- the changes of so many blocks
abbrev pub changes_of : List Draft → Found → ℕ → ℕ → ℕ → ℕ → List Change
changes_of drafts found g first start count = map (change_at drafts found g first start) (range_with_len first count)

-- how many bytes a block has
abbrev pub length_at : List (List ℕ) → Was → ℕ
length_at blocks Hole = 0
length_at blocks (Stored ptr) = ptr.len
length_at blocks (New place) = length (or_none (slice_get blocks place))

-- has the last block that stays of n bytes more than its rest?
abbrev pub is_cut : ℕ → ℕ → ℕ → Bool
is_cut b n len = nat_lt 0 (n % b) && nat_lt (n % b) len

-- how many blocks a truncation makes anew
abbrev pub cut_count : ℕ → ℕ → Bool → ℕ → ℕ
cut_count b n done len = if done && is_cut b n len then 1 else 0

-- how many blocks a write makes anew
abbrev pub write_count : Bool → ℕ → ℕ
write_count done count = if done then count else 0

-- the operation of a call behind others
abbrev pub draft_of : ℕ → Drafts → Call → Found → Draft
draft_of b s (Write fid offset text) found = record {
  fid = fid;
  version = version_in s.drafts found fid.0;
  done = is_done found.version (offset + length text);
  left = None;
  first = (ask_of b (Write fid offset text)).first;
  changes = changes_of s.drafts found fid.0 (ask_of b (Write fid offset text)).first (length s.blocks)
      (write_count (is_done found.version (offset + length text)) (ask_of b (Write fid offset text)).count);
}
draft_of b s (Truncate fid n) found = record {
  fid = fid;
  version = version_in s.drafts found fid.0;
  done = is_done found.version n;
  left = Some (blocks_in b n);
  first = n / b;
  changes = changes_of s.drafts found fid.0 (n / b) (length s.blocks)
      (cut_count b n (is_done found.version n) (length_at s.blocks (stands s.drafts found fid.0 (n / b))));
}
draft_of b s call found = record { fid = no_file; version = 0; done = false; left = None; first = 0; changes = [] }

-- both pointers are the same
abbrev pub is_same : Ptr → Ptr → Bool
is_same p q = p.log.0 == q.log.0 && (p.stripe == q.stripe && (p.offset == q.offset && p.len == q.len))

-- the bytes that were fetched from a pointer, none where none were
abbrev pub known : List Fetched → Ptr → List ℕ
known [] ptr = []
known (block ∷ blocks) ptr = if is_same block.ptr ptr then block.bytes else known blocks ptr

-- the bytes of a block
abbrev pub was_bytes : (Ptr → List ℕ) → List (List ℕ) → Was → List ℕ
was_bytes bytes blocks Hole = []
was_bytes bytes blocks (Stored ptr) = bytes ptr
was_bytes bytes blocks (New place) = or_none (slice_get blocks place)

-- block k after a call, where it had these bytes
abbrev pub merged : ℕ → Call → ℕ → List ℕ → List ℕ
merged b (Write fid offset text) k old = written_block b k old offset text
merged b (Truncate fid n) k old = cut_block b k old n
merged b call k old = []

-- the blocks that a call makes anew
abbrev pub made_by : ℕ → (Ptr → List ℕ) → List (List ℕ) → Call → List Change → List (List ℕ)
made_by b bytes blocks call changes = map (λ change. merged b call change.block (was_bytes bytes blocks change.was)) changes

-- one more operation
abbrev pub added : ℕ → (Ptr → List ℕ) → Drafts → Call → Found → Drafts
added b bytes s call found = record {
  drafts = s.drafts ++ draft_of b s call found ∷ [];
  blocks = s.blocks ++ made_by b bytes s.blocks call (draft_of b s call found).changes;
}

-- the operations of some calls behind others
abbrev pub drafted : ℕ → (Ptr → List ℕ) → List Numbered → List Found → Drafts → Drafts
drafted b bytes (call ∷ calls) (found ∷ founds) s = drafted b bytes calls founds (added b bytes s call.call found)
drafted b bytes calls founds s = s

-- no operation yet
abbrev pub no_drafts : Drafts
no_drafts = record { drafts = []; blocks = [] }

-- what a lookup found has its blocks by rising numbers, and a version that may rise
pub record IsOrdered (found : Found) : Type 0 where
  pub rise : AllPairs (λ one other. one.0 < other.0) found.blocks
  pub version : found.version ≤ 2 ^ 48

-- a block of 1 to b bytes
abbrev pub Fits : ℕ → List ℕ → Type 0
Fits b block = (1 ≤ length block) × (length block ≤ b)
