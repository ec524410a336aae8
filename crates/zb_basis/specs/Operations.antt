-- What the operations of a batch are: those of the client's calls, each against its file as the earlier ones leave it.
use Rattle.std.specs.Prelude.{◌≡◌, ℕ, ◌+◌, ◌-◌, ◌/◌, ◌%◌, Bool, true, false, not, ◌&&◌, ◌==◌, ◌^◌, min, nat_lt, nat_le, if◌then◌else◌, List, [], ◌∷◌, length, Option, Some, None}
use Rattle.std.specs.Bool.{MatchBool}
use Rattle.std.specs.List.{AllZip, range_with_len, flat_map}
use Rattle.zb_types.specs.declared.ids.Fid.{Fid}
use Rattle.zb_types.specs.declared.ids.Ptr.{Ptr}
use Rattle.zb_types.specs.declared.calls.Call.{Call}
use Rattle.zb_types.specs.declared.calls.Call.TheVariants.{Write, Truncate, Sync}
use Rattle.zb_types.specs.declared.tables.Found.{Found}
use Rattle.zb_types.specs.Keyed.{look}
use Rattle.zb_types.specs.Apply.{max_file, is_update}
use Rattle.zb_delta.specs.declared.delta.Delta.{Delta}
use Rattle.zb_delta.specs.declared.delta.Delta.TheVariants.{Update}
use Rattle.zb_delta.specs.Spelling.{body_of}
use Rattle.zb_batch.specs.declared.batch.Op.{Op}
use Rattle.zb_batch.specs.declared.batch.Op.TheVariants as op
use Rattle.zb_batch.specs.Spelling.{deltas_of}
use Rattle.zb_basis.specs.declared.calls.Numbered.{Numbered}
use Rattle.zb_basis.specs.Runs.{is_alone}
use Rattle.zb_basis.specs.Looking.{ask_of}
use Rattle.zb_basis.specs.Merging.{written_block, cut_block}

-- What earlier operations of a batch made of the files: how often each was changed, and where those of its blocks
-- stand that aren't as they were looked up (nowhere, where they were dropped).
pub record Changed : Type 0 where
  pub rose : ℕ → ℕ
  pub moved : ℕ → ℕ → Option (Option Ptr)

-- before the first operation
abbrev pub unchanged : Changed
unchanged = record { rose = λ fid. 0; moved = λ fid k. None }

-- the file's version now, 0 where there is none
abbrev pub version_now : Changed → Found → Fid → ℕ
version_now changed found fid = if found.version == 0 then 0 else found.version + changed.rose fid.0

-- where a block was moved to, or else where it was found
abbrev pub or_found : Option (Option Ptr) → Option Ptr → Option Ptr
or_found None found = found
or_found (Some moved) found = moved

-- where block k of the file stands now
abbrev pub stands_now : Changed → Found → Fid → ℕ → Option Ptr
stands_now changed found fid k = or_found (changed.moved fid.0 k) (look k found.blocks)

-- the file is there, and this end isn't too big
abbrev pub is_done : ℕ → ℕ → Bool
is_done version end = not (version == 0) && nat_le end max_file

-- the new pointer of block k by these deltas
abbrev pub new_of : ℕ → List Delta → Option Ptr
new_of k [] = None
new_of k (d ∷ ds) = if (body_of d).block == k then Some (body_of d).now else new_of k ds

-- the new pointer, or else what was moved before
abbrev pub or_before : Option Ptr → Option (Option Ptr) → Option (Option Ptr)
or_before None before = before
or_before (Some new) before = Some (Some new)

-- how many blocks of b bytes a length reaches into
abbrev pub blocks_in : ℕ → ℕ → ℕ
blocks_in b n = (n + (b - 1)) / b

-- a file changed once more, each of its blocks by these
abbrev pub with_file : Changed → Fid → (ℕ → Option (Option Ptr)) → Changed
with_file changed fid moved = record {
  rose = λ g. if g == fid.0 then changed.rose g + 1 else changed.rose g;
  moved = λ g k. if g == fid.0 then moved k else changed.moved g k;
}

-- the files after an operation
abbrev pub after_op : ℕ → Changed → Op → Changed
after_op b changed (op.Write call fid version offset len deltas) =
    if is_done version (offset + len) then with_file changed fid (λ k. or_before (new_of k deltas) (changed.moved fid.0 k)) else changed
after_op b changed (op.Cut call fid version n deltas) =
    if is_done version n then with_file changed fid (λ k. or_before (new_of k deltas) (if nat_le (blocks_in b n) k then Some None else changed.moved fid.0 k)) else changed
after_op b changed (op.Name call what) = changed
after_op b changed (op.Sync call) = changed
after_op b changed (op.Clean deltas) = changed

-- what stands at a pointer
abbrev pub Bytes : Type 0
Bytes = Ptr → List ℕ

-- the bytes of a block, none where it stands nowhere
abbrev pub block_bytes : Bytes → Option Ptr → List ℕ
block_bytes bytes None = []
block_bytes bytes (Some p) = bytes p

-- a delta gives a block that stood here this file's version and new bytes
pub record IsDelta (bytes : Bytes) (fid : Fid) (version k : ℕ) (was : Option Ptr) (new : List ℕ) (delta : Delta) : Type 0 where
  pub now : Ptr
  pub is : delta ≡ Update (record { fid = fid; version = version; block = k; was = was; now = now })
  pub merged : bytes now ≡ new

-- the delta of block k by a write
abbrev pub IsWriteDelta : ℕ → Bytes → Changed → Found → Fid → ℕ → ℕ → List ℕ → ℕ → Delta → Type 0
IsWriteDelta b bytes changed found fid version offset text k delta =
    IsDelta bytes fid version k (stands_now changed found fid k) (written_block b k (block_bytes bytes (stands_now changed found fid k)) offset text) delta

-- a write changes each block that it touches, in order
abbrev pub WriteDeltas : ℕ → Bytes → Changed → Found → Fid → ℕ → ℕ → List ℕ → List Delta → Type 0
WriteDeltas b bytes changed found fid version offset text deltas =
    AllZip (IsWriteDelta b bytes changed found fid version offset text)
    (range_with_len (ask_of b (Write fid offset text)).first (ask_of b (Write fid offset text)).count) deltas

-- is a block that stands here, the last that stays of n bytes, longer than its rest?
abbrev pub is_longer : ℕ → ℕ → Option Ptr → Bool
is_longer b n None = false
is_longer b n (Some p) = nat_lt 0 (n % b) && nat_lt (n % b) p.len

-- a truncation changes the last block that stays, where that is longer than its rest
abbrev pub CutDeltas : ℕ → Bytes → Fid → ℕ → ℕ → Option Ptr → List Delta → Type 0
CutDeltas b bytes fid version n was deltas =
    MatchBool (is_longer b n was)
    ((delta : Delta) × (deltas ≡ delta ∷ []) × IsDelta bytes fid version (n / b) was (cut_block b (n / b) (block_bytes bytes was) n) delta)
    (deltas ≡ [])

-- a call that changes names
abbrev pub is_of_names : Call → Bool
is_of_names call = is_alone call && is_update call

-- the length of a write as its operation has it: the greatest number of four bytes for one that is longer, and so too big
abbrev pub short_length : ℕ → ℕ
short_length n = min n (2 ^ 32 - 1)

-- the operation is that of the call, for which this was looked up
abbrev pub OpIs : ℕ → Bytes → Changed → ℕ → Call → Found → Op → Type 0
OpIs b bytes changed number (Write fid offset text) found (op.Write call g version at len deltas) =
    (call ≡ number) × (g ≡ fid) × (version ≡ version_now changed found fid) × (at ≡ offset) × (len ≡ short_length (length text))
    × MatchBool (is_done version (offset + length text)) (WriteDeltas b bytes changed found fid version offset text deltas) (deltas ≡ [])
OpIs b bytes changed number (Truncate fid n) found (op.Cut call g version m deltas) =
    (call ≡ number) × (g ≡ fid) × (version ≡ version_now changed found fid) × (m ≡ n)
    × MatchBool (is_done version n) (CutDeltas b bytes fid version n (stands_now changed found fid (n / b)) deltas) (deltas ≡ [])
OpIs b bytes changed number Sync found (op.Sync call) = call ≡ number
OpIs b bytes changed number what found (op.Name call named) = (call ≡ number) × (named ≡ what) × (is_of_names what ≡ true)
OpIs b bytes changed number what found other = ⊥

-- the operations are those of the calls, in order, each against what the earlier ones leave
abbrev pub OpsAre : ℕ → Bytes → Changed → List Numbered → List Found → List Op → Type 0
OpsAre b bytes changed [] [] [] = Unit {0}
OpsAre b bytes changed (call ∷ calls) (found ∷ founds) (o ∷ os) =
    OpIs b bytes changed call.number call.call found o × OpsAre b bytes (after_op b changed o) calls founds os
OpsAre b bytes changed calls founds os = ⊥

-- the new pointers of some operations, in order
abbrev pub new_ptrs : List Op → List Ptr
new_ptrs os = flat_map (λ o. flat_map (λ d. (body_of d).now ∷ []) (deltas_of o)) os
