-- The operations of a batch once its blocks have addresses.
use Rattle.std.specs.Prelude.{ℕ, List, [], ◌∷◌, length, map, slice_get, Option, Some, None, IsTrue}
use Rattle.zb_types.specs.declared.ids.Fid.{Fid}
use Rattle.zb_types.specs.declared.ids.LogId.{LogId}
use Rattle.zb_types.specs.declared.ids.Ptr.{Ptr}
use Rattle.zb_types.specs.declared.calls.Call.{Call}
use Rattle.zb_types.specs.declared.calls.Call.TheVariants.{Create, Mkdir, Remove, Rename, Write, Truncate, Sync, Read, List as ListOf, Stat, Find}
use Rattle.zb_types.specs.Paths.{is_path}
use Rattle.zb_delta.specs.declared.delta.Delta.{Delta}
use Rattle.zb_delta.specs.declared.delta.Delta.TheVariants.{Update}
use Rattle.zb_batch.specs.declared.batch.Op.{Op}
use Rattle.zb_batch.specs.declared.batch.Op.TheVariants as op
use Rattle.zb_batch.specs.declared.batch.Batch.{Batch}
use Rattle.zb_basis.specs.declared.calls.Numbered.{Numbered}
use Rattle.zb_basis.specs.Operations.{short_length}
use Rattle.zb_forming.specs.declared.draft.Was.{Was}
use Rattle.zb_forming.specs.declared.draft.Was.TheVariants.{Hole, Stored, New}
use Rattle.zb_forming.specs.declared.draft.Change.{Change}
use Rattle.zb_forming.specs.declared.draft.Draft.{Draft}

-- no pointer of a block
abbrev pub no_ptr : Ptr
no_ptr = record { log = record { 0 = 0 }; stripe = 0; offset = 0; len = 0 }

-- the pointer, or else none of a block
abbrev pub or_no_ptr : Option Ptr → Ptr
or_no_ptr None = no_ptr
or_no_ptr (Some ptr) = ptr

-- where a block stands, where the new blocks have these pointers
abbrev pub ptr_of : List Ptr → Was → Option Ptr
ptr_of ptrs Hole = None
ptr_of ptrs (Stored ptr) = Some ptr
ptr_of ptrs (New place) = Some (or_no_ptr (slice_get ptrs place))

-- the delta of a change
abbrev pub delta_of : List Ptr → Fid → ℕ → Change → Delta
delta_of ptrs fid version change = Update (record { fid = fid; version = version; block = change.block; was = ptr_of ptrs change.was; now = or_no_ptr (slice_get ptrs change.place) })

-- the deltas of an operation
abbrev pub deltas_made : List Ptr → Fid → ℕ → List Change → List Delta
deltas_made ptrs fid version changes = map (delta_of ptrs fid version) changes

-- the first of some changes, where there is one
abbrev pub first_only : List Change → List Change
first_only [] = []
first_only (change ∷ changes) = change ∷ []

-- the operation of a call
abbrev pub op_made : List Ptr → ℕ → Call → Draft → Op
op_made ptrs number (Write fid offset text) draft = op.Write number fid draft.version offset (short_length (length text)) (deltas_made ptrs fid draft.version draft.changes)
op_made ptrs number (Truncate fid n) draft = op.Cut number fid draft.version n (deltas_made ptrs fid draft.version (first_only draft.changes))
op_made ptrs number Sync draft = op.Sync number
op_made ptrs number call draft = op.Name number call

-- the operations of some calls
abbrev pub ops_made : List Ptr → List Numbered → List Draft → List Op
ops_made ptrs (call ∷ calls) (draft ∷ drafts) = op_made ptrs call.number call.call draft ∷ ops_made ptrs calls drafts
ops_made ptrs calls drafts = []

-- the batch of some calls
abbrev pub batch_made : LogId → ℕ → List Ptr → List Numbered → List Draft → Batch
batch_made log number ptrs calls drafts = record { log = log; number = number; ops = ops_made ptrs calls drafts }

-- the paths of a call are paths
abbrev pub HasPaths : Call → Type 0
HasPaths (Create path) = IsTrue (is_path path)
HasPaths (Mkdir path) = IsTrue (is_path path)
HasPaths (Remove path) = IsTrue (is_path path)
HasPaths (Rename from to) = IsTrue (is_path from) × IsTrue (is_path to)
HasPaths (Write fid offset text) = Unit {0}
HasPaths (Truncate fid n) = Unit {0}
HasPaths Sync = Unit {0}
HasPaths (Read fid offset len) = Unit {0}
HasPaths (ListOf path) = Unit {0}
HasPaths (Stat path) = Unit {0}
HasPaths (Find path) = Unit {0}
