-- What a batch is.
use Rattle.std.specs.Prelude.{◌≡◌, ℕ, ◌≤◌, Bool, true, false, not, ◌&&◌, nat_le, List, [], ◌∷◌, length, IsTrue}
use Rattle.std.specs.List.{list_all, AllByRecursion}
use Rattle.zb_types.specs.declared.ids.Fid.{Fid}
use Rattle.zb_types.specs.declared.calls.Call.{Call}
use Rattle.zb_types.specs.declared.calls.Call.TheVariants.{Create, Mkdir, Remove, Rename, Write as WriteCall, Truncate, Sync as SyncCall, Read, List as ListOf, Stat, Find}
use Rattle.zb_types.specs.Paths.{is_path}
use Rattle.zb_numbers.specs.Numbers.{IsBelow}
use Rattle.zb_delta.specs.declared.delta.Delta.{Delta}
use Rattle.zb_delta.specs.declared.delta.Delta.TheVariants.{Update, Clean as CleanDelta, Reject}
use Rattle.zb_delta.specs.Spelling.{IsDelta}
use Rattle.zb_batch.specs.declared.batch.Batch.{Batch}
use Rattle.zb_batch.specs.declared.batch.Op.{Op}
use Rattle.zb_batch.specs.declared.batch.Op.TheVariants.{Name, Write, Cut, Sync, Clean}
use Rattle.zb_batch.specs.Spelling.{deltas_of, meta_length}

-- a client's change of this file at this version
abbrev pub IsUpdateOf : Fid → ℕ → Delta → Type 0
IsUpdateOf fid version (Update body) = (body.fid ≡ fid) × (body.version ≡ version)
IsUpdateOf fid version (CleanDelta body) = ⊥
IsUpdateOf fid version (Reject body table) = ⊥

-- a change by the cleaner
abbrev pub IsCleanDelta : Delta → Type 0
IsCleanDelta (Update body) = ⊥
IsCleanDelta (CleanDelta body) = Unit {0}
IsCleanDelta (Reject body table) = ⊥

-- the paths of a call that creates, removes or renames
abbrev pub IsNameCall : Call → Type 0
IsNameCall (Create path) = IsTrue (is_path path)
IsNameCall (Mkdir path) = IsTrue (is_path path)
IsNameCall (Remove path) = IsTrue (is_path path)
IsNameCall (Rename from to) = IsTrue (is_path from) × IsTrue (is_path to)
IsNameCall (WriteCall fid offset bytes) = ⊥
IsNameCall (Truncate fid size) = ⊥
IsNameCall SyncCall = ⊥
IsNameCall (Read fid offset len) = ⊥
IsNameCall (ListOf path) = ⊥
IsNameCall (Stat path) = ⊥
IsNameCall (Find path) = ⊥

-- an operation has deltas of its own kind, file and version, and a truncation at most one
abbrev pub IsShaped : Op → Type 0
IsShaped (Name call what) = IsNameCall what
IsShaped (Write call fid version offset len deltas) = AllByRecursion (IsUpdateOf fid version) deltas
IsShaped (Cut call fid version size deltas) = (length deltas ≤ 1) × AllByRecursion (IsUpdateOf fid version) deltas
IsShaped (Sync call) = Unit {0}
IsShaped (Clean deltas) = AllByRecursion IsCleanDelta deltas

-- its own numbers have room in their bytes
abbrev pub HasRoom : Op → Type 0
HasRoom (Name call what) = IsBelow 8 call
HasRoom (Write call fid version offset len deltas) = IsBelow 8 call × IsBelow 4 fid.0 × IsBelow 8 version × IsBelow 4 offset × IsBelow 4 len
HasRoom (Cut call fid version size deltas) = IsBelow 8 call × IsBelow 4 fid.0 × IsBelow 8 version × IsBelow 4 size
HasRoom (Sync call) = IsBelow 8 call
HasRoom (Clean deltas) = Unit {0}

-- an operation that has a spelling
pub record IsOp (op : Op) : Type 0 where
  pub shaped : IsShaped op
  pub room : HasRoom op
  pub count : IsBelow 4 (length (deltas_of op))
  pub deltas : AllByRecursion IsDelta (deltas_of op)

-- its numbers and those of its deltas have room in their bytes
pub record HasAllRoom (op : Op) : Type 0 where
  pub own : HasRoom op
  pub deltas : AllByRecursion IsDelta (deltas_of op)

-- a name operation and a clean stand alone in their batch
abbrev pub is_alone : Op → Bool
is_alone (Name call what) = true
is_alone (Write call fid version offset len deltas) = false
is_alone (Cut call fid version size deltas) = false
is_alone (Sync call) = false
is_alone (Clean deltas) = true

-- one operation, or up to eight of which none stands alone
abbrev pub is_company : List Op → Bool
is_company [] = false
is_company (op ∷ []) = true
is_company (op ∷ (next ∷ others)) = nat_le (length (op ∷ (next ∷ others))) 8 && list_all (λ o. not (is_alone o)) (op ∷ (next ∷ others))

-- what can be spelled: operations with their own deltas, that may stand together, and whose length has room
pub record IsSpellable (batch : Batch) : Type 0 where
  pub shaped : AllByRecursion IsShaped batch.ops
  pub company : IsTrue (is_company batch.ops)
  pub short : IsBelow 4 (meta_length batch)

-- a batch that may be read: its number is at least 1
pub record IsBatch (batch : Batch) : Type 0 where
  pub log : IsBelow 4 batch.log.0
  pub number : IsBelow 8 batch.number
  pub numbered : 1 ≤ batch.number
  pub ops : AllByRecursion IsOp batch.ops
  pub company : IsTrue (is_company batch.ops)
  pub short : IsBelow 4 (meta_length batch)
