-- The operations of a formed batch are updates'.
use Rattle.std.proofs.Common.{ℕ, List, [], ◌∷◌}
use Rattle.std.specs.List.{AllByRecursion}
use Rattle.zb_types.specs.declared.ids.LogId.{LogId}
use Rattle.zb_types.specs.declared.ids.Ptr.{Ptr}
use Rattle.zb_types.specs.declared.calls.Call.{Call}
use Rattle.zb_types.specs.declared.calls.Call.TheVariants.{Create, Mkdir, Remove, Rename, Write, Truncate, Sync, Read, List as ListOf, Stat, Find}
use Rattle.zb_types.specs.declared.tables.Found.{Found}
use Rattle.zb_delta.specs.declared.delta.Delta.{Delta}
use Rattle.zb_batch.specs.declared.batch.Batch.{Batch}
use Rattle.zb_batch.specs.declared.batch.Op.{Op}
use Rattle.zb_batch.specs.declared.batch.Op.TheVariants as op
use Rattle.zb_tables.specs.Tables.{Contents, Tables, bytes_at}
use Rattle.zb_tables.specs.Leaving.{IsOfUpdate}
use Rattle.zb_basis.specs.declared.calls.Numbered.{Numbered}
use Rattle.zb_basis.specs.declared.basis.Basis.{Basis}
use Rattle.zb_basis.specs.Forming.{IsBatchOf}
use Rattle.zb_basis.specs.Operations.{Bytes, Changed, after_op, unchanged, OpIs as OpMeans, OpsAre as OpsMean}
use Rattle.zb_forming_laws.specs.Resting.{Rests}
use Rattle.zb_forming_laws.proofs.Standing.{contents-stand}

module _ (b : ℕ) (bytes : Bytes) (changed : Changed) where
  no-clean : (number : ℕ) (call : Call) (found : Found) (deltas : List Delta) → OpMeans b bytes changed number call found (op.Clean deltas) → ⊥
  no-clean number (Create path) found deltas is = absurd is
  no-clean number (Mkdir path) found deltas is = absurd is
  no-clean number (Remove path) found deltas is = absurd is
  no-clean number (Rename path to) found deltas is = absurd is
  no-clean number (Write fid offset text) found deltas is = absurd is
  no-clean number (Truncate fid size) found deltas is = absurd is
  no-clean number Sync found deltas is = absurd is
  no-clean number (Read fid offset len) found deltas is = absurd is
  no-clean number (ListOf path) found deltas is = absurd is
  no-clean number (Stat path) found deltas is = absurd is
  no-clean number (Find path) found deltas is = absurd is

  op-kind : (number : ℕ) (call : Call) (found : Found) (o : Op) → OpMeans b bytes changed number call found o → IsOfUpdate o
  op-kind number call found (op.Name m what) is = tt
  op-kind number call found (op.Write m fid version offset len deltas) is = tt
  op-kind number call found (op.Cut m fid version size deltas) is = tt
  op-kind number call found (op.Sync m) is = tt
  op-kind number call found (op.Clean deltas) is = absurd (no-clean number call found deltas is)

op-kinds : (b : ℕ) (bytes : Bytes) (calls : List Numbered) (founds : List Found) (os : List Op) (changed : Changed) → OpsMean b bytes changed calls founds os → AllByRecursion IsOfUpdate os
op-kinds b bytes [] [] [] changed are = tt
op-kinds b bytes (call ∷ calls) (found ∷ founds) (o ∷ os) changed are = (op-kind b bytes changed call.number call.call found o are.0, op-kinds b bytes calls founds os (after_op b changed o) are.1)
op-kinds b bytes [] [] (o ∷ os) changed are = absurd are
op-kinds b bytes [] (found ∷ founds) os changed are = absurd are
op-kinds b bytes (call ∷ calls) [] os changed are = absurd are
op-kinds b bytes (call ∷ calls) (found ∷ founds) [] changed are = absurd are

pub batch-kinds : (b : ℕ) (new : Contents) (t : Tables) (calls : List Numbered) (basis : Basis) (log : LogId) (number : ℕ) (batch : Batch) (ptrs : List Ptr) (blocks : List (List ℕ))
    → IsBatchOf b log number calls basis batch ptrs blocks → Rests b new t calls basis ptrs blocks → AllByRecursion IsOfUpdate batch.ops
batch-kinds b new t calls basis log number batch ptrs blocks is rests =
    op-kinds b (bytes_at new) calls basis.found batch.ops unchanged (is.of_calls (bytes_at new) (contents-stand new basis.fetched ptrs blocks rests.fetched rests.stand))
