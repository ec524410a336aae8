-- What the length of a batch's meta part depends on.
use Rattle.std.specs.Prelude.{◌≡◌, ℕ, List, length, map}
use Rattle.zb_types.specs.declared.calls.Call.{Call}
use Rattle.zb_batch.specs.declared.batch.Batch.{Batch}
use Rattle.zb_batch.specs.declared.batch.Op.{Op}
use Rattle.zb_batch.specs.declared.batch.Op.TheVariants.{Name, Write, Cut, Sync, Clean}

-- an operation's kind, with its paths or how many deltas it has
pub data Shape : Type 0 where
  names : Call → Shape
  writes : ℕ → Shape
  cuts : ℕ → Shape
  syncs : Shape
  cleans : ℕ → Shape

-- the shape of an operation: none of its numbers, and no pointer
abbrev pub shape_of : Op → Shape
shape_of (Name call what) = names what
shape_of (Write call fid version offset len deltas) = writes (length deltas)
shape_of (Cut call fid version size deltas) = cuts (length deltas)
shape_of (Sync call) = syncs
shape_of (Clean deltas) = cleans (length deltas)

-- the operations have the same shapes in the same order
abbrev pub HaveSameShape : Batch → Batch → Type 0
HaveSameShape batch other = map shape_of batch.ops ≡ map shape_of other.ops
