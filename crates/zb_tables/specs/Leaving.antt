-- What operations leave of a file.
use Rattle.std.specs.Prelude.{◌≡◌, ℕ}
use Rattle.zb_types.specs.Keyed.{look}
use Rattle.zb_batch.specs.declared.batch.Op.{Op}
use Rattle.zb_batch.specs.declared.batch.Op.TheVariants.{Name, Write, Cut, Sync, Clean}
use Rattle.zb_tables.specs.Tables.{FileState, Contents}
use Rattle.zb_tables.specs.Looking.{SameBlock}

-- an operation of an update, and none of the cleaner's
abbrev pub IsOfUpdate : Op → Type 0
IsOfUpdate (Name call what) = Unit {0}
IsOfUpdate (Write call fid version offset len deltas) = Unit {0}
IsOfUpdate (Cut call fid version size deltas) = Unit {0}
IsOfUpdate (Sync call) = Unit {0}
IsOfUpdate (Clean deltas) = ⊥

-- a file at its version and length, with each block as it was or a copy of it
pub record HasCopies (contents : Contents) (old new : FileState) : Type 0 where
  pub version : new.version ≡ old.version
  pub length : new.length ≡ old.length
  pub blocks : (k : ℕ) → SameBlock contents (look k old.blocks) (look k new.blocks)
