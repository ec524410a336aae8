-- The tables before the first entry are those of a checkpoint.
use Rattle.std.proofs.Common.{[], arith}
use Rattle.std.specs.List.Sorted.{IsStrictlySortedBy}
use Rattle.std.proofs.lemmas.Option.{none-some}
use Rattle.std.proofs.lemmas.List.Sorted.{IsPermutation-refl}
use Rattle.zb_tables.specs.Tables.{first_tables}
use Rattle.zb_tables.specs.Taking.{Sizes}
use Rattle.zb_tables.specs.Checkpoint.{AreTables}

pub first_are : (z : Sizes) → AreTables z first_tables
unfolding IsStrictlySortedBy
first_are z = record {
  names = record { numbered = omega arith; rising = tt; paths = tt; hanging = tt; files = tt };
  next_file = omega arith;
  few = omega arith;
  named = IsPermutation-refl [];
  files_rise = tt;
  files = tt;
  logs_rise = tt;
  logs = tt;
  one_live = λ k j l m e f. absurd (none-some l e);
  held_rise = tt;
  held = tt;
  state = tt;
  generation = (omega arith, omega arith);
  next_log = (omega arith, omega arith);
  next_entry = (omega arith, omega arith);
}
