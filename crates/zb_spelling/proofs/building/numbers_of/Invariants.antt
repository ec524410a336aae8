use Rattle.std.proofs.Common.{◌≡◌, ◌++◌, drop}
use Rattle.std.specs.List.{flat_map}
use Rattle.zb_names.specs.Shown.{seen}
use Rattle.zb_tables.specs.Checkpoint.{number_of}
use Rattle.zb_spelling.proofs.building.numbers_of.Given as goal

abbrev pub invariant-loop-name : goal.invariant-loop-name
invariant-loop-name l = l.numbers.items ++ flat_map (λ e. number_of (seen e.1)) (drop l.name-index l.names) ≡ flat_map (λ e. number_of (seen e.1)) l.names
