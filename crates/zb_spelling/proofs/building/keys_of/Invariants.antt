use Rattle.std.proofs.Common.{◌≡◌, ◌++◌, drop, map}
use Rattle.std.specs.Map.{keys_of}
use Rattle.zb_spelling.specs.Reading.{shown_file}
use Rattle.zb_spelling.proofs.building.keys_of.Given as goal

abbrev pub invariant-loop-row : goal.invariant-loop-row
invariant-loop-row l = l.numbers.items ++ keys_of (map shown_file (drop l.row-index l.files)) ≡ keys_of (map shown_file l.files)
