use Rattle.std.proofs.Common.{◌≡◌}
use Rattle.zb_types.specs.Names.{walk}
use Rattle.zb_names.proofs.Fronts.{walk_from}
use Rattle.zb_names.proofs.looking.walk.Given as goal

abbrev pub invariant-loop-i : goal.invariant-loop-i
invariant-loop-i l = walk_from l.kept.entries l.path l.i ≡ walk l.kept.entries l.path
