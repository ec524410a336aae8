use Rattle.std.proofs.Common.{refl}
use Rattle.zb_laws.proofs.laws.tails_differ.Goals as goal
use Rattle.zb_laws.proofs.RunOnce.{tree_otherwise, whole_tails, lines_alone}

pub returns : goal.returns
returns c = record { tree = tree_otherwise; behind_lines = whole_tails; alone = lines_alone; usage = refl }
