use Rattle.std.specs.List.{IsFirstMaxByKey}
use Rattle.zb_usage.specs.Choosing.{dead_by_age, newest}
use Rattle.zb_usage.proofs.picks.oldest.Given as goal

abbrev pub invariant-loop-i : goal.invariant-loop-i
invariant-loop-i l = IsFirstMaxByKey (dead_by_age (newest l.list)) l.list l.i l.best
