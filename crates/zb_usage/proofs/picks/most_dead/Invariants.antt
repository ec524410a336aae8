use Rattle.std.specs.List.{IsFirstMaxByKey}
use Rattle.zb_usage.specs.Choosing.{dead_bytes}
use Rattle.zb_usage.proofs.picks.most_dead.Given as goal

abbrev pub invariant-loop-i : goal.invariant-loop-i
invariant-loop-i l = IsFirstMaxByKey dead_bytes l.list l.i l.best
