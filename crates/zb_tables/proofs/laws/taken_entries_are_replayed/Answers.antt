use Rattle.std.proofs.Common.{[]}
use Rattle.zb_tables.proofs.Taken.{taken_replays, taken_entries, taken_then}
use Rattle.zb_tables.proofs.laws.taken_entries_are_replayed.Goals as goal

pub returns-clause-replayed : goal.returns-clause-replayed
returns-clause-replayed c z contents entries tables after t = (taken_replays z contents [] entries tables after t, taken_entries z contents entries tables after t)

pub returns-clause-more : goal.returns-clause-more
returns-clause-more c z contents entries tables mid after entry batch t is may f = taken_then z contents entries tables mid after entry batch t is may f
