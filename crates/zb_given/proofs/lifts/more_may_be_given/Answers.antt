use Rattle.zb_given.proofs.lifts.more_may_be_given.Goals as goal
use Rattle.zb_given.proofs.MoreGiving.{more_given, more_finished, front_given}

pub returns : goal.returns
returns c = record { item = more_given; finish = more_finished; front = front_given }
