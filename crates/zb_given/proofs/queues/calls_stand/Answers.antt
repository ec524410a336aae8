use Rattle.zb_given.proofs.queues.calls_stand.Goals as goal
use Rattle.zb_given.proofs.Standing.{stand_first, stand_given, stand_finish, stand_over}

pub returns : goal.returns
returns c = record { first = stand_first; given = stand_given; finish = stand_finish; over = stand_over }
