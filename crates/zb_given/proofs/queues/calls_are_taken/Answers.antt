use Rattle.zb_given.proofs.queues.calls_are_taken.Goals as goal
use Rattle.zb_given.proofs.Standing.{buffers, takes, keeps_for}

pub returns : goal.returns
returns c = record { buffers = buffers; takes = takes; keeps = keeps_for }
