use Rattle.zb_given.proofs.queues.calls_end.Goals as goal
use Rattle.zb_given.proofs.Standing.{ends_kept, ends_queued}

pub returns : goal.returns
returns c = record { kept = ends_kept; queued = ends_queued }
