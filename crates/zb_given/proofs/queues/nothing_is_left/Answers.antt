use Rattle.zb_given.proofs.queues.nothing_is_left.Goals as goal
use Rattle.zb_given.proofs.Standing.{idle_has_lines, none_kept_has_last}

pub returns : goal.returns
returns c = record { idle = idle_has_lines; none_kept = none_kept_has_last }
