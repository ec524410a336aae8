use Rattle.zb_given.proofs.ends.lines_by_subject.Goals as goal
use Rattle.zb_given.proofs.Ending.{all_told_law, all_ended_law, only_calls}

pub returns : goal.returns
returns c = record { told = all_told_law; ended = all_ended_law; only_calls = only_calls }
