use Rattle.zb_given.proofs.loops.loop_goes_from_line_to_line.Goals as goal
use Rattle.zb_given.proofs.Looping.{goes_to, looks_first, goes_past_plus, goes_past, goes_past_steps, finishes}

pub returns : goal.returns
returns c = record { next = goes_to; looks = looks_first; past_plus = goes_past_plus; past = goes_past; past_steps = goes_past_steps; finish = finishes }
