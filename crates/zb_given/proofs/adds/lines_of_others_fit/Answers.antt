use Rattle.zb_given.proofs.adds.lines_of_others_fit.Goals as goal
use Rattle.zb_given.proofs.Adding.{adds_clean, adds_rebuild, adds_event}

pub returns : goal.returns
returns c = record { clean = adds_clean; rebuild = adds_rebuild; event = adds_event }
