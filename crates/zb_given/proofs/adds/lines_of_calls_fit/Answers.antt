use Rattle.zb_given.proofs.adds.lines_of_calls_fit.Goals as goal
use Rattle.zb_given.proofs.Adding.{adds_buffered, adds_update, adds_read, adds_kept, adds_failed, adds_dropped, adds_unfinished}

pub returns : goal.returns
returns c = record { buffered = adds_buffered; update = adds_update; read = adds_read; kept = adds_kept; failed = adds_failed; dropped = adds_dropped; unfinished = adds_unfinished }
