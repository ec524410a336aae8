use Rattle.zb_given.proofs.batches.several_lines_fit.Goals as goal
use Rattle.zb_given.proofs.Batching.{replies_batch, ends_all}

pub returns : goal.returns
returns c = record { replies = replies_batch; unfinished = ends_all }
