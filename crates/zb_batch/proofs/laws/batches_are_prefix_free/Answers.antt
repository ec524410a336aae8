use Rattle.zb_batch.proofs.laws.batches_are_prefix_free.Goals as goal
use Rattle.zb_batch.proofs.Whole.{batch_once}

pub returns : goal.returns
returns c = batch_once
