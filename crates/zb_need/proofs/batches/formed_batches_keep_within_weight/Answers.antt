use Rattle.zb_need.proofs.Weighing.{formed-light}
use Rattle.zb_need.proofs.batches.formed_batches_keep_within_weight.Goals as goal

pub returns : goal.returns
returns c geo n f b log number members calls basis formed bytes same pos size is stand = formed-light geo n f b log number members calls basis formed bytes same pos size is stand
