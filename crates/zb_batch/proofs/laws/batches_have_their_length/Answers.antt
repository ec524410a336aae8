use Rattle.std.proofs.Common.{ap, ◌+◌}
use Rattle.zb_batch.proofs.Sizes.{length-ops_text, same_length}
use Rattle.zb_batch.proofs.Whole.{length-spelling_of_batch}
use Rattle.zb_batch.proofs.laws.batches_have_their_length.Goals as goal

pub returns : goal.returns
returns c = record {
  spelled = length-spelling_of_batch;
  shape = same_length;
  ops = λ batch. ap (λ n. 32 + n) (length-ops_text batch.ops);
}
