use Rattle.zb_ckpt.proofs.Once.{says_one}
use Rattle.zb_ckpt.proofs.laws.an_image_says_one_checkpoint.Goals as goal

pub returns : goal.returns
returns c = says_one
