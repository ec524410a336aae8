use Rattle.zb_ckpt.proofs.Once.{depends}
use Rattle.zb_ckpt.proofs.laws.a_checkpoint_depends_on_its_cell_and_pages.Goals as goal

pub returns : goal.returns
returns c = depends
