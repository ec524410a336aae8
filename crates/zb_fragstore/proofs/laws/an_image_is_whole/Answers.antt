use Rattle.zb_fragstore.proofs.Beside.{image_whole}
use Rattle.zb_fragstore.proofs.laws.an_image_is_whole.Goals as goal

pub returns : goal.returns
returns c = image_whole
