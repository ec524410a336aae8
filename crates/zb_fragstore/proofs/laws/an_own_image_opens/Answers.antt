use Rattle.zb_fragstore.proofs.Beside.{own_image_opens}
use Rattle.zb_fragstore.proofs.laws.an_own_image_opens.Goals as goal

pub returns : goal.returns
returns c = own_image_opens
