use Rattle.zb_journal.proofs.Once.{says_one}
use Rattle.zb_journal.proofs.laws.an_image_says_one_journal.Goals as goal

pub returns : goal.returns
returns c = says_one
