use Rattle.zb_ckpt.proofs.Once.{foreign_once, says_no_foreign}
use Rattle.zb_ckpt.proofs.laws.an_image_is_foreign_in_one_field.Goals as goal

pub returns-clause-once : goal.returns-clause-once
returns-clause-once c = foreign_once

pub returns-clause-none : goal.returns-clause-none
returns-clause-none c = says_no_foreign
