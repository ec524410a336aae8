use Rattle.zb_platter.proofs.Once.{says_one, system_once}
use Rattle.zb_platter.proofs.laws.an_image_says_one_value.Goals as goal

pub returns-clause-tables : goal.returns-clause-tables
returns-clause-tables c = says_one

pub returns-clause-system : goal.returns-clause-system
returns-clause-system c = system_once
