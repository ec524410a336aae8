use Rattle.zb_pass.proofs.Served.{all_strays}
use Rattle.zb_cleaner.proofs.Lawful.{unheld, unwritten}
use Rattle.zb_cleaner.proofs.laws.strays_alone_are_deleted.Goals as goal

pub returns-clause-strays : goal.returns-clause-strays
returns-clause-strays c = all_strays

pub returns-clause-unheld : goal.returns-clause-unheld
returns-clause-unheld c = unheld

pub returns-clause-behind : goal.returns-clause-behind
returns-clause-behind c = unwritten
