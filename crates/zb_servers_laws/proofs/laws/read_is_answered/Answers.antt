use Rattle.zb_servers_laws.proofs.ReadAnswers.{read_may_ask, read_takes, read_answers_from}
use Rattle.zb_servers_laws.proofs.laws.read_is_answered.Goals as goal

pub returns-clause-asked : goal.returns-clause-asked
returns-clause-asked c r asked some is = read_may_ask r asked some is

pub returns-clause-taken : goal.returns-clause-taken
returns-clause-taken c maps generation r asked response fit is answered = read_takes maps generation r asked response fit is answered

pub returns-clause-from : goal.returns-clause-from
returns-clause-from c maps generation x z r asked response looked is answered = read_answers_from maps generation x z r asked response looked is answered
