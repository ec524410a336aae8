use Rattle.zb_plain.proofs.ReadAnswers.{read_may_ask, read_takes, read_answers_from, all_and_one, leads_on, comes_to, not_ended}
use Rattle.zb_plain.proofs.laws.read_is_answered.Goals as goal

pub returns-clause-asked : goal.returns-clause-asked
returns-clause-asked c r asked some is = read_may_ask r asked some is

pub returns-clause-taken : goal.returns-clause-taken
returns-clause-taken c servers r asked fit is = read_takes servers r asked fit is

pub returns-clause-from : goal.returns-clause-from
returns-clause-from c servers x z r asked looked is = read_answers_from servers x z r asked looked is

pub returns-clause-more : goal.returns-clause-more
returns-clause-more c maps x z first last answers answer all lead one = all_and_one maps x z first last answers answer all lead one

pub returns-clause-leads_on : goal.returns-clause-leads_on
returns-clause-leads_on c first last answers answer lead more = leads_on first last answers answer lead more

pub returns-clause-ends : goal.returns-clause-ends
returns-clause-ends c first last answers answer lead ends = comes_to first last answers answer lead ends

pub returns-clause-goes_on : goal.returns-clause-goes_on
returns-clause-goes_on c first last answers lead = not_ended first last answers lead
