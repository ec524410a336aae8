use Rattle.zb_line_laws.proofs.Owning.{answered, given_up, replied, taken}
use Rattle.zb_line_laws.proofs.owned.lines_are_the_clients_own.Goals as goal

pub returns-clause-taken : goal.returns-clause-taken
returns-clause-taken c client = taken client

pub returns-clause-answered : goal.returns-clause-answered
returns-clause-answered c client what = answered client what

pub returns-clause-given_up : goal.returns-clause-given_up
returns-clause-given_up c client cause = given_up client cause

pub returns-clause-replied : goal.returns-clause-replied
returns-clause-replied c client replies = replied client replies
