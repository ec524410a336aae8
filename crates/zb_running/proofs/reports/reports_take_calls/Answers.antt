use Rattle.zb_running.proofs.Reported.{call_given, finish_given, flush_given}
use Rattle.zb_running.proofs.reports.reports_take_calls.Goals as goal

pub returns-clause-call : goal.returns-clause-call
returns-clause-call c geo given lines old new client call r own short few t = call_given r new client call own short few t

pub returns-clause-finish : goal.returns-clause-finish
returns-clause-finish c geo given lines course r = finish_given r

pub returns-clause-flush : goal.returns-clause-flush
returns-clause-flush c geo given lines old new client r low high idle finishing f = flush_given r new client low high idle finishing f
