use Rattle.zb_servers_laws.proofs.Asking.{plan_may_ask}
use Rattle.zb_servers_laws.proofs.WriteAnswers.{plan_writes, plan_clients, write_answer, is_up}
use Rattle.zb_servers_laws.proofs.laws.write_is_answered.Goals as goal
use Rattle.zb_types.specs.declared.requests.Response.TheVariants as told
use Rattle.zb_types.specs.declared.requests.StoreFault.TheVariants as fault

pub returns-clause-asked : goal.returns-clause-asked
returns-clause-asked c n f out class flush i asked some small is = plan_may_ask n f some small out class flush i asked is

pub returns-clause-writes : goal.returns-clause-writes
returns-clause-writes c n f out class flush i asked is = plan_writes n f out flush i asked class is

pub returns-clause-clients : goal.returns-clause-clients
returns-clause-clients c n f out flush i asked is = plan_clients n f out flush i asked is

pub returns-clause-answer : goal.returns-clause-answer
returns-clause-answer c has generation request response write finds takes answer = write_answer has generation request response write finds takes answer

pub returns-clause-memory : goal.returns-clause-memory
returns-clause-memory c has generation request answer = is_up has generation request (told.Refused fault.NoMemory) answer

pub returns-clause-down : goal.returns-clause-down
returns-clause-down c has generation request answer = is_up has generation request told.Down answer

pub returns-clause-blank : goal.returns-clause-blank
returns-clause-blank c has generation request answer = is_up has generation request told.Blank answer
