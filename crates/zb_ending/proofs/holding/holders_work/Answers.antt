use Rattle.zb_ending.proofs.Busy.{none_holds, own_free}
use Rattle.zb_ending.proofs.Keeping.{call_given, finish_given, holder_busy, idle_free, ready_keeps, some_goes, steps_keep}
use Rattle.zb_ending.proofs.holding.holders_work.Goals as goal

pub returns-clause-first : goal.returns-clause-first
returns-clause-first c n first = none_holds n first.holder

pub returns-clause-step : goal.returns-clause-step
returns-clause-step c given lines old new i told s works h = steps_keep new i told s works h

pub returns-clause-ready : goal.returns-clause-ready
returns-clause-ready c old new i works r = ready_keeps old new i works r

pub returns-clause-call : goal.returns-clause-call
returns-clause-call c given n i client call works is = call_given given n i client call works is

pub returns-clause-finishes : goal.returns-clause-finishes
returns-clause-finishes c n i client works is none = finish_given n i client works is none

pub returns-clause-free : goal.returns-clause-free
returns-clause-free c n holder works e = own_free holder n.manager.holder e

pub returns-clause-busy : goal.returns-clause-busy
returns-clause-busy c n i client works e is = holder_busy n i client works e is

pub returns-clause-goes_on : goal.returns-clause-goes_on
returns-clause-goes_on c given lines n i client s works is goes = some_goes given lines n i client s works is goes

pub returns-clause-rests : goal.returns-clause-rests
returns-clause-rests c n works idle = idle_free n works idle
