use Rattle.std.proofs.Common.{arith}
use Rattle.zb_progress.proofs.Rising.{may-rise}
use Rattle.zb_ending.proofs.Ahead.{call_ahead, finish_ahead, first_few, ready_ahead, steps_few}
use Rattle.zb_ending.proofs.entries.entries_are_few.Goals as goal

pub returns-clause-first : goal.returns-clause-first
returns-clause-first c n first = first_few n first

pub returns-clause-step : goal.returns-clause-step
returns-clause-step c given lines old new i told s h = steps_few new i told s h

pub returns-clause-ready : goal.returns-clause-ready
returns-clause-ready c old new i r = ready_ahead old new i r

pub returns-clause-call : goal.returns-clause-call
returns-clause-call c given n i client call is = call_ahead given n i client call is

pub returns-clause-finishes : goal.returns-clause-finishes
returns-clause-finishes c n i client is = finish_ahead n i client is

pub returns-clause-may_rise : goal.returns-clause-may_rise
returns-clause-may_rise c given lines n s le = may-rise n.manager.tables.next_entry n.manager.tables s.rose (omega (arith, le))
