use Rattle.std.proofs.Common.{arith}
use Rattle.zb_progress.proofs.Rising.{may-rise}
use Rattle.zb_ending.proofs.Fewer.{ready_same, steps_less}
use Rattle.zb_ending.proofs.ending.steps_come_to_an_end.Goals as goal

pub returns-clause-less : goal.returns-clause-less
returns-clause-less c given lines old new i told s may h = steps_less new i told s may h

pub returns-clause-ready : goal.returns-clause-ready
returns-clause-ready c old new i h = ready_same old new i h

pub returns-clause-may_rise : goal.returns-clause-may_rise
returns-clause-may_rise c given lines n s le = may-rise n.manager.tables.next_entry n.manager.tables s.rose (omega (arith, le))
