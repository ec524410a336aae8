use Rattle.zb_running.proofs.Reported.{halts_so, none_waits, prints, rest_so, settles_so, step_told, still_prints, wait_given}
use Rattle.zb_running.proofs.reports.reports_take_steps.Goals as goal

pub returns-clause-step : goal.returns-clause-step
returns-clause-step c geo given lines old new client did r own h = step_told r new client own did h

pub returns-clause-waits : goal.returns-clause-waits
returns-clause-waits c geo given lines old new client r low h = wait_given r new client low h

pub returns-clause-halts : goal.returns-clause-halts
returns-clause-halts c geo given lines old new client why r own h = halts_so r new client why own h

pub returns-clause-prints : goal.returns-clause-prints
returns-clause-prints c geo given lines course r = prints course r

pub returns-clause-still_prints : goal.returns-clause-still_prints
returns-clause-still_prints c geo given lines course r = still_prints course r

pub returns-clause-none_waits : goal.returns-clause-none_waits
returns-clause-none_waits c geo given lines course r = none_waits r

pub returns-clause-settles : goal.returns-clause-settles
returns-clause-settles c geo given lines course r e = settles_so r e

pub returns-clause-rest : goal.returns-clause-rest
returns-clause-rest c geo given lines old new r t = rest_so new r t
