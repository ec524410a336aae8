use Rattle.zb_running.proofs.Blocked.{given_at, past_still, step_at}
use Rattle.zb_running.proofs.lines.steps_keep_the_line.Goals as goal

pub returns-clause-given : goal.returns-clause-given
returns-clause-given c geo given lines old new script plus client call r low high none past g = given_at r new script plus client call low high none past g

pub returns-clause-step : goal.returns-clause-step
returns-clause-step c geo given lines old new script plus client call r low at s = step_at r new script plus client call low at s

pub returns-clause-between : goal.returns-clause-between
returns-clause-between c geo given lines old new script who r past t = past_still r new script who past t
