use Rattle.zb_given.proofs.worked.rows_are_given.Goals as goal
use Rattle.zb_given.proofs.Rows.{two_lift, full_lift, late_lift}
use Rattle.zb_given.proofs.HelloRun.{hello_lift}
use Rattle.zb_given.proofs.LoopRun.{dropped_lift}

pub returns : goal.returns
returns c = record { hello = hello_lift; two = two_lift; dropped = dropped_lift; full = full_lift; late = late_lift }
