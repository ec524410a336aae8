use Rattle.zb_stripe_laws.proofs.NotEmpty.{kept_by, plan_stores}
use Rattle.zb_stripe_laws.proofs.planning.requests_leave_no_share_empty.Goals as goal

pub returns-clause-each : goal.returns-clause-each
returns-clause-each c maps asked stores none = kept_by maps asked stores none

pub returns-clause-plan : goal.returns-clause-plan
returns-clause-plan c n f out class flush i asked is = plan_stores n f out class flush.log flush.parts i asked is
