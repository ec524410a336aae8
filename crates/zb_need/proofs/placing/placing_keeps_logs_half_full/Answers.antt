use Rattle.zb_need.proofs.Turning.{placed-half, placed-within}
use Rattle.zb_need.proofs.placing.placing_keeps_logs_half_full.Goals as goal

pub returns-clause-half : goal.returns-clause-half
returns-clause-half c seen meta blocks placed bytes is half = placed-half seen meta blocks placed bytes is half

pub returns-clause-within : goal.returns-clause-within
returns-clause-within c seen meta blocks placed some fits is within = placed-within seen meta blocks placed some fits is within
