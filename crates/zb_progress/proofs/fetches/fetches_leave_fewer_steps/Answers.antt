use Rattle.zb_progress.proofs.Arriving.{fetch-falls}
use Rattle.zb_progress.proofs.fetches.fetches_leave_fewer_steps.Goals as goal

pub returns : goal.returns
returns c slots w seen client basis at ptr plan response serving heard a known s is from hears = fetch-falls slots w a seen client known s basis at ptr plan is response serving heard from hears
