use Rattle.zb_running.proofs.Reported.{first_report}
use Rattle.zb_running.proofs.reports.reports_begin.Goals as goal

pub returns : goal.returns
returns c geo course first = first_report geo course first
