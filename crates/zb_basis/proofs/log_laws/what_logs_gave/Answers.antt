use Rattle.std.proofs.Common.{refl}
use Rattle.zb_log.specs.Logs.{renewed}
use Rattle.zb_log.proofs.Parting.{none_given, given_on}
use Rattle.zb_basis.proofs.log_laws.what_logs_gave.Goals as goal

pub returns : goal.returns
returns c = record {
  begun = none_given;
  renewed = λ log last two. none_given (renewed log last) two refl refl;
  on = given_on;
}
