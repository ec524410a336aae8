use Rattle.std.proofs.Common.{refl}
use Rattle.zb_client_laws.specs.Effects.{after_commit}
use Rattle.zb_progress.proofs.Falling.{others-add}
use Rattle.zb_progress.proofs.beside.others_leave_steps.Goals as goal

pub returns-clause-request : goal.returns-clause-request
returns-clause-request c w asked client = refl

pub returns-clause-commit : goal.returns-clause-commit
returns-clause-commit c w flush number pieces after tree client = others-add w.z w.tables (after_commit w flush number pieces after tree).tables client
