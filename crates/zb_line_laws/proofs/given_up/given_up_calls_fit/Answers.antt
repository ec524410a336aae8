use Rattle.zb_line_laws.proofs.Answering.{given_up_finish, given_up_read, given_up_update}
use Rattle.zb_line_laws.proofs.given_up.given_up_calls_fit.Goals as goal

pub returns-clause-update : goal.returns-clause-update
returns-clause-update c given lines client task number cause fit h is aim = given_up_update given lines client task number cause fit h is aim

pub returns-clause-read : goal.returns-clause-read
returns-clause-read c given lines client task read rest cause fit h is aim queue reads = given_up_read given lines client task read rest cause fit h is aim queue reads

pub returns-clause-finish : goal.returns-clause-finish
returns-clause-finish c given lines client task cause fit h is aim settled = given_up_finish given lines client task cause fit h is aim settled
