use Rattle.zb_tables.proofs.Logs.{last_former, last_pieces, last_one, last_is}
use Rattle.zb_tables.proofs.log_laws.last_stripe_is_greatest.Goals as goal

pub returns-clause-pieces : goal.returns-clause-pieces
returns-clause-pieces c last pieces n e = last_pieces pieces n last e

pub returns-clause-former : goal.returns-clause-former
returns-clause-former c stripe pieces n e = last_former pieces n stripe e

pub returns-clause-one : goal.returns-clause-one
returns-clause-one c last pieces n e = last_one pieces n last e

pub returns-clause-some : goal.returns-clause-some
returns-clause-some c last pieces some = last_is last pieces some
