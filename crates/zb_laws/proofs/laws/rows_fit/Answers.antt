use Rattle.zb_laws.proofs.laws.rows_fit.Goals as goal
use Rattle.zb_laws.proofs.Rows.{hello_fits, two_fit, armed_fit, dropped_fit, down_fit, eight_fit}

pub returns : goal.returns
returns c = record { hello = hello_fits; two = two_fit; armed = armed_fit; dropped = dropped_fit; down = down_fit; eight = eight_fit }
