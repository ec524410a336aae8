use Rattle.zb_script.proofs.Decimals.{no_field}
use Rattle.zb_script.proofs.numbers.field.Goals as goal

pub returns-in_err-number : goal.returns-in_err-number
returns-in_err-number c = rw c.from_residual-in_err-number.ensures (no_field c.in_ok-word.ensures c.in_err-number.ensures)
