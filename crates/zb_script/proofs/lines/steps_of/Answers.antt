use Rattle.zb_script.proofs.LineForms.{no_kind}
use Rattle.zb_script.proofs.lines.steps_of.Goals as goal

pub returns-in_err-kind : goal.returns-in_err-kind
returns-in_err-kind c = rw c.from_residual.ensures (no_kind c.args.actor c.in-Some.ensures.1 c.in_err-kind.ensures)
