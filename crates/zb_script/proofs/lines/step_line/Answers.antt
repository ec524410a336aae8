use Rattle.zb_script.proofs.LineForms.{no_step, step_found}
use Rattle.zb_script.proofs.lines.step_line.Goals as goal

pub returns-in_err-actor : goal.returns-in_err-actor
returns-in_err-actor c = rw c.from_residual-in_err-actor.ensures (no_step c.args.geo.now c.in_ok-name.ensures c.in_err-actor.ensures)

pub returns : goal.returns
returns c =
    step_found c.args.geo.now c.in_ok-actor.actor c.in_ok-name.ensures c.in_ok-actor.ensures.0 c.in_ok-actor.ensures.1 c.steps_of.result c.steps_of.ensures
