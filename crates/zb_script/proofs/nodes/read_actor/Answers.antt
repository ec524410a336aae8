use Rattle.std.proofs.Common.{sym, ◌∙◌}
use Rattle.zb_script.proofs.Names.{unnamed_actor, no_actor}
use Rattle.zb_script.proofs.nodes.read_actor.Goals as goal

pub returns-in_err-node : goal.returns-in_err-node
returns-in_err-node c = rw c.from_residual.ensures (unnamed_actor c.args.geo.now c.in_err-node.ensures)

pub returns-else-is_actor : goal.returns-else-is_actor
returns-else-is_actor c = no_actor c.args.geo.now c.in_ok-node.node c.in_ok-node.ensures.0 c.in_ok-node.ensures.1 (sym c.is_actor.ensures ∙ c.if-is_actor.false)
