use Rattle.std.proofs.Common.{sym, ◌∙◌}
use Rattle.zb_script.proofs.Names.{unnamed_member, no_member}
use Rattle.zb_script.proofs.nodes.read_member.Goals as goal

pub returns-in_err-node : goal.returns-in_err-node
returns-in_err-node c = rw c.from_residual.ensures (unnamed_member c.args.geo.now c.in_err-node.ensures)

pub returns-else-is_node : goal.returns-else-is_node
returns-else-is_node c = no_member c.args.geo.now c.in_ok-node.node c.in_ok-node.ensures.0 c.in_ok-node.ensures.1 (sym c.is_node.ensures ∙ c.if-is_node.false)
