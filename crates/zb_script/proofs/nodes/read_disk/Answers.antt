use Rattle.std.proofs.Common.{sym, ◌∙◌}
use Rattle.zb_script.proofs.Names.{unnamed_disk, no_disk}
use Rattle.zb_script.proofs.nodes.read_disk.Goals as goal

pub returns-in_err-node : goal.returns-in_err-node
returns-in_err-node c = rw c.from_residual.ensures (unnamed_disk c.args.geo.now c.in_err-node.ensures)

pub returns-else-is_disk : goal.returns-else-is_disk
returns-else-is_disk c = no_disk c.args.geo.now c.in_ok-node.node c.in_ok-node.ensures.0 c.in_ok-node.ensures.1 (sym c.is_disk.ensures ∙ c.if-is_disk.false)
