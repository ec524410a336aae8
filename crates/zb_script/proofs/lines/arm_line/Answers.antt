use Rattle.zb_script.proofs.LineForms.{no_arm-1, no_arm-2}
use Rattle.zb_script.proofs.lines.arm_line.Goals as goal

pub returns-in_err-disk : goal.returns-in_err-disk
returns-in_err-disk c = rw c.from_residual-in_err-disk.ensures (no_arm-1 c.args.geo.now c.in_ok-name.ensures c.in_err-disk.ensures)

pub returns-in_err-count : goal.returns-in_err-count
returns-in_err-count c = rw c.from_residual-in_err-count.ensures (no_arm-2 c.args.geo.now c.in_ok-name.ensures c.in_err-count.ensures)
