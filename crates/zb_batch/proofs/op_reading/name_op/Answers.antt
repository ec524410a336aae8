use Rattle.zb_batch.proofs.Ops.{no_name}
use Rattle.zb_batch.proofs.op_reading.name_op.Goals as goal

pub returns-in_default : goal.returns-in_default
returns-in_default c = no_name c.args.kind c.args.call c.args.bytes.now c.requires.from_one c.requires.to_four (rw c.in_default.is at c.in_ok-what.ensures)
