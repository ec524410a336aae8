use Rattle.zb_replay.proofs.Taken.{batch_found}
use Rattle.zb_replay.proofs.taking.batch_in.Goals as goal

pub returns-clause-is : goal.returns-clause-is
returns-clause-is c = batch_found c.in_ok-batch.field-0 c.in-Some.batch c.args.bytes.now c.args.log c.args.number c.in-Some.is c.in_ok-batch.ensures.found c.ne.result c.ne.ensures c.if-ne.false c.if-batch-number.false
