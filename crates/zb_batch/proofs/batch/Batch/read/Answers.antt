use Rattle.std.proofs.Common.{Some, None}
use Rattle.zb_batch.proofs.Whole.{left_behind, read_again, without_rest}
use Rattle.zb_batch.proofs.batch.Batch.read.Goals as goal

pub returns-in-Some-clause-found : goal.returns-in-Some-clause-found
returns-in-Some-clause-found c = left_behind c.in-Some.batch c.args.bytes.now c.in-Some.field-0-1.now (rw c.in-Some.is at c.in_ok-batch.ensures)

pub returns-in-Some-clause-again : goal.returns-in-Some-clause-again
returns-in-Some-clause-again c batch rest h e =
    without_rest _ _ (read_again c.args.bytes.now (Some (c.in-Some.batch, c.in-Some.field-0-1.now)) (rw c.in-Some.is at c.in_ok-batch.ensures) batch rest h e)

pub returns-in-None-clause-again : goal.returns-in-None-clause-again
returns-in-None-clause-again c batch rest h e =
    without_rest None _ (read_again c.args.bytes.now None (rw c.in-None.is at c.in_ok-batch.ensures) batch rest h e)
