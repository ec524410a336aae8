use Rattle.zb_batch.proofs.Missing.{no_second_path}
use Rattle.zb_batch.proofs.paths.read_rename.Goals as goal

pub returns-in_default-2 : goal.returns-in_default-2
returns-in_default-2 c =
    let first = rw c.in-Some.is at c.in_ok-from.ensures in
    no_second_path c.args.bytes.now c.in-Some.from c.in-Some.rest.now first.0 first.1 (rw c.in_default-2.is at c.in_ok-to.ensures)
