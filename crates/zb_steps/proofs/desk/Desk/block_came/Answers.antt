use Rattle.std.proofs.Common.{sym}
use Rattle.zb_steps.proofs.Goings.{block_gives}
use Rattle.zb_steps.proofs.desk.Desk.block_came.Goals as goal

pub returns-in-Ok-clause-ok : goal.returns-in-Ok-clause-ok
returns-in-Ok-clause-ok c =
    let now = rw c.in-Ok.is at c.ahead_with-basis.ensures.put in
    let with = rw c.in-Ok.is at c.ahead_with-basis.ensures.basis in
    let ahead = rw c.in-Ok.is at c.ahead_with-basis.ensures.ok in
    block_gives c.args.self.now _ c.args.read.basis _ c.args.kept.now c.args.queue.now.items c.args.read.at c.args.read.ptr c.args.bytes _ (record { desk = c.go_on.new.self; next = c.go_on.result })
    (sym c.if-not-is_whole.ensures) now with ahead c.go_on.ensures
