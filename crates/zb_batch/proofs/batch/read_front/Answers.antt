use Rattle.zb_batch.proofs.Whole.{no_header, no_ops, refused, accepted}
use Rattle.zb_batch.proofs.batch.read_front.Goals as goal

pub returns-in_default : goal.returns-in_default
returns-in_default c = no_header c.args.bytes.now c.in_default.ensures

pub returns-in_default-2 : goal.returns-in_default-2
returns-in_default-2 c = no_ops c.in-Some.header c.args.bytes.now c.in-Some.rest.now c.in-Some.ensures (rw c.in_default-2.is at c.in_ok-ops.ensures)

pub returns-then-not-agrees : goal.returns-then-not-agrees
returns-then-not-agrees c =
    refused c.in-Some.header c.in-Some-2.ops.items c.deref.result.now c.args.bytes.now c.in-Some.rest.now c.in-Some-2.behind.now c.agrees.result c.in-Some.ensures (rw c.in-Some-2.is at c.in_ok-ops.ensures)
    c.deref.ensures.value c.agrees.ensures.1 c.if-not-agrees.true

pub returns : goal.returns
returns c =
    accepted c.in-Some.header c.in-Some-2.ops.items c.deref.result.now c.of.result c.args.bytes.now c.in-Some.rest.now c.in-Some-2.behind.now c.agrees.result c.in-Some.ensures (rw c.in-Some-2.is at c.in_ok-ops.ensures)
    c.deref.ensures.value c.of.ensures c.agrees.ensures.0 c.if-not-agrees.false
