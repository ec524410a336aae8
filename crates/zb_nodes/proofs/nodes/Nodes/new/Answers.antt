use Rattle.std.proofs.Common.{◌+◌, refl, arith}
use Rattle.zb_nodes.proofs.Firsts.{first_nodes, next_small, one_more}
use Rattle.zb_nodes.proofs.nodes.Nodes.new.Goals as goal

pub attach-requires : goal.attach-requires
attach-requires c = next_small c.args.geo.now c.loop-i.manager c.loop-i.clients.items c.loop-i.i c.loop-i.invariant (omega (arith, c.loop-i-test.true))

pub loop-i-preserved : goal.loop-i-preserved
loop-i-preserved c =
    one_more c.args.geo.now c.loop-i.manager c.loop-i.clients.items c.loop-i.i c.loop-i.invariant c.attach.new.manager c.in_ok-log.log c.in_ok-log.ensures.log c.attach.ensures.sizes c.attach.ensures.holder
    (c.loop-i.i + 1) c.in_ok-new.field-0 c.push.new.self.items refl c.in_ok-log.ensures.tables c.in_ok-new.ensures c.in_ok-push.ensures.items

pub attach-requires-2 : goal.attach-requires-2
attach-requires-2 c = next_small c.args.geo.now c.loop-i.manager c.loop-i.clients.items c.loop-i.i c.loop-i.invariant c.loop-i.auto.i-end

pub returns-clause-first : goal.returns-clause-first
returns-clause-first c =
    rw c.manager-2.view_is (first_nodes c.args.geo.now c.loop-i.manager c.loop-i.clients.items c.loop-i.i c.loop-i.invariant c.attach-2.new.manager c.in_ok-attach.field-0 c.in_ok-attach.ensures.log
    c.attach-2.ensures.sizes c.attach-2.ensures.holder c.in_ok-new-2.field-0 (omega (arith, c.loop-i.auto.i-end, c.loop-i-test.false)) c.in_ok-attach.ensures.tables c.in_ok-new-2.ensures.slots c.in_ok-new-2.ensures.servers)
