use Rattle.std.proofs.Common.{length, ap, ◌∙◌, arith}
use Rattle.std.specs.List.{flat_map}
use Rattle.std.proofs.lemmas.List.{take_all}
use Rattle.zb_types.specs.declared.ids.LogId.{LogId}
use Rattle.zb_stripe.specs.Writing.{part_requests}
use Rattle.zb_stripe.proofs.Making.{plan_more, part_at, fresh_long}
use Rattle.zb_stripe.proofs.write_plan.WritePlan.new.Goals as goal

pub loop-part-preserved : goal.loop-part-preserved
loop-part-preserved c flush is =
    let n = c.args.geo.now.servers in
    let f = c.args.geo.now.fragment in
    let p = part_at n f flush.parts c.args.fresh.now.parts c.loop-part.part-index c.part-item.result is.parts
    (rw c.slice-part-items.ensures at c.loop-part-test.true) (rw c.slice-part-items.ensures at c.part-item.is) in
    plan_more (part_requests n f c.args.out c.args.class c.args.fresh.now.log) flush.parts c.loop-part.part-index p.part c.loop-part.requests.items c.push_part.new.requests.items
    p.below p.at (c.loop-part.invariant flush is) (c.in_ok-push_part.ensures p.part p.is)

pub returns : goal.returns
returns c flush is =
    let n = c.args.geo.now.servers in
    let f = c.args.geo.now.fragment in
    let end = c.loop-part-test.false in
    let long = fresh_long n f flush.parts c.args.fresh.now.parts is.parts in
    let same = ap length c.slice-part-items.ensures in
    c.loop-part.invariant flush is
    ∙ ap (flat_map (part_requests n f c.args.out c.args.class c.args.fresh.now.log)) (take_all c.loop-part.part-index flush.parts (omega arith))
    ∙ ap (λ (z : LogId). flat_map (part_requests n f c.args.out c.args.class z) flush.parts) is.log
