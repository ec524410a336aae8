use Rattle.std.proofs.Common.{◌+◌, ℕ, List, arith}
use Rattle.std.proofs.lemmas.Result.{IfOk-weaker}
use Rattle.zb_slots.specs.Filling.{body_of}
use Rattle.zb_slots.proofs.Bodies.{too_long, stands_there}
use Rattle.zb_slots.proofs.same.stands_at.Goals as goal

pub returns-then-from-bytes-clause-stands : goal.returns-then-from-bytes-clause-stands
returns-then-from-bytes-clause-stands g c told stored full size =
    too_long (body_of stored.fragment) c.args.place c.args.bytes.now (omega (arith, size, c.if-from-bytes.true, c.from.ensures, c.from-2.ensures))

pub returns-clause-stands : goal.returns-clause-stands
returns-clause-stands g c told =
    let image : List ℕ = (g.B.Bay.meaning c.args.bay.now).now.seen c.args.platter in
    let at : ℕ = c.place_of.result + 192 + c.from-3.result in
    IfOk-weaker c.are_there.result _ _
    (λ x iff stored full size. stands_there c.args.geo.now image c.args.slot c.args.place at stored (omega (arith, c.place_of.ensures.place, c.from-3.ensures)) full c.args.bytes.now x
    (omega (arith, size, c.if-from-bytes.false, c.from.ensures, c.from-2.ensures)) iff)
    (c.are_there.ensures.same told)
