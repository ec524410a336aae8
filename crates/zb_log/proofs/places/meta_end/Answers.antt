use Rattle.std.proofs.Common.{◌-◌, ◌<◌, ◌∙◌, ap, arith}
use Rattle.zb_log.specs.declared.places.Place.{Place}
use Rattle.zb_log.specs.Placing.{meta_end, last_stripe}
use Rattle.zb_log.proofs.Ends.{meta_first, meta_filled}
use Rattle.zb_log.proofs.places.meta_end.Goals as goal

pub returns-in_err-there-clause-none : goal.returns-in_err-there-clause-none
returns-in_err-there-clause-none c =
    let none = c.in_err-there.ensures.none in
    let rises = meta_first c.args.room c.loop-left.at c.loop-left.left (omega arith) in
    let end = ap (λ (z : Place). z.stripe) c.loop-left.invariant.end in
    let above : last_stripe < (meta_end c.args.room c.args.from c.args.len).stripe = omega arith in
    rw c.from_residual.ensures above

pub loop-left-preserved : goal.loop-left-preserved
loop-left-preserved c =
    let n = c.min-n.result in
    let k = c.min-n.ensures in
    let h = c.in_ok-there.ensures in
    record {
      end = meta_filled c.args.room c.loop-left.at c.in_ok-there.there n (c.loop-left.left - n) c.loop-left.left h.found (omega arith) (omega arith) h.room (omega arith) ∙ c.loop-left.invariant.end;
      within = omega arith;
      lasting = h.last;
    }
