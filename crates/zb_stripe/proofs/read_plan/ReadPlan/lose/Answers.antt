use Rattle.std.proofs.Common.{◌<◌, true, false, rules, sym, subst, ◌∙◌, arith}
use Rattle.std.proofs.lemmas.Grind.{get_or-set_at}
use Rattle.zb_stripe.specs.Reading.{Reading, read_of, pos_of, end_of, index_of}
use Rattle.zb_stripe.proofs.Ending.{index_below}
use Rattle.zb_stripe.proofs.read_plan.ReadPlan.lose.Goals as goal

pub invariant_of-self : goal.invariant_of-self
invariant_of-self c =
    let inside = c.self.inside in
    let r = read_of inside.source inside.lost.items inside.progress in
    let low = inside.source.geo.limits.fragment_low in
    let some : 0 < inside.source.geo.fragment = omega arith in
    let below = subst (λ (z : Reading). pos_of z < end_of z) (sym c.self.view_is) c.requires in
    let own = index_below r inside.source.room some below in
    let long = c.self.invariant.3 in
    let at = c.from.ensures ∙ c.range-own.ensures.index in
    (search rules, search rules, get_or-set_at inside.lost.items c.from.result (index_of r) true false (sym at) (omega arith), search rules)
