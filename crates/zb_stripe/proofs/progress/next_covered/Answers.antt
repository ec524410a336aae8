use Rattle.std.proofs.Common.{◌≡◌, ◌<◌, ◌-◌, ◌≤◌, ℕ, get_or, subst, sym, ◌∙◌, arith}
use Rattle.zb_stripe.specs.Reading.{Reading, reading}
use Rattle.zb_stripe.proofs.Seeking.{skips_own, skips_short}
use Rattle.zb_stripe.proofs.progress.next_covered.Goals as goal
use Rattle.zb_stripe.proofs.progress.next_covered.Goals.{else-k-own-via-then-k-own+else-lengths-from, else-k-own-via-else-k-own}

pub loop-k-preserved : goal.loop-k-preserved
loop-k-preserved c lost sum =
    let r : Reading = reading c.args.source.now lost c.args.read.now in
    let lengths = c.slice-lengths.result.now in
    let below : c.loop-k.k < c.args.source.now.geo.servers - 1 = omega (arith, c.loop-k-test.true, c.parity-k-end.ensures) in
    let own = c.range-next.ensures.index in
    let place = c.range-next.ensures.place in
    elim c.else-k-own.branch [
      | else-k-own-via-then-k-own+else-lengths-from w ↦
          let short : get_or lengths c.loop-k.k 0 ≤ c.range-next.result.place = rw w.from.ensures at w.if-lengths-from.false in
          skips_short r lengths sum c.loop-k.k below (λ e. w.if-k-own.true (e ∙ sym own)) (subst (λ (p : ℕ). get_or lengths c.loop-k.k 0 ≤ p) place short) ∙ c.loop-k.invariant lost sum
      | else-k-own-via-else-k-own w ↦
          let is : c.loop-k.k ≡ c.range-next.result.index = omega arith in
          skips_own r lengths sum c.loop-k.k below (is ∙ own) ∙ c.loop-k.invariant lost sum
    ]
