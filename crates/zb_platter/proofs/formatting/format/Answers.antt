use Rattle.std.proofs.Common.{arith, subst, sym}
use Rattle.zb_platter.specs.Formatting.{AreZeros}
use Rattle.zb_platter.specs.Standing.{SeenPlatter, Stands}
use Rattle.zb_outside.proofs.Runs.{others_then}
use Rattle.zb_outside.proofs.Touching.{touches_less, touches_then}
use Rattle.zb_platter.proofs.Changed.{made, only_stops}
use Rattle.zb_platter.proofs.formatting.format.Goals as goal

pub returns-in_default-clause-others : goal.returns-in_default-clause-others
returns-in_default-clause-others g c told = others_then (c.in_ok-begin_with.ensures.others told) (c.write.ensures.others told)

pub returns-in_default-clause-touches : goal.returns-in_default-clause-touches
returns-in_default-clause-touches g c =
    touches_less g.B.Bay.counts g.B.Bay.follows (omega arith) (λ h. only_stops _ c.in_default.field-0 c.in_default.is c.write.ensures.foreign c.write.ensures.memory)
    (touches_then g.B.Bay.counts g.B.Bay.follows g.met.B.Bay.follows_then c.in_ok-begin_with.ensures.touches c.in_default.ensures.touches)

pub returns-clause-told : goal.returns-clause-told
returns-clause-told g c told tables is first text contents =
    let begins = c.in_ok-begin_with.ensures.told told in
    let zeros : AreZeros 69632 c.as_slice.result.now = subst (AreZeros 69632) (sym c.as_slice.ensures.value) c.in_ok-front.ensures.zeros in
    let written = c.in-Ok.ensures.told told begins.settled (omega (arith, begins.size, zeros.size)) in
    subst (λ (p : SeenPlatter). Stands p contents tables (g.B.Bay.meaning c.write.new.bay).now)
    (λ i. record { root = sym c.in-Ok.ensures.root i; journal = record { place = 0; number = 1 }; entries = sym c.new.ensures.items i })
    (made c.args.geo.now tables c.args.bytes.now c.as_slice.result.now is first text zeros begins written contents)

pub returns-clause-others : goal.returns-clause-others
returns-clause-others g c told = others_then (c.in_ok-begin_with.ensures.others told) (c.write.ensures.others told)

pub returns-clause-touches : goal.returns-clause-touches
returns-clause-touches g c =
    touches_less g.B.Bay.counts g.B.Bay.follows (omega arith) (λ h. h)
    (touches_then g.B.Bay.counts g.B.Bay.follows g.met.B.Bay.follows_then c.in_ok-begin_with.ensures.touches c.in-Ok.ensures.touches)
