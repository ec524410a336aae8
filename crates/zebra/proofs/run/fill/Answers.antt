use Rattle.std.proofs.Common.{rules, ◌∙◌, ◌≡◌, arith}
use Rattle.zebra.specs.Moves.{tape, IsTaken}
use Rattle.zebra.proofs.Taking.{IsRead-take, IsTaken-take}
use Rattle.zebra.proofs.run.fill.Goals as goal

pub takes-preserved : goal.takes-preserved
takes-preserved g c =
    let h = c.takes.invariant in (
      c.take-taken.ensures.course ∙ h.0,
      c.take-taken.ensures.geo ∙ h.1,
      λ tells start front read. IsRead-take c.take-taken.new.buf c.take-taken.result _ _ _ _ c.takes.source c.accept.new.self (c.take-taken.ensures.told tells) (search rules) c.in_ok-accept.ensures.ok (λ wrong. absurd (let clash : _ ≡ _ = c.in_ok-accept.ensures.fault wrong in cc)) start front (h.2 tells start front read),
      λ tells. (c.take-taken.ensures.told tells).printed ∙ h.3 tells,
      omega (arith, h.4, c.take-taken.ensures.touches.read_faults),
      c.take-taken.ensures.touches.write_faults ∙ h.5,
    )

pub returns-in_err-accept-clause-told : goal.returns-in_err-accept-clause-told
returns-in_err-accept-clause-told g c tells start front read =
    let taken : IsTaken start front (tape (g.O.Bay.counts c.take-taken.new.self.out).streams (g.O.Bay.meaning c.take-taken.new.self.out)) =
    IsTaken-take c.take-taken.new.buf c.take-taken.result _ _ _ _ c.takes.source (c.take-taken.ensures.told tells) start front (c.takes.invariant.2 tells start front read) in
    search rules
