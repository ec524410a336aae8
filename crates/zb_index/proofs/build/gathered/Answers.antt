use Rattle.std.proofs.Common.{◌≡◌, ℕ, length, subst, arith}
use Rattle.zb_index.specs.Gathering.{AreGathered}
use Rattle.zb_index.proofs.Twinning.{says_at}
use Rattle.zb_index.proofs.build.gathered.Goals as goal

pub loop-slot-preserved : goal.loop-slot-preserved
loop-slot-preserved c slots shown =
    c.in_ok-enter_slot.ensures slots (says_at c.args.headers.now slots shown c.loop-slot.slot _ c.loop-slot-test.true) (c.loop-slot.invariant slots shown)

pub returns : goal.returns
returns c slots shown =
    let e : c.loop-slot.slot ≡ length c.args.headers.now = omega (arith, c.loop-slot-test.false, c.loop-slot.auto.slot-end) in
    subst (λ (n : ℕ). AreGathered n slots c.loop-slot.names.entries) e (c.loop-slot.invariant slots shown)
