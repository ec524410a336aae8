use Rattle.std.proofs.Common.{◌≡◌, ℕ, ◌∙◌, length, subst, arith}
use Rattle.zb_index.specs.Drafting.{IsDraftOf}
use Rattle.zb_index.proofs.Twinning.{says_at}
use Rattle.zb_index.proofs.build.settled.Goals as goal

pub loop-slot-preserved : goal.loop-slot-preserved
loop-slot-preserved c =
    let headers = c.args.headers.now in
    let slot = c.loop-slot.slot in
    let before = c.loop-slot.invariant in
    let settle = c.in_ok-settle.ensures in
    record {
      draft = λ slots shown all good. settle.draft (length headers) slots all good c.loop-slot-test.true (says_at headers slots shown slot _ c.loop-slot-test.true) (before.draft slots shown all good);
      order = settle.order before.order;
      count = omega (arith, settle.count, before.count);
      room = settle.room ∙ before.room;
      few = omega (arith, settle.few, before.few);
    }

pub returns-clause-draft : goal.returns-clause-draft
returns-clause-draft c slots shown all good =
    let draft = c.loop-slot.draft in
    let n = length c.args.headers.now in
    let e : c.loop-slot.slot ≡ n = omega (arith, c.loop-slot-test.false, c.loop-slot.auto.slot-end) in
    subst (λ (j : ℕ). IsDraftOf draft.spots.entries draft.free.slots draft.older slots n j) e (c.loop-slot.invariant.draft slots shown all good)
