use Rattle.std.proofs.Common.{◌≡◌, ◌<◌, refl, subst, sym, ap, arith}
use Rattle.std.specs.Prelude.{Result, Ok, Err, IsErrAnd, IsErrOf}
use Rattle.zb_log.specs.declared.placed.Placed.{Placed}
use Rattle.zb_log.specs.declared.placed.LogFault.{LogFault}
use Rattle.zb_log.specs.declared.placed.LogFault.TheVariants.{NoMemory, Worn}
use Rattle.zb_log.specs.Placing.{AreBlocks, last_stripe}
use Rattle.zb_log.specs.Logs.{SeenLog, IsSound, IsPlaced, laid_next}
use Rattle.zb_log.proofs.Ends.{ends_below, ends_above}
use Rattle.zb_log.proofs.Placings.{one_a_stripe, gives_pieces, blocks_lie, pieces_next, ptrs_lie}
use Rattle.zb_log.proofs.Few.{lies_in_few}
use Rattle.zb_log.proofs.log.LogBuf.place.Goals as goal

not_worn : (r : Result Placed LogFault) → IsErrAnd r (λ fault. fault ≡ NoMemory) → IsErrOf r Worn → ⊥
not_worn (Ok placed) e is = absurd e
not_worn (Err fault) e is = cc

pub returns-then-goes_above-clause-worn : goal.returns-then-goes_above-clause-worn
returns-then-goes_above-clause-worn c =
    let above = ends_above _ c.self.invariant c.args.meta c.args.blocks.now c.if-goes_above.ensures in
    (λ is. subst (λ (z : SeenLog). last_stripe < (laid_next z c.args.meta c.args.blocks.now).next.stripe) c.self.view_is above, λ high. refl)

pub lay-requires-clause-lasting : goal.lay-requires-clause-lasting
lay-requires-clause-lasting c = ends_below _ c.self.invariant c.args.meta c.args.blocks.now c.if-goes_above.ensures

pub returns-in_err-lay-clause-worn : goal.returns-in_err-lay-clause-worn
returns-in_err-lay-clause-worn c =
    let low = ends_below _ c.self.invariant c.args.meta c.args.blocks.now c.if-goes_above.ensures in
    let same = ap (λ (z : SeenLog). (laid_next z c.args.meta c.args.blocks.now).next.stripe) c.self.view_is in
    (λ is. absurd (not_worn c.from_residual.result c.from_residual.ensures.1 is), λ high. absurd (omega arith))

pub returns : goal.returns
returns c =
    let seen = c.args.self.now in
    let meta = c.args.meta in
    let blocks = c.args.blocks.now in
    let placed = c.in_ok-lay.field-0 in
    let h = c.in_ok-lay.ensures in
    let low = ends_below _ c.self.invariant meta blocks c.if-goes_above.ensures in
    let same = ap (λ (z : SeenLog). (laid_next z meta blocks).next.stripe) c.self.view_is in
    let s = subst IsSound c.self.view_is c.self.invariant in
    let P = λ (z : SeenLog). IsPlaced z meta blocks placed in
    let p = subst P c.self.view_is (record {
      lens = subst (λ (z : SeenLog). AreBlocks z.block blocks) (sym c.self.view_is) c.requires;
      pieces = h.pieces;
      ptrs = h.ptrs;
      next = h.next;
      lasting = rw h.next low;
    }) in
    record {
      exact = p;
      order = gives_pieces seen placed.next meta blocks placed.pieces s p.lens p.pieces p.next;
      one_a_stripe = one_a_stripe seen meta blocks placed.pieces s p.lens p.pieces;
      few = lies_in_few seen meta blocks placed s p.lens p.pieces p.next;
      begin = pieces_next seen meta blocks placed.pieces s p.lens p.pieces;
      blocks = blocks_lie seen placed.next meta blocks placed.ptrs s p.lens p.ptrs p.next;
      ptrs = ptrs_lie seen meta blocks placed.pieces placed.ptrs s p.lens p.pieces p.ptrs;
      worn = (λ is. cc, λ high. absurd (omega arith));
    }
