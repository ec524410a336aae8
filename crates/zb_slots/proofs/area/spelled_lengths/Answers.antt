use Rattle.std.proofs.Common.{◌≡◌, ◌+◌, ◌*◌, ℕ, List, length, slice_index, slice_index_or, inr, below_more, ap, ◌∙◌, arith}
use Rattle.zb_outside.specs.Ranges.{zeros}
use Rattle.zb_slots.specs.Slots.{four_at}
use Rattle.zb_slots.proofs.Numbers.{numbers_are, length-four_set, four_elsewhere, four_there, four_kept, digits}
use Rattle.zb_slots.proofs.area.spelled_lengths.Goals as goal

pub loop-i-init : goal.loop-i-init
loop-i-init c = record { size = omega arith; spelled = λ k lt. absurd (omega arith); zeros = λ k le. zeros 64 k }

pub loop-i-preserved : goal.loop-i-preserved
loop-i-preserved c =
    let h = c.loop-i.invariant in
    let four = c.to_be_bytes-four.result in
    let lt = c.loop-i-test.true in
    let number : ℕ = slice_index c.args.lengths.now c.loop-i.i in
    record {
      size = length-four_set c.loop-i.head (4 * c.loop-i.i) _ _ _ _ ∙ h.size;
      spelled = below_more _ _
          (λ k less. four_kept c.loop-i.head (4 * c.loop-i.i) _ _ _ _ (4 * k) (omega arith) ∙ h.spelled k less)
          (four_there c.loop-i.head (4 * c.loop-i.i) _ _ _ _ (omega (arith, h.size, lt, c.requires))
          ∙ ap (λ (l : List ℕ). ((slice_index_or l 0 0 * 256 + slice_index_or l 1 0) * 256 + slice_index_or l 2 0) * 256 + slice_index_or l 3 0) c.to_be_bytes-four.ensures
          ∙ digits number (omega (arith, c.type_inv.lengths c.loop-i.i)));
      zeros = λ k le. four_elsewhere c.loop-i.head (4 * c.loop-i.i) _ _ _ _ k (inr (omega arith)) ∙ h.zeros k (omega arith);
    }

pub returns-clause-lengths : goal.returns-clause-lengths
returns-clause-lengths c =
    let all : c.loop-i.i ≡ length c.args.lengths.now = omega (arith, c.loop-i-test.false, c.loop-i.auto.i-end) in
    numbers_are (slice_index c.loop-i.head) c.args.lengths.now 0 (λ k lt. ap (four_at (slice_index c.loop-i.head)) (omega arith) ∙ c.loop-i.invariant.spelled k (omega (arith, all)))
