use Rattle.std.proofs.Common.{rules, ◌≡◌, ℕ, ◌*◌, min, List, slice_index, take, replicate, length-take, inl, inr, subst, ◌∙◌, ap, arith}
use Rattle.std.proofs.lemmas.List.{get_or-take, get_or_past}
use Rattle.std.proofs.lemmas.Bool.{cases_lt}
use Rattle.zb_outside.specs.Ranges.{zeros}
use Rattle.zb_slot_map.specs.Zeros.{AreZeros}
use Rattle.zb_slot_map.proofs.Wiping.{zeros_failed, zeros_written, went_on, more_zeros}
use Rattle.zb_slot_map.proofs.wipe.write_zeros.Goals as goal

pub returns-in_err-write_at-clause-told : goal.returns-in_err-write_at-clause-told
returns-in_err-write_at-clause-told g c told empty =
    zeros_failed _ c.from_residual.ensures.0 (went_on (c.loop-i.invariant.told told empty).0 (c.write_at.ensures.told told))

front_zeros : (n m i : ℕ) → slice_index (take n (replicate {A = ℕ} m 0)) i ≡ 0
front_zeros n m i = elim (cases_lt i n) [
  | inl lt ↦ get_or-take n (replicate m 0) i 0 lt ∙ zeros m i
  | inr ge ↦ get_or_past (take n (replicate m 0)) i 0 (omega (arith, length-take n (replicate {A = ℕ} m 0)))
]

pub loop-i-preserved : goal.loop-i-preserved
loop-i-preserved g c =
    let h = c.loop-i.invariant in
    let at : min c.args.size (65536 * c.loop-i.i) ≡ 65536 * c.loop-i.i = omega (arith, c.loop-i-test.true, c.div_ceil-i-end.ensures) in
    record {
      told = λ told empty.
          let so_far = h.told told empty in (
            went_on so_far.0 (c.write_at.ensures.told told),
            more_zeros _ _ _ _ (subst (λ (n : ℕ). AreZeros n ((g.B.Bay.meaning c.loop-i.bay).now.seen c.args.platter)) at so_far.1)
                (λ i. ap (λ (l : List ℕ). slice_index l i) c.split_at.ensures.front ∙ front_zeros c.min-len.result 65536 i) (c.in_ok-write_at.ensures.told told).written _
                (omega (arith, at, c.split_at.ensures.front_len, c.min-len.ensures)),
          );
      touches = search rules;
    }

pub returns-clause-told : goal.returns-clause-told
returns-clause-told g c told empty =
    let h = c.loop-i.invariant.told told empty in
    let all : min c.args.size (65536 * c.loop-i.i) ≡ c.args.size = omega (arith, c.loop-i-test.false, c.div_ceil-i-end.ensures) in
    zeros_written _ h.0 (subst (λ (n : ℕ). AreZeros n ((g.B.Bay.meaning c.loop-i.bay).now.seen c.args.platter)) all h.1)
