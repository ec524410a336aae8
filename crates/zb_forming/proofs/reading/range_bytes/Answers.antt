use Rattle.std.proofs.Common.{◌++◌, ◌∙◌, arith}
use Rattle.zb_forming.specs.Drafts.{known}
use Rattle.zb_forming.proofs.Parts.{part-more}
use Rattle.zb_forming.proofs.reading.range_bytes.Goals as goal

pub loop-at-preserved : goal.loop-at-preserved
loop-at-preserved c = (
  c.in_ok-append.ensures.items ∙ (λ i. c.loop-at.invariant.0 i ++ (c.into_items-part.ensures ∙ c.in_ok-part_of.ensures) i)
      ∙ part-more c.args.block (known c.args.fetched.now) c.args.found.now c.args.from c.loop-at.at c.part_end-end.result c.loop-at.invariant.1 (omega (arith, c.part_end-end.ensures.further)),
  omega (arith, c.loop-at.invariant.1, c.part_end-end.ensures.further),
  omega (arith, c.part_end-end.ensures.within),
)
