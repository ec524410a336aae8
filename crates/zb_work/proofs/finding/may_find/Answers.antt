use Rattle.std.proofs.Common.{arith}
use Rattle.zb_work.proofs.Rising.{rise_pairs, pairs_rise}
use Rattle.zb_work.proofs.finding.may_find.Goals as goal

pub returns-then-are_found_blocks-clause-fits : goal.returns-then-are_found_blocks-clause-fits
returns-then-are_found_blocks-clause-fits c = λ t.
    let blocks = rw c.slice-blocks.ensures at (c.are_found_blocks.ensures.fits c.if-are_found_blocks.true) in
    let rises = rw c.slice-blocks.ensures at (c.rise.ensures.fits t) in
    record {
      version = omega arith;
      blocks = blocks;
      rise = rise_pairs 0 _ rises;
      long = omega arith;
    }

pub returns-then-are_found_blocks-clause-differs : goal.returns-then-are_found_blocks-clause-differs
returns-then-are_found_blocks-clause-differs c = λ t m. c.rise.ensures.differs t (rw c.slice-blocks.ensures (pairs_rise _ m.rise))
