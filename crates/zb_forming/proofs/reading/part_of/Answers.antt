use Rattle.std.proofs.Common.{ℕ, ◌+◌, ◌-◌, ◌%◌, ◌∙◌, ap, List, map}
use Rattle.std.specs.Prelude.{slice_index}
use Rattle.std.specs.List.{range_with_len}
use Rattle.zb_forming.specs.Drafts.{known}
use Rattle.zb_forming.proofs.Parts.{part-is}
use Rattle.zb_forming.proofs.reading.part_of.Goals as goal

pub returns : goal.returns
returns c =
    c.of.ensures ∙ c.in_ok-part.ensures
    ∙ ap (λ (xs : List ℕ). map (slice_index xs) (range_with_len (c.args.at % c.args.block) (c.args.at % c.args.block + (c.args.end - c.args.at) - c.args.at % c.args.block))) c.block_at-old.ensures
    ∙ part-is c.args.block (known c.args.fetched.now) c.args.found.now c.args.at c.args.end c.requires.some c.requires.order c.requires.one
