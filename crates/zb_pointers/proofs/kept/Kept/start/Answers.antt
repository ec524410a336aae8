use Rattle.std.proofs.Common.{ℕ, List, Some, ap, ◌∙◌}
use Rattle.zb_types.specs.declared.ids.Ptr.{Ptr}
use Rattle.zb_pointers.proofs.Places.{none_below}
use Rattle.zb_pointers.proofs.kept.Kept.start.Goals as goal

pub returns-clause-file : goal.returns-clause-file
returns-clause-file c =
    ap (λ (blocks : List (ℕ × Ptr)). Some (record { version = c.args.head.version; length = c.args.head.length; blocks = blocks }))
    (c.keep_below.ensures.kept ∙ none_below c.args.self.now.blocks.pairs)
