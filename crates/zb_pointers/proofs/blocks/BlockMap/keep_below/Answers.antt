use Rattle.std.proofs.Common.{◌≡◌, take, sym, ap, ◌∙◌, subst}
use Rattle.zb_types.proofs.KeyedLists.{ordered-from_IsRising, IsRising-from_ordered}
use Rattle.zb_tables.specs.Fold.{below}
use Rattle.zb_pointers.specs.Blocks.{IsRising}
use Rattle.zb_pointers.proofs.Places.{rising_below, take_keeps}
use Rattle.zb_pointers.proofs.blocks.BlockMap.keep_below.Goals as goal

pub returns-clause-kept : goal.returns-clause-kept
returns-clause-kept c =
    c.truncate.ensures.items ∙ ap (take c.place-first.result) (ap (λ s. s.pairs) c.self.view_is)
    ∙ take_keeps c.args.self.now.pairs c.args.number c.place-first.result c.place-first.ensures

pub invariant_of-self : goal.invariant_of-self
invariant_of-self c =
    let pairs = c.self.inside.pairs.items in
    let kept : c.truncate.new.self.items ≡ below c.args.number pairs = returns-clause-kept c ∙ ap (λ s. below c.args.number s.pairs) (sym c.self.view_is) in
    subst IsRising (sym kept) (ordered-from_IsRising (below c.args.number pairs) (rising_below c.args.number pairs (IsRising-from_ordered pairs c.self.invariant)))
