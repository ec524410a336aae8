use Rattle.std.proofs.Common.{ℕ, Some, sym, ap, ◌∙◌}
use Rattle.zb_types.specs.declared.ids.Ptr.{Ptr}
use Rattle.zb_types.proofs.KeyedLists.{IsRising-from_ordered}
use Rattle.zb_pointers.specs.Blocks.{IsAt}
use Rattle.zb_pointers.proofs.Places.{found_at, absent_at}
use Rattle.zb_pointers.proofs.blocks.BlockMap.get.Goals as goal

pub returns-in-Ok : goal.returns-in-Ok
returns-in-Ok c =
    let pairs = c.self.inside.pairs.items in
    let at : IsAt pairs c.args.number c.in-Ok.i = rw (ap (λ s. s.pairs) c.self.view_is) c.in-Ok.ensures.found in
    rw (← c.self.view_is) (ap (λ (e : ℕ × Ptr). Some e.1) c.index.ensures ∙ sym (found_at pairs c.args.number c.in-Ok.i c.index.result.now (IsRising-from_ordered pairs c.self.invariant) at))

pub returns-in-Err : goal.returns-in-Err
returns-in-Err c = sym (absent_at c.args.self.now.pairs c.args.number c.in-Err.field-0 c.in-Err.ensures.absent)
