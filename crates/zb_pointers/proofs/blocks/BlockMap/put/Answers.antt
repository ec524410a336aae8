use Rattle.std.proofs.Common.{sym, ap, ◌∙◌, subst}
use Rattle.zb_types.specs.Keyed.{look, put}
use Rattle.zb_types.proofs.KeyedLists.{ordered-from_IsRising, IsRising-from_ordered, IsRising-put}
use Rattle.zb_pointers.specs.Blocks.{IsRising, IsAt, IsGap}
use Rattle.zb_pointers.proofs.Places.{set_puts, insert_puts, absent_at}
use Rattle.zb_pointers.proofs.Keeping.{on_err_always, not_there}
use Rattle.zb_pointers.proofs.blocks.BlockMap.put.Goals as goal

pub invariant_of-self : goal.invariant_of-self
invariant_of-self c =
    let pairs = c.self.inside.pairs.items in
    let rising = IsRising-from_ordered pairs c.self.invariant in
    let at : IsAt pairs c.args.number c.in-Ok.i = rw (ap (λ s. s.pairs) c.self.view_is) c.in-Ok.ensures.found in
    subst IsRising (sym (set_puts pairs c.args.number c.args.ptr c.in-Ok.i rising at)) (ordered-from_IsRising (put c.args.number c.args.ptr pairs) (IsRising-put c.args.number c.args.ptr pairs rising))

pub returns-in-Ok-clause-ok : goal.returns-in-Ok-clause-ok
returns-in-Ok-clause-ok c =
    let pairs = c.self.inside.pairs.items in
    let at : IsAt pairs c.args.number c.in-Ok.i = rw (ap (λ s. s.pairs) c.self.view_is) c.in-Ok.ensures.found in
    rw (← c.self.view_is) (set_puts pairs c.args.number c.args.ptr c.in-Ok.i (IsRising-from_ordered pairs c.self.invariant) at)

pub returns-in_err-insert-in-Err-clause-absent : goal.returns-in_err-insert-in-Err-clause-absent
returns-in_err-insert-in-Err-clause-absent c = on_err_always c.from_residual.result (absent_at c.args.self.now.pairs c.args.number c.in-Err.i c.in-Err.ensures.absent)

pub invariant_of-self-in-Err : goal.invariant_of-self-in-Err
invariant_of-self-in-Err c =
    let pairs = c.self.inside.pairs.items in
    let gap : IsGap pairs c.args.number c.in-Err.i = rw (ap (λ s. s.pairs) c.self.view_is) c.in-Err.ensures.absent in
    subst IsRising (sym (c.in_ok-insert-in-Err.ensures.items ∙ insert_puts pairs c.args.number c.args.ptr c.in-Err.i gap))
    (ordered-from_IsRising (put c.args.number c.args.ptr pairs) (IsRising-put c.args.number c.args.ptr pairs (IsRising-from_ordered pairs c.self.invariant)))

pub returns-in_ok-insert-in-Err-clause-ok : goal.returns-in_ok-insert-in-Err-clause-ok
returns-in_ok-insert-in-Err-clause-ok c =
    let pairs = c.self.inside.pairs.items in
    let gap : IsGap pairs c.args.number c.in-Err.i = rw (ap (λ s. s.pairs) c.self.view_is) c.in-Err.ensures.absent in
    rw (← c.self.view_is) (c.in_ok-insert-in-Err.ensures.items ∙ insert_puts pairs c.args.number c.args.ptr c.in-Err.i gap)

pub returns-in_ok-insert-in-Err-clause-present : goal.returns-in_ok-insert-in-Err-clause-present
returns-in_ok-insert-in-Err-clause-present c some = absurd (not_there (look c.args.number c.args.self.now.pairs) (absent_at c.args.self.now.pairs c.args.number c.in-Err.i c.in-Err.ensures.absent) some)
