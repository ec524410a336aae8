use Rattle.std.proofs.Common.{◌+◌, ◌-◌, ◌≤◌, sym, subst, ◌∙◌, arith}
use Rattle.zb_log.specs.Placing.{Laid}
use Rattle.zb_log.proofs.Steps.{meta_first, meta_filled}
use Rattle.zb_log.proofs.laying.Laying.fill.Goals as goal

pub make_ready-requires-clause-lasting : goal.make_ready-requires-clause-lasting
make_ready-requires-clause-lasting c =
    let rises = meta_first c.args.self.now c.args.len c.requires.some in
    let low = c.requires.lasting in
    omega arith

pub returns-clause-ok : goal.returns-clause-ok
returns-clause-ok c =
    let n = c.min-n.result in
    let h = c.in_ok-make_ready.ensures in
    let fits : c.self-2.inside.next.offset + 1 ≤ c.self-2.inside.room = subst (λ (z : Laid). z.next.offset + 1 ≤ z.room) (sym c.self-2.view_is) h.fits in
    let k = c.min-n.ensures in
    meta_filled c.args.self.now _ n (c.args.len - n) c.args.len (c.self-2.view_is ∙ h.ok) c.requires.some (omega arith) fits (omega arith)
