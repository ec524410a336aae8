use Rattle.std.proofs.Common.{◌≡◌, ◌+◌, List, get_or, set, sym, ap, ◌∙◌, subst, refl, arith}
use Rattle.zb_log_tables.specs.declared.log.Log.{Log}
use Rattle.zb_log_tables.specs.Logs.{marked_log, IsLast}
use Rattle.zb_log_tables.proofs.Mapping.{first_mapped, mapped_next, mapped_all, next_same}
use Rattle.zb_log_tables.proofs.logs.mark_all.Goals as goal

pub loop-log-init : goal.loop-log-init
loop-log-init c = refl

pub loop-log-preserved : goal.loop-log-preserved
loop-log-preserved c =
    let f = marked_log in
    let i = c.loop-log.log-index in
    let xs = c.args.logs.now in
    let x = c.mark_one.new.log in
    let inv = c.loop-log.invariant in
    subst (λ (ls : List Log). set ls i x ≡ first_mapped f (i + 1) xs) (sym inv)
    (mapped_next f i xs x c.log-item.result c.loop-log-test.true (c.mark_one.ensures ∙ ap (λ (ls : List Log). f (get_or ls i c.log-item.result)) inv))

pub returns : goal.returns
returns c = c.loop-log.invariant ∙ mapped_all marked_log c.loop-log.log-index c.args.logs.now (let a = c.loop-log-test.false in let b = c.loop-log.auto.log-index-end in omega arith)

pub mark_one-requires : goal.mark_one-requires
mark_one-requires c =
    let i = c.loop-log.log-index in
    let d = c.log-item.result in
    subst (λ (l : Log). IsLast l.last)
    (sym (ap (λ (ls : List Log). get_or ls i d) c.loop-log.invariant ∙ next_same marked_log i c.args.logs.now d))
    (c.requires i d c.loop-log-test.true)
