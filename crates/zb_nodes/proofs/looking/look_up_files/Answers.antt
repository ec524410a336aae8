use Rattle.std.proofs.Common.{◌≡◌, ℕ, true, cond, Some, None, sym, ◌∙◌, subst}
use Rattle.std.proofs.lemmas.Result.{err_from_is_err_and}
use Rattle.zb_manager.specs.Seen.{held_by}
use Rattle.zb_turns.specs.Turns.{other_holder}
use Rattle.zb_nodes.proofs.Lookups.{lookup_answers, lookup_does, lookup_halts}
use Rattle.zb_nodes.proofs.looking.look_up_files.Goals as goal

pub hear-requires-clause-answers : goal.hear-requires-clause-answers
hear-requires-clause-answers c =
    lookup_answers c.args.manager.now c.requires.may.0 c.args.client.now c.requires.may.1 c.args.hold c.args.asks.now c.requires.at c.in_ok-found.found c.in_ok-found.ensures.found

pub returns-clause-told : goal.returns-clause-told
returns-clause-told c =
    let m = c.args.manager.now in
    lookup_does m c.requires.may.0 c.args.client.now c.requires.may.1 c.args.hold c.args.asks.now c.requires.at c.in_ok-found.found c.in_ok-found.ensures.found
    (record { client = c.hear.new.client; told = c.in_ok-told.told }) c.hold_if.new.manager c.in_ok-told.ensures.ok
    (subst (λ (n : ℕ). c.args.hold ≡ true → other_holder n m.holder ≡ None) (sym c.requires.number) c.requires.unblocked)
    (c.hold_if.ensures ∙ (λ i. cond c.args.hold (held_by (Some (sym c.requires.number i)) (c.find.ensures.same i)) (c.find.ensures.same i)))

pub returns-in_err-told-clause-cause : goal.returns-in_err-told-clause-cause
returns-in_err-told-clause-cause c =
    let p = err_from_is_err_and c.from_residual-in_err-told.result c.from_residual-in_err-told.ensures.1 in
    rw (p.1, p.2) (lookup_halts c.args.manager.now c.requires.may.0 c.args.client.now c.requires.may.1 c.args.hold c.args.asks.now c.requires.at c.in_ok-found.found c.in_ok-found.ensures.found
    c.in_err-told.field-0.0 c.in_err-told.ensures.cause)
