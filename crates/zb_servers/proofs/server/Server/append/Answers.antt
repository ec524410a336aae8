use Rattle.std.proofs.Common.{◌≡◌, Some, refl, sym, ap, subst, ◌∙◌, IsSome, IfOk, option_map}
use Rattle.std.specs.BTreeMap.{is_at}
use Rattle.std.proofs.lemmas.Result.{on_err_weaker, IfOk-weaker}
use Rattle.std.proofs.lemmas.Map.Steps.{set_value_same}
use Rattle.zb_types.specs.Order.{frag_cmp}
use Rattle.zb_types.specs.declared.requests.Request.TheVariants as ask
use Rattle.zb_holding.specs.Carrying.{stands_after}
use Rattle.zb_holding.specs.Rules.{size_of, unless_there, refusal_to_append, or_by}
use Rattle.zb_servers.specs.Standing.{SeenServer, stands_in}
use Rattle.zb_servers.specs.Keeping.{IsPut, done_unless}
use Rattle.zb_servers.proofs.Naming.{stands-is, put_by, same_server, if_ok}
use Rattle.zb_servers.proofs.server.Server.append.Goals as goal

pub returns-clause-answer : goal.returns-clause-answer
returns-clause-answer c =
    let old = c.self.inside.kept.entries in
    let there : stands_in old c.args.id ≡ Some c.in-Some.kept.now = sym (stands-is old c.args.id) ∙ sym c.in-Some.ensures.value in
    let stands : stands_in c.args.self.now.entries c.args.id ≡ Some c.in-Some.kept.now = ap (λ (s : SeenServer). stands_in s.entries c.args.id) (sym c.self.view_is) ∙ there in
    subst (λ o. IfOk c.append.result (λ answer. answer ≡ done_unless (or_by (unless_there (option_map size_of o)) (λ fragment. refusal_to_append fragment c.args.place c.args.bytes.now) o)))
    (sym stands) c.append.ensures.answer

pub returns-clause-put : goal.returns-clause-put
returns-clause-put c =
    let old = c.self.inside.kept.entries in
    let request = ask.Append c.args.id c.args.place c.args.bytes.now in
    let there : stands_in old c.args.id ≡ Some c.in-Some.kept.now = sym (stands-is old c.args.id) ∙ sym c.in-Some.ensures.value in
    let holds = c.get_mut.follows.holds c.append.new.self in
    let new = (c.get_mut.follows.lender c.append.new.self).entries in
    let updates = holds.3 (subst IsSome c.in-Some.ensures.value refl) in
    let put = put_by old new c.args.id (Some c.append.new.self) updates.0 in
    rw (← c.self.view_is) (if_ok c.append.result _
    (λ carried answer unrefused. subst (IsPut old new c.args.id) (carried c.args.id ∙ ap (stands_after request) (sym there)) put)
    c.append.ensures.carried)

pub returns-clause-refused : goal.returns-clause-refused
returns-clause-refused c =
    let old = c.self.inside.kept.entries in
    let now = (c.get_mut.follows.holds c.append.new.self).0 in
    rw (← c.self.view_is) (IfOk-weaker c.append.result _ _
    (λ answer same refused. same_server _ _ c.self.inside.fence (now ∙ set_value_same (is_at (frag_cmp c.args.id)) old c.append.new.self (sym c.in-Some.ensures.value ∙ ap Some (sym (same refused)))))
    c.append.ensures.refused)

pub returns-clause-err : goal.returns-clause-err
returns-clause-err c =
    let old = c.self.inside.kept.entries in
    let now = (c.get_mut.follows.holds c.append.new.self).0 in
    rw (← c.self.view_is) (on_err_weaker c.append.result
    (λ same. same_server _ _ c.self.inside.fence (now ∙ set_value_same (is_at (frag_cmp c.args.id)) old c.append.new.self (sym c.in-Some.ensures.value ∙ ap Some (sym same))))
    c.append.ensures.err)
