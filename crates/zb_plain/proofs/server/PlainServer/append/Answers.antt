use Rattle.std.proofs.Common.{◌≡◌, Some, refl, sym, ap, subst, ◌∙◌, IsSome, IfOk}
use Rattle.std.specs.Prelude.{option_map}
use Rattle.std.specs.BTreeMap.{is_at}
use Rattle.std.proofs.lemmas.Result.{on_ok_weaker, on_err_weaker, IfOk-weaker}
use Rattle.std.proofs.lemmas.Map.Steps.{set_value_same}
use Rattle.zb_types.specs.Order.{frag_cmp}
use Rattle.zb_types.specs.declared.requests.Request.TheVariants as ask
use Rattle.zb_holding.specs.Carrying.{stands_after}
use Rattle.zb_plain.specs.Standing.{Entries, fragment_of, stands_in}
use Rattle.zb_plain.proofs.Ruling.{append_some}
use Rattle.zb_plain.proofs.Naming.{stands-is, put_by, after_put}
use Rattle.zb_plain.proofs.server.PlainServer.append.Goals as goal

pub returns-clause-answer : goal.returns-clause-answer
returns-clause-answer c =
    let old = c.self.inside.kept.entries in
    let there : stands_in old c.args.id ≡ Some (fragment_of c.in-Some.kept.now) = sym (stands-is old c.args.id) ∙ ap (option_map fragment_of) (sym c.in-Some.ensures.value) in
    let stands : stands_in c.args.self.now c.args.id ≡ Some (fragment_of c.in-Some.kept.now) = ap (λ (entries : Entries). stands_in entries c.args.id) (sym c.self.view_is) ∙ there in
    let is = append_some c.args.self.now c.args.id c.args.place c.args.bytes.now (fragment_of c.in-Some.kept.now) stands in
    subst (λ z. IfOk c.append.result (λ answer. answer ≡ z)) (sym is) c.append.ensures.answer

pub returns-clause-carried : goal.returns-clause-carried
returns-clause-carried c =
    let old = c.self.inside.kept.entries in
    let request = ask.Append c.args.id c.args.place c.args.bytes.now in
    let there : stands_in old c.args.id ≡ Some (fragment_of c.in-Some.kept.now) = sym (stands-is old c.args.id) ∙ ap (option_map fragment_of) (sym c.in-Some.ensures.value) in
    let holds = c.get_mut.follows.holds c.append.new.self in
    let new = (c.get_mut.follows.lender c.append.new.self).entries in
    let updates = holds.3 (subst IsSome c.in-Some.ensures.value refl) in
    let put = put_by old new c.args.id (Some c.append.new.self) updates.0 in
    rw (← c.self.view_is) (on_ok_weaker c.append.result
    (λ carried. after_put request old new c.args.id (Some (fragment_of c.append.new.self)) (λ q. refl) (carried c.args.id ∙ ap (stands_after request) (sym there)) put)
    c.append.ensures.carried)

pub returns-clause-same : goal.returns-clause-same
returns-clause-same c =
    let old = c.self.inside.kept.entries in
    let now = (c.get_mut.follows.holds c.append.new.self).0 in
    rw (← c.self.view_is) (IfOk-weaker c.append.result _ _
    (λ answer same refused. now ∙ set_value_same (is_at (frag_cmp c.args.id)) old c.append.new.self (sym c.in-Some.ensures.value ∙ ap Some (sym (same refused))))
    c.append.ensures.same)

pub returns-clause-err : goal.returns-clause-err
returns-clause-err c =
    let old = c.self.inside.kept.entries in
    let now = (c.get_mut.follows.holds c.append.new.self).0 in
    rw (← c.self.view_is) (on_err_weaker c.append.result
    (λ same. now ∙ set_value_same (is_at (frag_cmp c.args.id)) old c.append.new.self (sym c.in-Some.ensures.value ∙ ap Some (sym same)))
    c.append.ensures.err)
