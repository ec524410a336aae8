use Rattle.std.proofs.Common.{◌≡◌, Some, sym, ap, subst, ◌∙◌, IfOk}
use Rattle.std.specs.Prelude.{option_map}
use Rattle.zb_holding.specs.Carrying.{found}
use Rattle.zb_plain.specs.Standing.{Entries, fragment_of, stands_in}
use Rattle.zb_plain.proofs.Naming.{stands-is}
use Rattle.zb_plain.proofs.server.PlainServer.retrieve.Goals as goal

pub returns : goal.returns
returns c =
    let old = c.self.inside.kept.entries in
    let there : stands_in old c.args.id ≡ Some (fragment_of c.in-Some.kept.now) = sym (stands-is old c.args.id) ∙ ap (option_map fragment_of) (sym c.in-Some.ensures.value) in
    let stands : stands_in c.args.self.now c.args.id ≡ Some (fragment_of c.in-Some.kept.now) = ap (λ (entries : Entries). stands_in entries c.args.id) (sym c.self.view_is) ∙ there in
    subst (λ o. IfOk c.retrieve.result (λ answer. answer ≡ found o c.args.place c.args.len)) (sym stands) c.retrieve.ensures
