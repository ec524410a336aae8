use Rattle.std.proofs.Common.{◌≡◌, Some, None, true, refl, sym, ap, ◌∙◌, Option}
use Rattle.std.specs.Prelude.{option_map, is_some}
use Rattle.zb_types.specs.declared.requests.Request.TheVariants as ask
use Rattle.zb_plain.specs.declared.kept.Kept.{Kept}
use Rattle.zb_plain.specs.Standing.{fragment_of, stands_in}
use Rattle.zb_plain.proofs.Ruling.{delete_some}
use Rattle.zb_plain.proofs.Naming.{stands-is, put_by, after_put}
use Rattle.zb_plain.proofs.server.PlainServer.delete.Goals as goal

some_mapped : (o : Option Kept) → is_some (option_map fragment_of o) ≡ is_some o
some_mapped None = refl
some_mapped (Some kept) = refl

pub returns-clause-answer : goal.returns-clause-answer
returns-clause-answer c =
    let old = c.self.inside.kept.entries in
    let stands = ap (option_map fragment_of) c.remove.ensures.value ∙ stands-is old c.args.id in
    let some : is_some (stands_in old c.args.id) ≡ true = sym (ap is_some stands) ∙ some_mapped c.remove.result ∙ c.if-is_none.ensures in
    rw (← c.self.view_is) (sym (delete_some old c.args.id some))

pub returns-clause-carried : goal.returns-clause-carried
returns-clause-carried c =
    let old = c.self.inside.kept.entries in
    let put = put_by old c.remove.new.self.entries c.args.id None c.remove.ensures.updates.0 in
    rw (← c.self.view_is) (after_put (ask.Delete c.args.id) old c.remove.new.self.entries c.args.id None (λ q. refl) refl put)
