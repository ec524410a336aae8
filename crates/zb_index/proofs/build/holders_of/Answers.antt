use Rattle.std.proofs.Common.{◌≡◌, length, sym, subst, rules}
use Rattle.std.specs.Prelude.{IfSome}
use Rattle.std.specs.Map.{lookup}
use Rattle.zb_holding.specs.Carrying.{same_frag}
use Rattle.zb_index.specs.Gathering.{AreGathered, AreHolders}
use Rattle.zb_index.proofs.build.holders_of.Goals as goal

pub returns-in-Some : goal.returns-in-Some
returns-in-Some c slots shown all =
    let n = length c.args.headers.now in
    let is : c.copied.result ≡ lookup (same_frag c.args.id) c.in-Some.names.entries = search rules in
    let here = subst (λ o. IfSome o (λ names. AreGathered n slots names.entries)) c.in-Some.is all in
    subst (AreHolders n slots c.args.id) (sym is) (here c.args.id)
