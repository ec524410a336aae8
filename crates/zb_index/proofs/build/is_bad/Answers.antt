use Rattle.std.proofs.Common.{◌∙◌, length, Option, Some, sym, ap, subst}
use Rattle.std.proofs.lemmas.Option.{none-some}
use Rattle.zb_slots.specs.declared.header.Header.{Header}
use Rattle.zb_slots.specs.Holding.{named}
use Rattle.zb_slots.specs.Shown.{Says}
use Rattle.zb_index.specs.Gathering.{AreHolders}
use Rattle.zb_index.proofs.Held.{named_full}
use Rattle.zb_index.proofs.build.is_bad.Goals as goal

pub returns-in-None : goal.returns-in-None
returns-in-None c slots shown all lt says =
    let n = length c.args.headers.now in
    let id = c.in-Some-holder_of.id in
    let h = c.in-Some-holder_of.ensures (slots c.args.slot) (subst (λ (o : Option Header). Says o (slots c.args.slot)) c.in-Some.is says) in
    let nowhere = subst (AreHolders n slots id) c.in-None.is (c.holders_of.ensures slots shown all) in
    absurd (none-some h.stored (sym (nowhere c.args.slot lt) ∙ ap (named id) h.full ∙ named_full h.stored id h.name))

pub returns-in-Some-holders_of : goal.returns-in-Some-holders_of
returns-in-Some-holders_of c slots shown all lt says =
    let n = length c.args.headers.now in
    let id = c.in-Some-holder_of.id in
    let h = c.in-Some-holder_of.ensures (slots c.args.slot) (subst (λ (o : Option Header). Says o (slots c.args.slot)) c.in-Some.is says) in
    let are = subst (AreHolders n slots id) c.in-Some-holders_of.is (c.holders_of.ensures slots shown all) in
    c.is_bad.ensures n slots h.stored (subst (λ a. AreHolders n slots a (Some c.in-Some-holders_of.holders)) (sym h.name) are) lt h.full
