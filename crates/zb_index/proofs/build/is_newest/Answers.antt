use Rattle.std.proofs.Common.{sym, ◌∙◌, subst}
use Rattle.std.proofs.lemmas.Bool.{eqb-true, eqb-false}
use Rattle.zb_index.specs.Gathering.{AreHolders}
use Rattle.zb_holding.proofs.Keys.{found_is}
use Rattle.zb_index.proofs.Twinning.{never_none, tells_newest}
use Rattle.zb_index.proofs.build.is_newest.Goals as goal

pub returns-in-None : goal.returns-in-None
returns-in-None c n slots stored all good lt full name =
    let names = c.args.names.now.entries in
    absurd (never_none n c.args.slot slots names c.args.id stored all (sym (c.in-None.ensures.value ∙ found_is names c.args.id)) lt full name)

pub returns-in-None-newest : goal.returns-in-None-newest
returns-in-None-newest c n slots stored all good lt full name =
    let names = c.args.names.now.entries in
    let are = subst (AreHolders n slots c.args.id) (sym (c.in-Some.ensures.value ∙ found_is names c.args.id)) (all c.args.id) in
    absurd (c.in-None-newest.ensures n slots c.args.id are good)

pub returns-in-Some-newest : goal.returns-in-Some-newest
returns-in-Some-newest c n slots stored all good lt full name =
    let names = c.args.names.now.entries in
    let are = subst (AreHolders n slots c.args.id) (sym (c.in-Some.ensures.value ∙ found_is names c.args.id)) (all c.args.id) in
    tells_newest n slots c.args.id c.in-Some-newest.spot c.args.slot stored _ good (c.in-Some-newest.ensures n slots c.args.id are good) lt full name
    (eqb-true c.in-Some-newest.spot.slot c.args.slot) (eqb-false c.in-Some-newest.spot.slot c.args.slot)
