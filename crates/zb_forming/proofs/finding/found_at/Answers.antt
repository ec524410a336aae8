use Rattle.std.proofs.Common.{◌∙◌, sym, ap}
use Rattle.std.specs.Option.{option_copied}
use Rattle.zb_forming.proofs.Looked.{look-at, found-some, found-other, found-none}
use Rattle.zb_forming.proofs.finding.found_at.Goals as goal

pub returns-in-Some : goal.returns-in-Some
returns-in-Some c =
    let low = rw c.slice.ensures at c.count_below-at.ensures.below in
    let high = rw c.slice.ensures at c.count_below-at.ensures.others in
    found-some c.args.k _ c.in-Some.entry.now (sym c.get.ensures ∙ ap option_copied c.in-Some.is) c.if-entry-k.true
    ∙ sym (look-at c.args.k c.args.found.now.blocks c.count_below-at.result c.requires low high)

pub returns-in_default : goal.returns-in_default
returns-in_default c =
    let low = rw c.slice.ensures at c.count_below-at.ensures.below in
    let high = rw c.slice.ensures at c.count_below-at.ensures.others in
    found-other c.args.k _ c.in-Some.entry.now (sym c.get.ensures ∙ ap option_copied c.in-Some.is) c.if-entry-k.false
    ∙ sym (look-at c.args.k c.args.found.now.blocks c.count_below-at.result c.requires low high)

pub returns-in_default-2 : goal.returns-in_default-2
returns-in_default-2 c =
    let low = rw c.slice.ensures at c.count_below-at.ensures.below in
    let high = rw c.slice.ensures at c.count_below-at.ensures.others in
    found-none c.args.k _ (sym c.get.ensures ∙ ap option_copied c.in_default.is)
    ∙ sym (look-at c.args.k c.args.found.now.blocks c.count_below-at.result c.requires low high)
