use Rattle.std.proofs.Common.{◌≡◌, true, false, sym, ◌∙◌}
use Rattle.zb_types.specs.Names.{has}
use Rattle.zb_names.specs.Answers.{gets_too_long}
use Rattle.zb_names.specs.Shown.{seen}
use Rattle.zb_names.proofs.Refusals.{has_from_find}
use Rattle.zb_names.proofs.Movable.{refused_exists, refused_inside, refused_long, not_refused, too_long_below}
use Rattle.zb_names.proofs.moving.movable.Goals as goal

pub returns-then-is_some-clause-refused : goal.returns-then-is_some-clause-refused
returns-then-is_some-clause-refused c =
    let entries = c.args.kept.now.entries in
    let present : has c.args.to.now entries ≡ true = has_from_find c.args.to.now entries c.find.result c.find.ensures ∙ sym c.if-is_some.ensures in
    refused_exists c.args.from.now c.args.to.now entries c.in_ok-entry.ensures.walked (seen c.in_ok-entry.entry) c.in_ok-entry.ensures.found (sym c.in_default.ensures) present

pub returns-then-is_below-clause-refused : goal.returns-then-is_below-clause-refused
returns-then-is_below-clause-refused c =
    let entries = c.args.kept.now.entries in
    let absent : has c.args.to.now entries ≡ false = has_from_find c.args.to.now entries c.find.result c.find.ensures ∙ sym c.if-is_some.ensures in
    refused_inside c.args.from.now c.args.to.now entries c.in_ok-entry.ensures.walked (seen c.in_ok-entry.entry) c.in_ok-entry.ensures.found (sym c.in_default.ensures) absent (sym c.if-is_below.ensures)

pub returns-then-any_too_long-clause-refused : goal.returns-then-any_too_long-clause-refused
returns-then-any_too_long-clause-refused c =
    let entries = c.args.kept.now.entries in
    let from = c.args.from.now in
    let to = c.args.to.now in
    let absent : has to entries ≡ false = has_from_find to entries c.find.result c.find.ensures ∙ sym c.if-is_some.ensures in
    let long : gets_too_long entries from to ≡ true = too_long_below from to entries c.requires ∙ sym c.if-any_too_long.ensures in
    refused_long from to entries c.in_ok-entry.ensures.walked (seen c.in_ok-entry.entry) c.in_ok-entry.ensures.found (sym c.in_default.ensures) absent (sym c.if-is_below.ensures) long

pub returns-clause-refused : goal.returns-clause-refused
returns-clause-refused c =
    let entries = c.args.kept.now.entries in
    let from = c.args.from.now in
    let to = c.args.to.now in
    let absent : has to entries ≡ false = has_from_find to entries c.find.result c.find.ensures ∙ sym c.if-is_some.ensures in
    let short : gets_too_long entries from to ≡ false = too_long_below from to entries c.requires ∙ sym c.if-any_too_long.ensures in
    not_refused from to entries c.in_ok-entry.ensures.walked (seen c.in_ok-entry.entry) c.in_ok-entry.ensures.found (sym c.in_default.ensures) absent (sym c.if-is_below.ensures) short
