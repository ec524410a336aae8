use Rattle.std.proofs.Common.{◌++◌, ◌∷◌, [], sym, ap, ◌∙◌}
use Rattle.zb_types.specs.Names.{is_below}
use Rattle.zb_names.proofs.Begun.{any_below-none, any_below-first}
use Rattle.zb_names.proofs.Places.{first-split, first-none}
use Rattle.zb_names.proofs.looking.has_below.Goals as goal

pub returns-in-None : goal.returns-in-None
returns-in-None c = sym (any_below-none c.args.path.now c.args.kept.now.entries (first-none (c.args.path.now ++ 47 ∷ []) c.args.kept.now.entries c.from_path.result.now c.from_path.ensures.rest c.in-None.ensures.value))

pub returns-in-Some : goal.returns-in-Some
returns-in-Some c =
    let split = first-split (c.args.path.now ++ 47 ∷ []) c.args.kept.now.entries c.from_path.result.now c.in-Some.field-0.now c.from_path.ensures.rest c.in-Some.ensures.value in
    c.is_below.ensures ∙ ap (is_below c.args.path.now) c.slice.ensures.same ∙ sym (any_below-first c.args.path.now c.args.kept.now.entries _ _ c.from_path.ensures.rising split)
