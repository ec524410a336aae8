use Rattle.std.proofs.Common.{◌≡◌, ◌∷◌, [], None, sym, ap, subst, ◌∙◌}
use Rattle.zb_types.specs.declared.calls.Call.TheVariants.{Mkdir}
use Rattle.zb_types.specs.Names.{Names, directory, name_refusal}
use Rattle.zb_names.specs.Answers.{refusal_of_new}
use Rattle.zb_names.specs.Changing.{Changed, MayCarry}
use Rattle.zb_names.proofs.Carrying.{may_mkdir}
use Rattle.zb_names.proofs.names.Names.prepare_mkdir.Goals as goal

pub returns-clause-may : goal.returns-clause-may
returns-clause-may c =
    let path = c.args.path.now in
    let names : Names = record { next = c.self.inside.next; entries = c.self.inside.kept.entries } in
    let change : Changed = record { gone = None; fresh = (path, directory) ∷ []; next = names.next } in
    let free : name_refusal names (Mkdir path) ≡ None = ap (refusal_of_new names.entries) (sym c.slice.ensures.same) ∙ sym c.in_default.ensures in
    let may = may_mkdir names c.self.invariant.tree path c.in_ok-prepare_new.ensures.path free in
    subst (λ d. MayCarry d c.args.self.now) (sym c.in_ok-prepare_new.ensures.made) (subst (MayCarry change) c.self.view_is may)
