use Rattle.std.proofs.Common.{◌≡◌, ◌+◌, ◌∷◌, [], None, sym, subst}
use Rattle.zb_types.specs.declared.calls.Call.TheVariants.{Create}
use Rattle.zb_types.specs.Names.{Names, numbered, name_refusal}
use Rattle.zb_names.specs.Changing.{Changed, MayCarry}
use Rattle.zb_names.proofs.Carrying.{may_create}
use Rattle.zb_names.proofs.names.Names.prepare_create.Goals as goal

pub returns-clause-may : goal.returns-clause-may
returns-clause-may c =
    let path = c.args.path.now in
    let names : Names = record { next = c.self.inside.next; entries = c.self.inside.kept.entries } in
    let change : Changed = record { gone = None; fresh = (path, numbered names.next) ∷ []; next = names.next + 1 } in
    let free : name_refusal names (Create path) ≡ None = subst (λ n. name_refusal n (Create path) ≡ None) (sym c.self.view_is) (sym c.in_default.ensures) in
    let may = may_create names c.self.invariant.tree path c.in_ok-prepare_new.ensures.path free in
    subst (λ d. MayCarry d c.args.self.now) (sym c.in_ok-prepare_new.ensures.made) (subst (MayCarry change) c.self.view_is may)
