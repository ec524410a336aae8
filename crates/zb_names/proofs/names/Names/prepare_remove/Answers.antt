use Rattle.std.proofs.Common.{◌≡◌, [], Some, None, sym, ap, subst, ◌∙◌}
use Rattle.zb_types.specs.declared.calls.Call.TheVariants.{Remove}
use Rattle.zb_types.specs.Names.{Names, name_effect, name_refusal}
use Rattle.zb_names.specs.Changing.{Changed, MayCarry, carried}
use Rattle.zb_names.proofs.Carrying.{may_remove, removed}
use Rattle.zb_names.proofs.names.Names.prepare_remove.Goals as goal

pub returns-clause-may : goal.returns-clause-may
returns-clause-may c =
    let path = c.args.path.now in
    let names : Names = record { next = c.self.inside.next; entries = c.self.inside.kept.entries } in
    let free : name_refusal names (Remove path) ≡ None = subst (λ n. name_refusal n (Remove path) ≡ None) (sym c.self.view_is) c.in_ok-removable.ensures.refused in
    let may = may_remove names c.self.invariant.tree path free in
    let change : Changed = record { gone = Some path; fresh = []; next = names.next } in
    let made : Changed = record { gone = Some c.in_ok-copy.field-0; fresh = []; next = names.next } in
    let same : made ≡ change = (λ i. record { gone = Some (c.in_ok-copy.ensures i); fresh = []; next = names.next }) in
    subst (λ d. MayCarry d c.args.self.now) (sym same) (subst (MayCarry change) c.self.view_is may)

pub returns-clause-leads : goal.returns-clause-leads
returns-clause-leads c =
    let path = c.args.path.now in
    let names : Names = record { next = c.self.inside.next; entries = c.self.inside.kept.entries } in
    let free : name_refusal names (Remove path) ≡ None = subst (λ n. name_refusal n (Remove path) ≡ None) (sym c.self.view_is) c.in_ok-removable.ensures.refused in
    let change : Changed = record { gone = Some path; fresh = []; next = names.next } in
    let made : Changed = record { gone = Some c.in_ok-copy.field-0; fresh = []; next = names.next } in
    let same : made ≡ change = (λ i. record { gone = Some (c.in_ok-copy.ensures i); fresh = []; next = names.next }) in
    let leads : carried change c.args.self.now ≡ name_effect c.args.self.now (Remove path) = subst (λ n. carried change n ≡ name_effect n (Remove path)) c.self.view_is (removed names c.self.invariant.tree path free) in
    ap (λ d. carried d c.args.self.now) same ∙ leads
