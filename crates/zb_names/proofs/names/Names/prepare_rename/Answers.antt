use Rattle.std.proofs.Common.{◌≡◌, ◌∷◌, true, Some, None, length, refl, sym, ap, subst, ◌∙◌}
use Rattle.std.specs.List.{AllByRecursion}
use Rattle.zb_types.specs.Paths.{is_path}
use Rattle.zb_types.specs.declared.calls.Call.TheVariants.{Rename}
use Rattle.zb_types.specs.Names.{Names, find, name_effect}
use Rattle.zb_names.specs.Answers.{refusal_of_move}
use Rattle.zb_names.specs.Shown.{listed, seen}
use Rattle.zb_names.specs.Changing.{Changed, MayCarry, carried, below, relocated, within}
use Rattle.zb_names.proofs.Carrying.{may_rename, moved_paths}
use Rattle.zb_names.proofs.Together.{moved-within, moved_below, moved_rise}
use Rattle.zb_names.proofs.Within.{within-found}
use Rattle.zb_names.proofs.names.Names.prepare_rename.Goals as goal

pub moved_below-requires : goal.moved_below-requires
moved_below-requires c =
    let from = c.args.from.now in
    let to = c.args.to.now in
    let names : Names = record { next = c.self.inside.next; entries = c.self.inside.kept.entries } in
    let free : refusal_of_move names.entries from to ≡ None = (λ i. refusal_of_move names.entries (sym c.slice.ensures.same i) (sym c.slice-2.ensures.same i)) ∙ c.in_ok-entry.ensures.refused in
    let found : find from names.entries ≡ Some (seen c.in_ok-entry.entry) = ap (λ p. find p names.entries) (sym c.slice.ensures.same) ∙ c.in_ok-entry.ensures.found in
    let split = within-found from (seen c.in_ok-entry.entry) names.entries c.self.invariant.tree.rising found in
    let all = moved_paths names c.self.invariant.tree from to c.slice-2.ensures.path free in
    rw (c.slice-3.ensures.same, c.slice-4.ensures.same) (subst (λ s. AllByRecursion (λ e. is_path e.0 ≡ true) (relocated (length from) to s)) split all).1

pub invariant_of-result : goal.invariant_of-result
invariant_of-result c =
    let from = c.args.from.now in
    let to = c.args.to.now in
    let entries = c.self.inside.kept.entries in
    let fresh : listed c.in_ok-moved_below.field-0.items ≡ relocated (length from) to (below from entries) = rw (c.slice-3.ensures.same, c.slice-4.ensures.same) at c.in_ok-moved_below.ensures in
    rw (c.in_ok-copy-2.ensures, fresh) (moved_rise from to entries c.self.invariant.tree.rising, moved_below from to entries)

pub returns-clause-may : goal.returns-clause-may
returns-clause-may c =
    let from = c.args.from.now in
    let to = c.args.to.now in
    let names : Names = record { next = c.self.inside.next; entries = c.self.inside.kept.entries } in
    let entry = seen c.in_ok-entry.entry in
    let free : refusal_of_move names.entries from to ≡ None = (λ i. refusal_of_move names.entries (sym c.slice.ensures.same i) (sym c.slice-2.ensures.same i)) ∙ c.in_ok-entry.ensures.refused in
    let may = may_rename names c.self.invariant.tree from to c.slice.ensures.path c.slice-2.ensures.path free in
    let found : find from names.entries ≡ Some entry = ap (λ p. find p names.entries) (sym c.slice.ensures.same) ∙ c.in_ok-entry.ensures.found in
    let below_now : listed c.in_ok-moved_below.field-0.items ≡ relocated (length from) to (below from names.entries) = rw (c.slice-3.ensures.same, c.slice-4.ensures.same) at c.in_ok-moved_below.ensures in
    let fresh = (λ i. (c.in_ok-copy-2.ensures i, entry) ∷ below_now i) ∙ moved-within from to entry names.entries c.self.invariant.tree.rising found in
    let change : Changed = record { gone = Some from; fresh = relocated (length from) to (within from names.entries); next = names.next } in
    let made : Changed = record { gone = Some c.in_ok-copy.field-0; fresh = (c.in_ok-copy-2.field-0, entry) ∷ listed c.in_ok-moved_below.field-0.items; next = names.next } in
    let same : made ≡ change = (λ i. record { gone = Some (c.in_ok-copy.ensures i); fresh = fresh i; next = names.next }) in
    subst (λ d. MayCarry d c.args.self.now) (sym same) (subst (MayCarry change) c.self.view_is may)

pub returns-clause-leads : goal.returns-clause-leads
returns-clause-leads c =
    let from = c.args.from.now in
    let to = c.args.to.now in
    let names : Names = record { next = c.self.inside.next; entries = c.self.inside.kept.entries } in
    let entry = seen c.in_ok-entry.entry in
    let found : find from names.entries ≡ Some entry = ap (λ p. find p names.entries) (sym c.slice.ensures.same) ∙ c.in_ok-entry.ensures.found in
    let below_now : listed c.in_ok-moved_below.field-0.items ≡ relocated (length from) to (below from names.entries) = rw (c.slice-3.ensures.same, c.slice-4.ensures.same) at c.in_ok-moved_below.ensures in
    let fresh = (λ i. (c.in_ok-copy-2.ensures i, entry) ∷ below_now i) ∙ moved-within from to entry names.entries c.self.invariant.tree.rising found in
    let change : Changed = record { gone = Some from; fresh = relocated (length from) to (within from names.entries); next = names.next } in
    let made : Changed = record { gone = Some c.in_ok-copy.field-0; fresh = (c.in_ok-copy-2.field-0, entry) ∷ listed c.in_ok-moved_below.field-0.items; next = names.next } in
    let same : made ≡ change = (λ i. record { gone = Some (c.in_ok-copy.ensures i); fresh = fresh i; next = names.next }) in
    ap (λ d. carried d c.args.self.now) same ∙ subst (λ n. carried change n ≡ name_effect n (Rename from to)) c.self.view_is refl
