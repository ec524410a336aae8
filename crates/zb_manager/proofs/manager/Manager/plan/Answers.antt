use Rattle.std.proofs.Common.{◌≡◌, ℕ, List, [], ◌∷◌, refl, sym, ap, ◌∙◌, subst}
use Rattle.std.specs.Prelude.{IfOk}
use Rattle.zb_batch.specs.declared.batch.Op.{Op}
use Rattle.zb_batch.specs.declared.batch.Op.TheVariants.{Name, Clean}
use Rattle.zb_tables.specs.Fold.{Shelf}
use Rattle.zb_manager.specs.Plans.{IsPlan, IsWork, Plans}
use Rattle.zb_manager.proofs.Planned.{name_alone, clean_alone, name_planned, moves_planned}
use Rattle.zb_manager.proofs.manager.Manager.plan.Goals as goal

pub returns-in_default : goal.returns-in_default
returns-in_default c =
    let shelf : Shelf = record { names = c.self.inside.names; files = c.self.inside.pointers.files; replies = [] } in
    rw (← c.self.view_is) (subst (λ (b : ℕ). IfOk c.plan_files.result (Plans b shelf c.args.ops.now)) c.self.invariant.block (c.plan_files.ensures shelf refl refl))

pub returns-in_ok-plan_name-in-Name : goal.returns-in_ok-plan_name-in-Name
returns-in_ok-plan_name-in-Name c =
    let shelf : Shelf = record { names = c.self.inside.names; files = c.self.inside.pointers.files; replies = [] } in
    let plan = c.in_ok-plan_name-in-Name.field-0 in
    let others = c.in-Some.field-0-1.now in
    let first : c.args.ops.now ≡ Name c.in-Name.call c.in-Name.what ∷ others = c.in-Some.ensures.cases.0 ∙ ap (λ (o : Op). o ∷ others) c.in-Name.is in
    let alone = name_alone c.in-Name.call c.in-Name.what others (subst IsWork first c.requires) in
    let ops = first ∙ ap (λ (os : List Op). Name c.in-Name.call c.in-Name.what ∷ os) alone in
    rw (← c.self.view_is)
    (subst (λ (os : List Op). IsPlan c.self.inside.sizes.block shelf os plan) (sym ops)
    (name_planned c.self.inside.sizes.block shelf c.in-Name.call c.in-Name.what plan refl c.in_ok-plan_name-in-Name.ensures))

pub returns-in_ok-plan_moves-in-Clean : goal.returns-in_ok-plan_moves-in-Clean
returns-in_ok-plan_moves-in-Clean c =
    let shelf : Shelf = record { names = c.self.inside.names; files = c.self.inside.pointers.files; replies = [] } in
    let plan = c.in_ok-plan_moves-in-Clean.field-0 in
    let others = c.in-Some.field-0-1.now in
    let first : c.args.ops.now ≡ Clean c.in-Clean.deltas ∷ others = c.in-Some.ensures.cases.0 ∙ ap (λ (o : Op). o ∷ others) c.in-Clean.is in
    let alone = clean_alone c.in-Clean.deltas others (subst IsWork first c.requires) in
    let ops = first ∙ ap (λ (os : List Op). Clean c.in-Clean.deltas ∷ os) alone in
    rw (← c.self.view_is)
    (subst (λ (os : List Op). IsPlan c.self.inside.sizes.block shelf os plan) (sym ops)
    (moves_planned c.self.inside.sizes.block shelf c.in-Clean.deltas plan refl c.in_ok-plan_moves-in-Clean.ensures))

pub returns-in-Write : goal.returns-in-Write
returns-in-Write c =
    let shelf : Shelf = record { names = c.self.inside.names; files = c.self.inside.pointers.files; replies = [] } in
    rw (← c.self.view_is) (subst (λ (b : ℕ). IfOk c.plan_files-in-Write.result (Plans b shelf c.args.ops.now)) c.self.invariant.block (c.plan_files-in-Write.ensures shelf refl refl))
