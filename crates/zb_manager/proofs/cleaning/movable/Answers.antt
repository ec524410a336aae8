use Rattle.std.proofs.Common.{◌≤◌, List, length, sym, subst}
use Rattle.zb_delta.specs.declared.delta.Delta.{Delta}
use Rattle.zb_manager.proofs.Loops.{none_left}
use Rattle.zb_manager.proofs.Carrying.{Cleans, cleans_first, cleans_on, cleans_last, movable_few}
use Rattle.zb_manager.proofs.cleaning.movable.Goals as goal

pub loop-delta-init : goal.loop-delta-init
loop-delta-init c = cleans_first c.args.pointers.now.files c.args.deltas.now (record { places = c.new.result; moves = c.in_ok-new.field-0 }) c.new.ensures.empty c.in_ok-new.ensures

pub loop-delta-preserved : goal.loop-delta-preserved
loop-delta-preserved c =
    let files = c.args.pointers.now.files in
    let all = c.args.deltas.now in
    let old = c.loop-delta.cleaning in
    let inv = subst (λ (r : List Delta). Cleans files r all old) c.in-Some.ensures.cases.0 c.loop-delta.invariant in
    cleans_on files c.in-Some.delta.now c.in-Some.others.now all old c.take.new.self inv (c.in_ok-take.ensures inv.now inv.leads)

pub returns-clause-moves : goal.returns-clause-moves
returns-clause-moves c =
    let files = c.args.pointers.now.files in
    let all = c.args.deltas.now in
    let last = c.loop-delta.cleaning in
    cleans_last files all last (subst (λ (r : List Delta). Cleans files r all last) (none_left c.loop-delta.rest.now c.in_default.ensures.cases) c.loop-delta.invariant)

pub returns-clause-few : goal.returns-clause-few
returns-clause-few c =
    let files = c.args.pointers.now.files in
    let all = c.args.deltas.now in
    let last = c.loop-delta.cleaning in
    subst (λ (ds : List Delta). length ds ≤ length all)
    (sym (cleans_last files all last (subst (λ (r : List Delta). Cleans files r all last) (none_left c.loop-delta.rest.now c.in_default.ensures.cases) c.loop-delta.invariant)))
    (movable_few all files)
