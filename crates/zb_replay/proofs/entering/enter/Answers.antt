use Rattle.std.proofs.Common.{ℕ, refl, subst}
use Rattle.zb_outside.proofs.Runs.{others_then}
use Rattle.zb_platter.specs.Changing.{HasPlace}
use Rattle.zb_platter.specs.declared.faults.NodeFault.TheVariants.{Worn}
use Rattle.zb_replay.proofs.Under.{enter_still, enter_told, enter_unplaced, entered_by, lacking_by, leads_still, placed_by, same_system, written_by}
use Rattle.zb_replay.proofs.entering.enter.Goals as goal

pub returns-then-number-ge-LAST-clause-told : goal.returns-then-number-ge-LAST-clause-told
returns-then-number-ge-LAST-clause-told g c told contents after batch st leads = enter_still g.B.Bay.meaning contents (Worn 2) c.args.platter.now c.args.manager.now.tables after (g.B.Bay.meaning c.args.bay.now) st

pub returns-in-Err-clause-told : goal.returns-in-Err-clause-told
returns-in-Err-clause-told g c told contents after batch st leads =
    enter_unplaced g.B.Bay.meaning contents c.in-Err.fault c.args.platter.now.root.geo c.make_place.new.platter c.args.manager.now.tables after (g.B.Bay.meaning c.args.bay.now) (g.B.Bay.meaning c.make_place.new.bay) (c.in-Err.ensures.told told contents st)

pub returns-clause-told : goal.returns-clause-told
returns-clause-told g c told contents after batch st leads =
    let placed = c.in_default.ensures.told told contents st in
    let mid = c.make_place.new.platter in
    enter_told g.B.Bay.meaning contents c.args.platter.now.root.geo mid c.add.new.self c.args.manager.now.tables after c.args.entry c.add.result c.args.bay.now c.make_place.new.bay c.add.new.bay
    (same_system g.B.Bay.meaning contents c.args.platter.now mid c.args.manager.now.tables c.make_place.ensures.placed)
    placed.run (placed.stands refl)
    (c.add.ensures.told told contents c.args.manager.now.tables after batch (placed.stands refl) (leads_still g.B.Bay.meaning contents c.args.platter.now mid c.args.manager.now.tables after c.args.entry batch c.make_place.ensures.placed leads))
    c.add.ensures.ok c.add.ensures.err c.add.ensures.unwritten

pub returns-clause-others : goal.returns-clause-others
returns-clause-others g c told = others_then (c.in_default.ensures.others told) (c.add.ensures.others told)

pub returns-clause-entered : goal.returns-clause-entered
returns-clause-entered g c = entered_by c.add.result c.args.manager.now.tables c.args.entry c.args.platter.now c.make_place.new.platter c.add.new.self c.make_place.ensures.placed c.add.ensures.ok

pub returns-clause-placed : goal.returns-clause-placed
returns-clause-placed g c = placed_by c.add.result c.args.manager.now.tables c.args.platter.now c.make_place.new.platter c.add.new.self c.make_place.ensures.placed c.add.ensures.err

pub returns-clause-written : goal.returns-clause-written
returns-clause-written g c told has =
    let still = c.make_place.ensures.still (subst (λ (n : ℕ). HasPlace c.args.platter.now n) c.count_of.ensures has) in
    written_by g.B.Bay.meaning g.B.Bay.counts c.add.result c.args.platter.now c.make_place.new.platter c.args.bay.now c.make_place.new.bay c.add.new.bay still.0 still.1 (c.add.ensures.written told)

pub returns-in-Err-clause-lacking : goal.returns-in-Err-clause-lacking
returns-in-Err-clause-lacking g c is has = (c.make_place.ensures.still (subst (λ (n : ℕ). HasPlace c.args.platter.now n) c.count_of.ensures has)).1

pub returns-clause-lacking : goal.returns-clause-lacking
returns-clause-lacking g c is has =
    lacking_by c.add.result c.args.bay.now c.make_place.new.bay c.add.new.bay (c.make_place.ensures.still (subst (λ (n : ℕ). HasPlace c.args.platter.now n) c.count_of.ensures has)).1 c.add.ensures.unwritten is
