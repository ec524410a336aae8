use Rattle.std.proofs.Common.{sym, ◌∙◌}
use Rattle.zebra.specs.Rows.{NextIs, MovesOn}
use Rattle.zebra.specs.declared.reading.Next.TheVariants as next
use Rattle.zebra.specs.Running.{front_of}
use Rattle.zebra.proofs.Running.{broken_at, broken_in_take, carried, has_skipped, on_err, on_this_err, own_system, ready}
use Rattle.zebra.proofs.run.run_row.Goals as goal

pub returns-in_err-fill-clause-told : goal.returns-in_err-fill-clause-told
returns-in_err-fill-clause-told g c tells start h =
    on_err c.from_residual.result _ _ c.from_residual.ensures.0
    (broken_in_take start c.args.script.now c.args.source.now c.args.world.now.course _ _ h (c.in_err-fill.ensures.told tells start.tape (front_of start h.rows) h.reads) (c.fill.ensures.prints tells))

pub returns-in_err-run_action-in-Run-clause-told : goal.returns-in_err-run_action-in-Run-clause-told
returns-in_err-run_action-in-Run-clause-told g c tells start h =
    let read = c.in_ok-fill.ensures.told tells start.tape (front_of start h.rows) h.reads in
    let run : NextIs c.args.script.now c.fill.new.source (next.Run c.in-Run.action c.in-Run.len) = rw c.in-Run.is at c.in_ok-action.ensures.next in
    let system = own_system start c.args.script.now c.args.source.now c.args.world.now.course _ _ h c.requires.system ∙ sym c.fill.ensures.geo in
    let between = ready start c.args.script.now c.args.source.now c.args.world.now.course _ c.fill.new.world.geo c.fill.new.world.course _ h system c.fill.ensures.course (c.fill.ensures.prints tells) in
    on_this_err c.from_residual-in_err-run_action-in-Run.result c.in_err-run_action-in-Run.field-0.0 _ _ c.from_residual-in_err-run_action-in-Run.ensures.1
    (broken_at start c.args.script.now c.args.source.now c.fill.new.source c.args.world.now.course _ _ _ c.in-Run.action c.in-Run.len h read run.0 run.1 (c.run_action.ensures.takes tells) c.fill.new.world.geo system
    c.in_err-run_action-in-Run.field-0.0 (c.in_err-run_action-in-Run.ensures.told tells start.tape.printed _ between))

pub returns-in_ok-run_action-in-Run-clause-told : goal.returns-in_ok-run_action-in-Run-clause-told
returns-in_ok-run_action-in-Run-clause-told g c tells start h =
    let read = c.in_ok-fill.ensures.told tells start.tape (front_of start h.rows) h.reads in
    let run : NextIs c.args.script.now c.fill.new.source (next.Run c.in-Run.action c.in-Run.len) = rw c.in-Run.is at c.in_ok-action.ensures.next in
    let moves : MovesOn c.args.script.now (next.Run c.in-Run.action c.in-Run.len) c.next_row.new.script = rw c.in-Run.is at c.in_ok-action.ensures.moves in
    let system = own_system start c.args.script.now c.args.source.now c.args.world.now.course _ _ h c.requires.system ∙ sym c.fill.ensures.geo in
    let between = ready start c.args.script.now c.args.source.now c.args.world.now.course _ c.fill.new.world.geo c.fill.new.world.course _ h system c.fill.ensures.course (c.fill.ensures.prints tells) in
    rw c.skip.ensures (carried start c.args.script.now c.args.source.now c.fill.new.source c.args.world.now.course _ _ _ c.in-Run.action c.in-Run.len h read run.0 run.1 (c.run_action.ensures.takes tells) c.fill.new.world.geo system
    c.next_row.new.script c.run_action.new.world.course moves (c.in_ok-run_action-in-Run.ensures.told tells start.tape.printed _ between))

pub returns-in-Skipped-clause-told : goal.returns-in-Skipped-clause-told
returns-in-Skipped-clause-told g c tells start h =
    let read = c.in_ok-fill.ensures.told tells start.tape (front_of start h.rows) h.reads in
    let skip : NextIs c.args.script.now c.fill.new.source (next.Skipped c.in-Skipped.len) = rw c.in-Skipped.is at c.in_ok-action.ensures.next in
    let moves : MovesOn c.args.script.now (next.Skipped c.in-Skipped.len) c.next_row.new.script = rw c.in-Skipped.is at c.in_ok-action.ensures.moves in
    rw (c.skip-in-Skipped.ensures, c.fill.ensures.course) (has_skipped start c.args.script.now c.next_row.new.script c.args.source.now c.fill.new.source c.args.world.now.course _ _ skip.0 c.in-Skipped.len h read (c.fill.ensures.prints tells) skip.1 skip.2 moves)
