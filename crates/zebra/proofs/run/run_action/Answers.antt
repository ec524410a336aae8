use Rattle.std.proofs.Common.{refl}
use Rattle.zb_types.specs.declared.nodes.Node.TheVariants.{Client}
use Rattle.zb_types.specs.declared.lines.Line.TheVariants.{Steps, StepTo}
use Rattle.zebra.proofs.Stepping.{steps_done}
use Rattle.zebra.proofs.run.run_action.Goals as goal

pub returns-in-Steps-clause-told : goal.returns-in-Steps-clause-told
returns-in-Steps-clause-told g c tells start script b =
    rw c.in-Steps.is (steps_done start c.args.world.now.geo script c.step_times.new.world.course (Steps (Client c.in-Steps.client) c.in-Steps.count) _ c.step_times.result refl (c.step_times.ensures.told tells start script b))

pub returns-in-Until-clause-told : goal.returns-in-Until-clause-told
returns-in-Until-clause-told g c tells start script b =
    rw c.in-Until.is (steps_done start c.args.world.now.geo script c.step_until.new.world.course (StepTo (Client c.in-Until.client) c.in-Until.kind) _ c.step_until.result refl (c.step_until.ensures.told tells start script b))
