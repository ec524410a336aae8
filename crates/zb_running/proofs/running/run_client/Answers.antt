use Rattle.std.proofs.Common.{rules, arith, ◌≢◌}
use Rattle.zb_course.specs.declared.step.Step.TheVariants as step
use Rattle.zb_running.proofs.Runs.{telling_step, tells_halt, tells_none, tells_step}
use Rattle.zb_running.proofs.Steps.{leaves_both, leaves_none}
use Rattle.zb_running.proofs.running.run_client.Goals as goal

pub steps-init : goal.steps-init
steps-init c = (c.requires.telling, leaves_none c.args.course.now.nodes, λ geo given lines r. tells_none r)

pub step_or_holder-requires-clause-telling : goal.step_or_holder-requires-clause-telling
step_or_holder-requires-clause-telling c = c.steps.invariant.0

pub step_or_holder-requires-clause-last : goal.step_or_holder-requires-clause-last
step_or_holder-requires-clause-last c = let same = c.steps.invariant.1.count in let last = c.requires.last in omega (arith, same, last)

pub returns-in_err-step_or_holder-clause-others : goal.returns-in_err-step_or_holder-clause-others
returns-in_err-step_or_holder-clause-others c = leaves_both _ _ _ c.steps.invariant.1 c.step_or_holder.ensures.others

pub returns-in_err-step_or_holder-clause-err : goal.returns-in_err-step_or_holder-clause-err
returns-in_err-step_or_holder-clause-err c geo given lines r =
    let a = c.steps.invariant.2 geo given lines r in
    let h = tells_halt a (c.in_err-step_or_holder.ensures.err geo given _ a.report) in
    search rules

pub steps-smaller : goal.steps-smaller
steps-smaller c =
    let moves : c.in_ok-step_or_holder.field-0 ≢ step.Idle = search rules in
    c.in_ok-step_or_holder.ensures.less moves

pub steps-preserved : goal.steps-preserved
steps-preserved c = (
  telling_step c.steps.invariant.0 (c.in_ok-step_or_holder.ensures.ok _ _ _ c.steps.invariant.0.report),
  leaves_both _ _ _ c.steps.invariant.1 c.step_or_holder.ensures.others,
  λ geo given lines r. let a = c.steps.invariant.2 geo given lines r in tells_step a (c.in_ok-step_or_holder.ensures.ok geo given _ a.report),
)

pub returns-clause-others : goal.returns-clause-others
returns-clause-others c = leaves_both _ _ _ c.steps.invariant.1 c.step_or_holder.ensures.others

pub returns-clause-ok : goal.returns-clause-ok
returns-clause-ok c geo given lines r = let a = c.steps.invariant.2 geo given lines r in tells_step a (c.in_ok-step_or_holder.ensures.ok geo given _ a.report)
