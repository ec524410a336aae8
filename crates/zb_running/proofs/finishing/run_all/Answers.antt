use Rattle.std.proofs.Common.{rules, arith, ◌≡◌}
use Rattle.zb_types.specs.declared.lines.Kind.TheVariants as kind
use Rattle.zb_client.specs.Seen.{SeenClient, kind_of}
use Rattle.zb_running.proofs.Ended.{all_places, idle_upto}
use Rattle.zb_running.proofs.Runs.{telling_more, tells_both, tells_none, tells_until}
use Rattle.zb_running.proofs.Steps.{leaves_both, leaves_none}
use Rattle.zb_running.proofs.finishing.run_all.Goals as goal

pub clients-init : goal.clients-init
clients-init c = (c.requires.telling, leaves_none c.args.course.now.nodes, λ j lt. absurd (omega (arith, lt)), λ geo given lines r. tells_none r)

pub run_client-requires-clause-telling : goal.run_client-requires-clause-telling
run_client-requires-clause-telling c = c.clients.invariant.0

pub run_client-requires-clause-last : goal.run_client-requires-clause-last
run_client-requires-clause-last c = let lt = c.clients-test.true in let same = c.clients.invariant.1.count in let count = c.requires.clients in omega (arith, lt, same, count)

pub returns-in_err-run_client-clause-others : goal.returns-in_err-run_client-clause-others
returns-in_err-run_client-clause-others c = leaves_both _ _ _ c.clients.invariant.1 c.run_client.ensures.others

pub returns-in_err-run_client-clause-err : goal.returns-in_err-run_client-clause-err
returns-in_err-run_client-clause-err c geo given lines r =
    let a = c.clients.invariant.3 geo given lines r in
    let h = tells_until a (c.in_err-run_client.ensures.err geo given _ a.report) in
    search rules

pub clients-preserved : goal.clients-preserved
clients-preserved c = (
  telling_more c.clients.invariant.0 (c.in_ok-run_client.ensures.ok _ _ _ c.clients.invariant.0.report),
  leaves_both _ _ _ c.clients.invariant.1 c.run_client.ensures.others,
  λ j lt. idle_upto c.clients.course.nodes c.run_client.new.course.nodes c.clients.client c.clients.invariant.2 c.run_client.ensures.others.idle c.in_ok-run_client.ensures.idle j lt,
  λ geo given lines r. let a = c.clients.invariant.3 geo given lines r in tells_both a (c.in_ok-run_client.ensures.ok geo given _ a.report),
)

pub returns-clause-idle : goal.returns-clause-idle
returns-clause-idle c =
    let past = c.clients-test.false in
    let count = c.requires.clients in
    let same = c.clients.invariant.1.count in
    all_places (λ (d : SeenClient). kind_of d ≡ kind.Idle) c.clients.course.nodes c.clients.client c.clients.invariant.2 (omega (arith, past, count, same))

pub returns-clause-others : goal.returns-clause-others
returns-clause-others c = c.clients.invariant.1

pub returns-clause-ok : goal.returns-clause-ok
returns-clause-ok c geo given lines r = c.clients.invariant.3 geo given lines r
