use Rattle.std.proofs.Common.{rules, arith, refl, ◌∙◌, ◌≡◌, []}
use Rattle.zb_client.specs.Seen.{SeenClient}
use Rattle.zb_finishing.proofs.Begun.{begun_before}
use Rattle.zb_running.proofs.Ended.{all_places, none_upto}
use Rattle.zb_running.proofs.Runs.{finishing_more, tells_both, tells_none, tells_until}
use Rattle.zb_running.proofs.finishing.flush_all.Goals as goal

pub clients-init : goal.clients-init
clients-init c = (c.requires.telling, refl, c.requires.idle, λ j lt. absurd (omega (arith, lt)), λ geo given lines r finishing. tells_none r)

pub flush_client-requires-clause-telling : goal.flush_client-requires-clause-telling
flush_client-requires-clause-telling c = c.clients.invariant.0

pub flush_client-requires-clause-last : goal.flush_client-requires-clause-last
flush_client-requires-clause-last c = let lt = c.clients-test.true in let same = c.clients.invariant.1 in let count = c.requires.clients in omega (arith, lt, same, count)

pub flush_client-requires-clause-idle : goal.flush_client-requires-clause-idle
flush_client-requires-clause-idle c = c.clients.invariant.2

pub returns-in_err-flush_client-clause-err : goal.returns-in_err-flush_client-clause-err
returns-in_err-flush_client-clause-err c geo given lines r finishing =
    let a = c.clients.invariant.4 geo given lines r finishing in
    let h = tells_until a (c.in_err-flush_client.ensures.err geo given _ a.report (begun_before given lines a.more finishing)) in
    search rules

pub clients-preserved : goal.clients-preserved
clients-preserved c =
    let t = c.clients.invariant.0 in (
      finishing_more t (c.in_ok-flush_client.ensures.ok t.geo t.given t.lines t.report t.finishing),
      c.flush_client.ensures.count ∙ c.clients.invariant.1,
      c.in_ok-flush_client.ensures.idle,
      λ j lt. none_upto c.clients.course.nodes c.flush_client.new.course.nodes c.clients.client c.clients.invariant.3 c.in_ok-flush_client.ensures.others c.in_ok-flush_client.ensures.none_kept j lt,
      λ geo given lines r finishing.
          let a = c.clients.invariant.4 geo given lines r finishing in
          tells_both a (c.in_ok-flush_client.ensures.ok geo given _ a.report (begun_before given lines a.more finishing)),
    )

pub returns-clause-idle : goal.returns-clause-idle
returns-clause-idle c = c.clients.invariant.2

pub returns-clause-none_kept : goal.returns-clause-none_kept
returns-clause-none_kept c =
    let past = c.clients-test.false in
    let count = c.requires.clients in
    let same = c.clients.invariant.1 in
    all_places (λ (d : SeenClient). d.kept ≡ []) c.clients.course.nodes c.clients.client c.clients.invariant.3 (omega (arith, past, count, same))

pub returns-clause-ok : goal.returns-clause-ok
returns-clause-ok c geo given lines r finishing = c.clients.invariant.4 geo given lines r finishing
