use Rattle.std.proofs.Common.{◌≡◌, true, false, List, length, None, is_some, refl, sym, ap, subst, ◌∙◌, arith}
use Rattle.std.specs.Prelude.{slice_get}
use Rattle.std.proofs.lemmas.Result.{MatchResult-from_err}
use Rattle.zb_holding.specs.Carrying.{carried_all}
use Rattle.zb_stripe.specs.Writing.{plan_requests}
use Rattle.zb_plain.specs.Standing.{Entries, maps_of}
use Rattle.zb_plain.specs.Answering.{MayAsk}
use Rattle.zb_plain.specs.Delivering.{IsBegun, IsTaken}
use Rattle.zb_plain.proofs.Asking.{plan_may_ask}
use Rattle.zb_plain.proofs.Taking.{plan_is_done}
use Rattle.zb_plain.proofs.Deliveries.{IsLeft, none_done, take-done, is_begun, all_carried, stands_next, one_done, none_left, at_some, some-mapped}
use Rattle.zb_plain.proofs.servers.PlainServers.write.Goals as goal

pub requests-init : goal.requests-init
requests-init c flush is = none_done c.args.self.now (plan_requests c.args.geo.now.servers c.args.geo.now.fragment None c.args.class flush) c.in_ok-plan.plan (c.in_ok-plan.ensures flush is)

pub deliver-requires : goal.deliver-requires
deliver-requires c =
    let n = c.args.geo.now.servers in
    let f = c.args.geo.now.fragment in
    let old = c.args.self.now in
    let may = c.requires.may in
    let plan = plan_requests n f None c.args.class may.flush in
    let left = c.requests.invariant may.flush may.is in
    let some : is_some (slice_get c.requests.plan 0) ≡ true =
    sym (ap is_some c.next.ensures) ∙ some-mapped (λ p. (p.0, p.1.now)) c.next.result ∙ sym c.is_some.ensures ∙ c.requests-test.true in
    at_some (IsTaken c.requests.self) (slice_get c.requests.plan 0) some (λ asked is.
    let stands = stands_next old c.requests.self plan c.requests.plan left asked is in
    record {
      may = subst (λ k. MayAsk k asked) (sym (left.count ∙ c.requires.servers))
          (plan_may_ask n f (omega (arith, c.args.geo.now.limits.servers_low)) (omega (arith, c.args.geo.now.limits.fragment_high)) None c.args.class may.flush (length left.done) asked stands);
      done = plan_is_done n f c.requests.self (maps_of old) None None c.args.class may.flush (length left.done) asked may.differ may.begin stands refl
          (left.carried ∙ ap (carried_all (maps_of old)) (sym (take-done old c.requests.self plan c.requests.plan left)));
    })

pub requests-preserved : goal.requests-preserved
requests-preserved c flush is =
    let old = c.args.self.now in
    let plan = plan_requests c.args.geo.now.servers c.args.geo.now.fragment None c.args.class flush in
    subst (IsLeft old c.deliver.new.self plan) (sym c.in_ok-deliver.ensures.left)
    (one_done old c.requests.self plan c.requests.plan (c.requests.invariant flush is) c.deliver.new.self c.in_ok-deliver.ensures.ok c.in_ok-deliver.ensures.count)

pub returns-in_err-plan-clause-err : goal.returns-in_err-plan-clause-err
returns-in_err-plan-clause-err c =
    MatchResult-from_err c.from_residual.result _ _ c.from_residual.ensures.0 (λ e flush is. record { i = 0; carried = refl })

pub returns-in_err-deliver-clause-err : goal.returns-in_err-deliver-clause-err
returns-in_err-deliver-clause-err c =
    let old = c.args.self.now in
    MatchResult-from_err c.from_residual-in_err-deliver.result _ _ c.from_residual-in_err-deliver.ensures.0
    (λ e flush is.
    let plan = plan_requests c.args.geo.now.servers c.args.geo.now.fragment None c.args.class flush in
    subst (λ (now : List Entries). IsBegun (maps_of old) (maps_of now) plan) (sym c.in_err-deliver.ensures.err) (is_begun old c.requests.self plan c.requests.plan (c.requests.invariant flush is)))

pub returns-clause-ok : goal.returns-clause-ok
returns-clause-ok c flush is =
    let plan = plan_requests c.args.geo.now.servers c.args.geo.now.fragment None c.args.class flush in
    let none : is_some (slice_get c.requests.plan 0) ≡ false =
    sym (ap is_some c.next.ensures) ∙ some-mapped (λ p. (p.0, p.1.now)) c.next.result ∙ sym c.is_some.ensures ∙ c.requests-test.false in
    all_carried c.args.self.now c.requests.self plan c.requests.plan (c.requests.invariant flush is) (none_left c.requests.plan none)
