use Rattle.std.proofs.Common.{sym, subst}
use Rattle.zb_stripe.specs.Reading.{Answers, asked}
use Rattle.zb_stripe_laws.specs.ReadAtWork.{AnswersFrom}
use Rattle.zb_plain.specs.Standing.{maps_of}
use Rattle.zb_plain.proofs.ReadsOn.{both_ok}
use Rattle.zb_fetching.specs.Feeding.{IsFedUnlessLost}
use Rattle.zb_fetching.proofs.Asked.{takes, answers_from, retrieves}
use Rattle.zb_fetching.proofs.asking.ask.Goals as goal

pub feed-requires : goal.feed-requires
feed-requires c =
    let plan = c.args.plan.now in
    subst (Answers plan.servers (asked plan)) (sym c.in_ok-answer.ensures.answer)
    (takes c.args.plain.now c.args.lost plan (c.in-Some.server, c.in-Some.request.now) (sym c.in-Some.ensures) c.requires.fit)

pub returns-clause-fed : goal.returns-clause-fed
returns-clause-fed c =
    let plan = c.args.plan.now in
    let maps = maps_of c.args.plain.now in
    let from = subst (AnswersFrom maps c.args.lost c.args.lost (asked plan)) (sym c.in_ok-answer.ensures.answer)
    (answers_from c.args.plain.now c.args.lost plan (c.in-Some.server, c.in-Some.request.now) (sym c.in-Some.ensures)) in
    both_ok c.feed.result _ (IsFedUnlessLost maps c.args.lost plan c.feed.new.self) c.feed.ensures.ok c.feed.ensures.got
    (λ got leads comes. record { answer = c.in_ok-answer.answer; from = from; leads = leads; comes = comes })

pub returns-clause-same : goal.returns-clause-same
returns-clause-same c = c.answer.ensures.same (retrieves c.args.plan.now (c.in-Some.server, c.in-Some.request.now) (sym c.in-Some.ensures))
