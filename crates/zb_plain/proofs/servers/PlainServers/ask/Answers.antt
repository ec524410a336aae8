use Rattle.std.proofs.Common.{sym, subst}
use Rattle.zb_stripe.specs.Reading.{Answers, asked}
use Rattle.zb_stripe_laws.specs.ReadAtWork.{AnswersFrom}
use Rattle.zb_plain.specs.Standing.{maps_of}
use Rattle.zb_plain.specs.Delivering.{IsFed}
use Rattle.std.proofs.Common.{None, refl}
use Rattle.zb_plain.proofs.ReadAnswers.{read_takes, read_answers_from}
use Rattle.zb_plain.proofs.ReadsOn.{both_ok}
use Rattle.zb_plain.proofs.servers.PlainServers.ask.Goals as goal

pub feed-requires : goal.feed-requires
feed-requires c =
    let plan = c.args.plan.now in
    subst (Answers plan.servers (asked plan)) (sym c.in_ok-answer.ensures.answer)
    (read_takes c.args.self.now plan (c.in-Some.server, c.in-Some.request.now) c.requires.fit (sym c.in-Some.ensures))

pub returns-clause-fed : goal.returns-clause-fed
returns-clause-fed c =
    let plan = c.args.plan.now in
    let maps = maps_of c.args.self.now in
    let from = subst (AnswersFrom maps None None (asked plan)) (sym c.in_ok-answer.ensures.answer)
    (read_answers_from c.args.self.now None None plan (c.in-Some.server, c.in-Some.request.now) refl (sym c.in-Some.ensures)) in
    both_ok c.feed.result _ (IsFed maps plan c.feed.new.self) c.feed.ensures.ok c.feed.ensures.got
    (λ got leads comes. record { answer = c.in_ok-answer.answer; from = from; leads = leads; comes = comes })
