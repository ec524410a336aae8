use Rattle.std.proofs.Common.{subst, sym}
use Rattle.zb_stripe.specs.Reading.{AnswersRetrieve}
use Rattle.zb_stripe.proofs.read_plan.may_answer.Goals as goal

pub returns-in-Refused-clause-fits : goal.returns-in-Refused-clause-fits
returns-in-Refused-clause-fits c e =
    subst (AnswersRetrieve c.args.servers c.args.id c.args.len) (sym c.in-Refused.is) (c.may_refuse.ensures.fits c.args.servers c.args.id c.args.len e)

pub returns-in-Refused-clause-differs : goal.returns-in-Refused-clause-differs
returns-in-Refused-clause-differs c e answers =
    c.may_refuse.ensures.differs c.args.servers c.args.id c.args.len e (subst (AnswersRetrieve c.args.servers c.args.id c.args.len) c.in-Refused.is answers)
