use Rattle.std.proofs.Common.{[], get_or, refl}
use Rattle.zb_holding.specs.Carrying.{carried}
use Rattle.zb_stripe_laws.proofs.Beside.{beside}
use Rattle.zb_stripe_laws.proofs.Plans.{begins, goes_on, stays, part_of_plan, holds, ends}
use Rattle.zb_stripe_laws.proofs.planning.plan_at_work.Goals as goal

pub returns-clause-begins : goal.returns-clause-begins
returns-clause-begins c v out class flush differ begin = begins v out class flush differ begin

pub returns-clause-goes_on : goal.returns-clause-goes_on
returns-clause-goes_on c v out class flush left request is work = goes_on v out class flush left request is work

pub returns-clause-stays : goal.returns-clause-stays
returns-clause-stays c v new out class flush left same work = stays v out class flush new left same work

pub returns-clause-beside : goal.returns-clause-beside
returns-clause-beside c v out class flush left asked is work =
    stays v out class flush (carried v.maps asked) left (λ i d l k a. beside v.servers v.maps asked flush.log (get_or flush.parts i d).stripe k (is i d l)) work

pub returns-clause-parts : goal.returns-clause-parts
returns-clause-parts c v out class flush left before after part work is = part_of_plan v out class flush left work before after part is

pub returns-clause-holds : goal.returns-clause-holds
returns-clause-holds c v out class flush left before after part end work is fits spared some le =
    holds v out class flush left work before after part is end fits spared some le

pub returns-clause-ends : goal.returns-clause-ends
returns-clause-ends c v out class flush before after part work is fits spared = ends v out class flush [] work before after part is refl fits spared
