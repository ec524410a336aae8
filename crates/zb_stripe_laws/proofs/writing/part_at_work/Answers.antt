use Rattle.zb_stripe_laws.proofs.Working.{at_work_begins, at_work_next, at_work_stays, at_work_holds, at_work_ends, between_requests}
use Rattle.zb_stripe_laws.proofs.writing.part_at_work.Goals as goal

pub returns-clause-begins : goal.returns-clause-begins
returns-clause-begins c v out class log part b = at_work_begins v.servers v.fragment out class log part v.maps v.away b

pub returns-clause-goes_on : goal.returns-clause-goes_on
returns-clause-goes_on c v out class log part i request is w = at_work_next v.servers v.fragment out class log part v.maps v.away i request is w

pub returns-clause-stays : goal.returns-clause-stays
returns-clause-stays c v new out class log part i same w = at_work_stays v.servers v.fragment out class log part v.maps new v.away i same w

pub returns-clause-between : goal.returns-clause-between
returns-clause-between c v out class log part i w fits spared below = between_requests v.servers v.fragment v.away out class log part spared fits v.maps i w below

pub returns-clause-holds : goal.returns-clause-holds
returns-clause-holds c v out class log part end i fits spared some le w = at_work_holds v.servers v.fragment out class log part fits v.maps v.away end i spared some le w

pub returns-clause-ends : goal.returns-clause-ends
returns-clause-ends c v out class log part i fits spared le w = at_work_ends v.servers v.fragment out class log part fits v.maps v.away i spared le w
