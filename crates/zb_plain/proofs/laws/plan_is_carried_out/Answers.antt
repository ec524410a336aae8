use Rattle.std.proofs.Common.{sym, ap, ◌∙◌}
use Rattle.zb_holding.specs.Holding.{Maps}
use Rattle.zb_holding.specs.Carrying.{carried}
use Rattle.zb_plain.proofs.Asking.{plan_may_ask}
use Rattle.zb_plain.proofs.Taking.{plan_is_done, carried_next}
use Rattle.zb_plain.proofs.laws.plan_is_carried_out.Goals as goal

pub returns-clause-asked : goal.returns-clause-asked
returns-clause-asked c n f out class flush i asked some small is = plan_may_ask n f some small out class flush i asked is

pub returns-clause-done : goal.returns-clause-done
returns-clause-done c v servers out class flush i asked differ begin is away now =
    plan_is_done v.servers v.fragment servers v.maps out v.away class flush i asked differ begin is away now

pub returns-clause-next : goal.returns-clause-next
returns-clause-next c servers new maps plan i asked is now then = then ∙ ap (λ (ms : Maps). carried ms asked) now ∙ sym (carried_next maps plan i asked is)
