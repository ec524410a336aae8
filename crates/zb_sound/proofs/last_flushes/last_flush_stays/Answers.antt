use Rattle.std.proofs.Common.{sym, inl}
use Rattle.zb_sound.specs.LastFlush.{IsBefore}
use Rattle.zb_sound.proofs.Fronts.{nothing_still, plan_of, server_still}
use Rattle.zb_sound.proofs.Placed.{last_grows, last_stays}
use Rattle.zb_sound.proofs.last_flushes.last_flush_stays.Goals as goal

pub returns-clause-stays : goal.returns-clause-stays
returns-clause-stays c z contents new_contents st new held later who after log front phase leaves same nothing w =
    last_stays z contents new_contents st new held later who after log front phase leaves same nothing w

pub returns-clause-contents : goal.returns-clause-contents
returns-clause-contents c z contents new st held who log front phase same w = last_grows z contents new st held who log same front phase w

pub returns-clause-request : goal.returns-clause-request
returns-clause-request c maps asked log front before nothing = nothing_still maps asked log front before nothing

pub returns-clause-plan : goal.returns-clause-plan
returns-clause-plan c n f out class flush i asked log front is ne = plan_of (IsBefore log front) n f out class flush (λ q a k. inl (λ e. ne (sym e))) i asked is

pub returns-clause-server : goal.returns-clause-server
returns-clause-server c st new a log front same none nothing = server_still st new a log front same none nothing
