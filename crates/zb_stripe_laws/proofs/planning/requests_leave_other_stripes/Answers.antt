use Rattle.std.proofs.Common.{◌-◌, inl}
use Rattle.zb_holding.specs.Holding.{standing, away_at}
use Rattle.zb_holding.specs.Carrying.{carried}
use Rattle.zb_stripe_laws.proofs.Beside.{beside}
use Rattle.zb_stripe_laws.proofs.Seeing.{holds_seen}
use Rattle.zb_stripe_laws.proofs.Left.{remains_less}
use Rattle.zb_stripe_laws.proofs.planning.requests_leave_other_stripes.Goals as goal

pub returns-clause-stands : goal.returns-clause-stands
returns-clause-stands c n maps asked log stripe k is = beside n maps asked log stripe k is

pub returns-clause-holds : goal.returns-clause-holds
returns-clause-holds c v asked log stripe end bytes is held =
    holds_seen (v.servers - 1) v.fragment (standing v.servers v.maps log stripe) (standing v.servers (carried v.maps asked) log stripe) (away_at v.servers v.away log stripe) end bytes
    (λ k a. beside v.servers v.maps asked log stripe k is) held

pub returns-clause-remains : goal.returns-clause-remains
returns-clause-remains c v asked log stripe end bytes is rest =
    remains_less (v.servers - 1) v.fragment (standing v.servers v.maps log stripe) (standing v.servers (carried v.maps asked) log stripe) (away_at v.servers v.away log stripe) end bytes
    (λ k a. inl (beside v.servers v.maps asked log stripe k is)) rest
