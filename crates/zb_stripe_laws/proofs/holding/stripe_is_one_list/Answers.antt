use Rattle.std.proofs.Common.{◌-◌, sym, ◌∙◌, arith}
use Rattle.zb_holding.specs.Holding.{standing, away_at}
use Rattle.zb_stripe_laws.proofs.Away.{away_once}
use Rattle.zb_stripe_laws.proofs.Agreeing.{stripe_agrees}
use Rattle.zb_stripe_laws.proofs.holding.stripe_is_one_list.Goals as goal

pub returns-clause-agree : goal.returns-clause-agree
returns-clause-agree c v log stripe end one other two pos a b =
    stripe_agrees (v.servers - 1) v.fragment (standing v.servers v.maps log stripe) (away_at v.servers v.away log stripe) end pos one other
    (λ j k jn kn. away_once v.servers v.away log stripe j k (omega arith) (omega arith)) a b

pub returns-clause-one : goal.returns-clause-one
returns-clause-one c v log stripe end one other two pos a b =
    a.first ∙ stripe_agrees (v.servers - 1) v.fragment (standing v.servers v.maps log stripe) (away_at v.servers v.away log stripe) end pos a.bytes b.bytes
    (λ j k jn kn. away_once v.servers v.away log stripe j k (omega arith) (omega arith)) a.held b.held ∙ sym b.first
