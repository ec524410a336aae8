use Rattle.std.proofs.Common.{◌-◌, eqb}
use Rattle.zb_types.specs.declared.requests.Request.TheVariants as ask
use Rattle.zb_holding.specs.Placing.{frag_id, server_of}
use Rattle.zb_holding.specs.Holding.{standing, away_at}
use Rattle.zb_holding.specs.Carrying.{carried}
use Rattle.zb_stripe_laws.proofs.Left.{held_remains, remains_less, remains_away, remains_lower, after_delete}
use Rattle.zb_stripe_laws.proofs.remaining.what_is_held_remains.Goals as goal

pub returns-clause-held : goal.returns-clause-held
returns-clause-held c v log stripe end bytes held =
    held_remains (v.servers - 1) v.fragment (standing v.servers v.maps log stripe) (away_at v.servers v.away log stripe) end bytes held

pub returns-clause-deleted : goal.returns-clause-deleted
returns-clause-deleted c v server id log stripe end bytes rest =
    remains_less (v.servers - 1) v.fragment (standing v.servers v.maps log stripe) (standing v.servers (carried v.maps (server, ask.Delete id)) log stripe)
    (away_at v.servers v.away log stripe) end bytes
    (λ k a. after_delete id (frag_id log stripe k) (standing v.servers v.maps log stripe k) (eqb server.0 (server_of v.servers (frag_id log stripe k)).0)) rest

pub returns-clause-lost : goal.returns-clause-lost
returns-clause-lost c m f before now away end bytes same rest = remains_less m f before now away end bytes same rest

pub returns-clause-away : goal.returns-clause-away
returns-clause-away c m f stands away more end bytes weaker rest = remains_away m f stands away more end bytes weaker rest

pub returns-clause-lower : goal.returns-clause-lower
returns-clause-lower c m f stands away low high bytes le rest = remains_lower m f stands away low high bytes le rest
