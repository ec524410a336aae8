use Rattle.std.proofs.Common.{refl}
use Rattle.zb_system.specs.Nodes.{with_client as changed}
use Rattle.zb_finishing.proofs.Places.{set_others}
use Rattle.zb_finishing.proofs.staying.others_stay.Goals as goal

pub returns-clause-step : goal.returns-clause-step
returns-clause-step c old new i told h = set_others old new i h.heard.client h.clients

pub returns-clause-ready : goal.returns-clause-ready
returns-clause-ready c old new i r = set_others old new i (record r.client { is_ready = r.ready }) r.clients

pub returns-clause-with_client : goal.returns-clause-with_client
returns-clause-with_client c n i client = set_others n (changed n i client) i client refl
