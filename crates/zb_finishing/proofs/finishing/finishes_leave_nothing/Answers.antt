use Rattle.std.proofs.Common.{refl, inl, inr}
use Rattle.zb_work.specs.declared.work.Aim.TheVariants.{Finish}
use Rattle.zb_work.specs.Steps.{new_task}
use Rattle.zb_client.specs.Seen.{SeenClient, unready}
use Rattle.zb_system.specs.Nodes.{with_client}
use Rattle.zb_finishing.specs.Clients.{Finishes}
use Rattle.zb_finishing.proofs.Emptied.{does_finishes, idle_keeps_none}
use Rattle.zb_finishing.proofs.Places.{kept_at, set_at}
use Rattle.zb_finishing.proofs.Resting.{idle_rests}
use Rattle.zb_finishing.proofs.finishing.finishes_leave_nothing.Goals as goal

pub returns-clause-rests : goal.returns-clause-rests
returns-clause-rests c client idle none = record { none_queued = (idle_rests client idle).1; ends = inr none }

pub returns-clause-flushed : goal.returns-clause-flushed
returns-clause-flushed c n i client is idle j others =
    let flushed : SeenClient = record (unready client) { task = new_task Finish } in
    set_at Finishes n (with_client n i flushed) i client flushed is refl j (λ _. record { none_queued = (idle_rests client idle).1; ends = inl refl }) others

pub returns-clause-step : goal.returns-clause-step
returns-clause-step c given lines old new i told s h j was =
    kept_at Finishes old new i h.client h.heard.client h.is h.clients (λ f. does_finishes s new i h.client h.is h.known h.heard h.clients h.does f) j was

pub returns-clause-ready : goal.returns-clause-ready
returns-clause-ready c old new i r j was =
    kept_at Finishes old new i r.client (record r.client { is_ready = r.ready }) r.is r.clients (λ f. record { none_queued = f.none_queued; ends = f.ends }) j was

pub returns-clause-ends : goal.returns-clause-ends
returns-clause-ends c n i finishes idle client is = idle_keeps_none client (idle_rests client (idle client is)).0 (finishes client is)
