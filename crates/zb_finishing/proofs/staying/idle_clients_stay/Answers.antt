use Rattle.std.proofs.Common.{◌≡◌, ◌∙◌, ap}
use Rattle.std.specs.Prelude.{ℕ, [], slice_get}
use Rattle.zb_types.specs.declared.lines.Kind.TheVariants.{Idle}
use Rattle.zb_client.specs.Seen.{SeenClient, kind_of}
use Rattle.zb_finishing.proofs.Places.{kept_at, set_at}
use Rattle.zb_finishing.proofs.Resting.{idle_stands}
use Rattle.zb_finishing.proofs.staying.idle_clients_stay.Goals as goal

pub returns-clause-step : goal.returns-clause-step
returns-clause-step c old new i told h j was =
    kept_at (λ (d : SeenClient). kind_of d ≡ Idle) old new i h.client h.heard.client h.is h.clients (λ idle. absurd (idle_stands old new i told h idle)) j was

pub returns-clause-step_keeps : goal.returns-clause-step_keeps
returns-clause-step_keeps c old new i told h j idle none =
    set_at (λ (d : SeenClient). d.kept ≡ []) old new i h.client h.heard.client h.is h.clients j
    (λ same. absurd (idle_stands old new i told h (idle h.client (ap (λ (k : ℕ). slice_get old.clients k) same ∙ h.is)))) (λ _. none)

pub returns-clause-ready : goal.returns-clause-ready
returns-clause-ready c old new i r j was =
    kept_at (λ (d : SeenClient). kind_of d ≡ Idle) old new i r.client (record r.client { is_ready = r.ready }) r.is r.clients (λ idle. idle) j was

pub returns-clause-ready_keeps : goal.returns-clause-ready_keeps
returns-clause-ready_keeps c old new i r j none =
    kept_at (λ (d : SeenClient). d.kept ≡ []) old new i r.client (record r.client { is_ready = r.ready }) r.is r.clients (λ e. e) j none
