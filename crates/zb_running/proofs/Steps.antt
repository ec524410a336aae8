-- What a step leaves of clients that are at rest, and of the steps that are left.
use Rattle.std.proofs.Common.{◌≡◌, ◌≢◌, ℕ, ◌-◌, ◌≤◌, ◌<◌, List, [], length, Some, None, refl, sym, ap, ◌∙◌, arith, inl, inr}
use Rattle.std.specs.Prelude.{slice_get}
use Rattle.std.proofs.lemmas.Option.{none-some}
use Rattle.zb_types.specs.declared.geometry.Geometry.{Geometry}
use Rattle.zb_types.specs.declared.lines.Kind.TheVariants as kind
use Rattle.zb_types.specs.declared.lines.Outcome.{Outcome}
use Rattle.zb_given.specs.Given.{Given}
use Rattle.zb_client.specs.declared.steps.Told.{Told}
use Rattle.zb_client.specs.Seen.{SeenClient, kind_of}
use Rattle.zb_progress.specs.Fresh.{MayRise}
use Rattle.zb_progress.proofs.Rising.{may-rise}
use Rattle.zb_system.specs.Nodes.{SeenNodes}
use Rattle.zb_system.specs.Sound.{AreSound}
use Rattle.zb_system.specs.Steps.{HasStepped, IsReadied}
use Rattle.zb_ending.specs.Left.{work_left}
use Rattle.zb_ending.proofs.Fewer.{steps_less}
use Rattle.zb_nodes.specs.Seen.{kind_at}
use Rattle.zb_nodes.specs.declared.answers.Halt.{Halt}
use Rattle.zb_finishing.specs.Clients.{Finishes}
use Rattle.zb_finishing.proofs.Alone.{idle_seen, seen_idle}
use Rattle.zb_finishing.proofs.Emptied.{does_finishes}
use Rattle.zb_finishing.proofs.Places.{kept_at, set_at}
use Rattle.zb_finishing.proofs.Resting.{idle_stands}
use Rattle.zb_finishing.proofs.Sized.{ready_sized, step_sized}
use Rattle.zb_course.specs.Seen.{SeenCourse}
use Rattle.zb_course.specs.Steps.{HasHalted, StepIs, holder_of}
use Rattle.zb_course.specs.declared.step.Step.{Step}
use Rattle.zb_course.specs.declared.step.Step.TheVariants as step
use Rattle.zb_running.specs.Reports.{HasReport}
use Rattle.zb_running.specs.Resting.{LeavesRest}

-- ---- clients at rest

pub leaves_step : {given : Given} {lines : List Outcome} {old : SeenNodes} (s : AreSound given lines old) (new : SeenNodes) (i : ℕ) (told : Told) → HasStepped old new i told → LeavesRest old new
leaves_step {given} {lines} {old} s new i told h = record {
  count = (step_sized old new i told h).clients;
  idle = λ j was. kept_at (λ (d : SeenClient). kind_of d ≡ kind.Idle) old new i h.client h.heard.client h.is h.clients (λ idle. absurd (idle_stands old new i told h idle)) j was;
  none_kept = λ j idle none.
      set_at (λ (d : SeenClient). d.kept ≡ []) old new i h.client h.heard.client h.is h.clients j
      (λ same. absurd (idle_stands old new i told h (idle h.client (ap (λ (k : ℕ). slice_get old.clients k) same ∙ h.is)))) (λ _. none);
  finishes = λ j was. kept_at Finishes old new i h.client h.heard.client h.is h.clients (λ f. does_finishes s new i h.client h.is h.known h.heard h.clients h.does f) j was;
}

pub leaves_ready : (old new : SeenNodes) (i : ℕ) → IsReadied old new i → LeavesRest old new
leaves_ready old new i r = record {
  count = (ready_sized old new i r).clients;
  idle = λ j was. kept_at (λ (d : SeenClient). kind_of d ≡ kind.Idle) old new i r.client (record r.client { is_ready = r.ready }) r.is r.clients (λ idle. idle) j was;
  none_kept = λ j idle none. kept_at (λ (d : SeenClient). d.kept ≡ []) old new i r.client (record r.client { is_ready = r.ready }) r.is r.clients (λ e. e) j none;
  finishes = λ j was. kept_at Finishes old new i r.client (record r.client { is_ready = r.ready }) r.is r.clients (λ f. record { none_queued = f.none_queued; ends = f.ends }) j was;
}

pub leaves_none : (n : SeenNodes) → LeavesRest n n
leaves_none n = record { count = refl; idle = λ j was. was; none_kept = λ j idle none. none; finishes = λ j was. was }

pub leaves_both : (old mid new : SeenNodes) → LeavesRest old mid → LeavesRest mid new → LeavesRest old new
leaves_both old mid new a b = record {
  count = b.count ∙ a.count;
  idle = λ j was. b.idle j (a.idle j was);
  none_kept = λ j idle none. b.none_kept j (a.idle j idle) (a.none_kept j idle none);
  finishes = λ j was. b.finishes j (a.finishes j was);
}

-- a step that isn't blocked names no holder
pub no_holder : (did : Step) → ((holder : ℕ) → did ≡ step.Blocked holder → ⊥) → holder_of did ≡ None
no_holder step.Idle other = refl
no_holder (step.Blocked holder) other = absurd (other holder refl)
no_holder step.Moved other = refl
no_holder step.Answered other = refl

module _ {geo : Geometry} {given : Given} {lines : List Outcome} {old : SeenCourse} (r : HasReport geo given lines old) (new : SeenCourse) (client : ℕ) where
  pub leaves_by : (did : Step) → StepIs old new client did → LeavesRest old.nodes new.nodes
  leaves_by step.Idle h = leaves_ready old.nodes new.nodes (client - 1) h.nodes
  leaves_by (step.Blocked holder) h = leaves_ready old.nodes new.nodes (client - 1) h.nodes
  leaves_by step.Moved m = leaves_step r.settled.sound new.nodes (client - 1) m.told m.stepped
  leaves_by step.Answered a = leaves_step r.settled.sound new.nodes (client - 1) a.told a.stepped

  pub leaves_halt : (why : Halt) → HasHalted old new client why → LeavesRest old.nodes new.nodes
  leaves_halt why (inl h) = leaves_ready old.nodes new.nodes (client - 1) h.0.nodes
  leaves_halt why (inr b) = leaves_step r.settled.sound new.nodes (client - 1) b.0.told b.0.stepped

  -- no line waits behind a step, and one that answers nothing leaves the text
  pub settled_by : (did : Step) → StepIs old new client did → new.untold ≡ None
  settled_by step.Idle h = h.untold ∙ r.settled.told
  settled_by (step.Blocked holder) h = h.untold ∙ r.settled.told
  settled_by step.Moved m = m.untold ∙ r.settled.told
  settled_by step.Answered a = a.tells.told

  pub quiet_by : (did : Step) → StepIs old new client did → did ≢ step.Answered → new.text ≡ old.text
  quiet_by step.Idle h silent = h.text
  quiet_by (step.Blocked holder) h silent = h.text
  quiet_by step.Moved m silent = m.text
  quiet_by step.Answered a silent = absurd (silent refl)

  -- an idle client is idle still
  pub rests_by : 1 ≤ client → client ≤ length old.nodes.clients → (did : Step) → StepIs old new client did → did ≡ step.Idle → kind_at old.nodes (client - 1) ≡ Some kind.Idle → kind_at new.nodes (client - 1) ≡ Some kind.Idle
  rests_by low high did h is idle = idle_seen new.nodes (client - 1) (omega (arith, low, high, l.count)) (l.idle (client - 1) (seen_idle old.nodes (client - 1) idle)) where
    l : LeavesRest old.nodes new.nodes
    l = leaves_by did h

  -- ---- the steps that are left

  -- no number is near its last value
  rising : MayRise old.nodes.manager.tables
  rising =
      let few = r.settled.well.few in
      let calls = r.settled.well.calls in
      let sized : old.ledger.clients ≡ old.nodes.manager.sizes.clients = sym r.settled.well.clients ∙ r.settled.sound.count in
      let limit = r.settled.sound.stands.limits.clients_high in
      may-rise old.nodes.manager.tables.next_entry old.nodes.manager.tables r.settled.sound.rose (omega (arith, few, calls, sized, limit))

  pub nearer : (did : Step) → StepIs old new client did → did ≢ step.Idle → holder_of did ≡ None → work_left new.nodes < work_left old.nodes
  nearer step.Idle h made free = absurd (made refl)
  nearer (step.Blocked holder) h made free = absurd (none-some holder (sym free))
  nearer step.Moved m made free = steps_less new.nodes (client - 1) m.told r.settled.sound rising m.stepped
  nearer step.Answered a made free = steps_less new.nodes (client - 1) a.told r.settled.sound rising a.stepped
