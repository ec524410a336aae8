-- Each kind of step leaves the nodes sound.
use Rattle.std.proofs.Common.{◌≡◌, ℕ, List, Option, Some, None, refl, subst, ap}
use Rattle.std.specs.Prelude.{slice_set}
use Rattle.zb_types.specs.declared.lines.Outcome.{Outcome}
use Rattle.zb_given.specs.Given.{Given}
use Rattle.zb_work.specs.declared.work.Step.{Step}
use Rattle.zb_work.specs.declared.work.Step.TheVariants as step
use Rattle.zb_work.specs.declared.work.Task.{Task}
use Rattle.zb_client.specs.declared.steps.Told.{Told}
use Rattle.zb_client.specs.Seen.{SeenClient}
use Rattle.zb_client.specs.Telling.{Heard}
use Rattle.zb_client_laws.specs.Known.{IsKnown}
use Rattle.zb_line_laws.specs.Calls.{lines_in}
use Rattle.zb_system.specs.Nodes.{IsClient, SeenNodes, readied}
use Rattle.zb_system.specs.Sound.{AreSound, StaysSound}
use Rattle.zb_system.specs.Steps.{Does, DoesStep, HasStepped}
use Rattle.zb_system.proofs.Asking.{fetch_stays}
use Rattle.zb_system.proofs.Committing.{commit_turn_stays}
use Rattle.zb_system.proofs.Inside.{call_stays}
use Rattle.zb_system.proofs.Looking.{looks_stay}
use Rattle.zb_system.proofs.Storing.{store_stays}

module _ {given : Given} {lines : List Outcome} {old : SeenNodes} (s : AreSound given lines old) (new : SeenNodes) (i : ℕ) (c : SeenClient) (is : IsClient old i c) (known : IsKnown c)
    (heard : Heard) (clients_are : new.clients ≡ slice_set old.clients i heard.client) where
  step_stays : (task : Task) → c.task ≡ Some task → (st : Step) → task.step ≡ st → DoesStep old new (readied c) task st heard → StaysSound s new i (lines_in heard.told)
  step_stays task work step.Lookup at does = looks_stay s i c is known task work at new heard clients_are does
  step_stays task work (step.Fetch basis place ptr plan) at does = fetch_stays s i c is known task work basis place ptr plan at new heard clients_are does
  step_stays task work (step.Store basis formed) at does = store_stays s i c is known task work basis formed at new heard clients_are does
  step_stays task work (step.Mark server generation) at does = absurd does
  step_stays task work (step.Commit basis sealed) at does = commit_turn_stays s i c is known task work basis sealed at new heard clients_are does

  does_stays : (t : Option Task) → c.task ≡ t → Does old new (readied c) t heard → StaysSound s new i (lines_in heard.told)
  does_stays None work does = call_stays s new i c is work heard clients_are does
  does_stays (Some task) work does = step_stays task work task.step refl does

  pub kind_stays : Does old new (readied c) c.task heard → StaysSound s new i (lines_in heard.told)
  kind_stays does = does_stays c.task refl does

pub has_stepped : {given : Given} {lines : List Outcome} {old : SeenNodes} (s : AreSound given lines old) (new : SeenNodes) (i : ℕ) (told : Told) → HasStepped old new i told → StaysSound s new i (lines_in told)
has_stepped s new i told h = subst (StaysSound s new i) (ap lines_in h.told_is) (kind_stays s new i h.client h.is h.known h.heard h.clients h.does)
