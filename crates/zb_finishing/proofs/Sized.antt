-- Steps leave the sizes of a system.
use Rattle.std.proofs.Common.{◌≡◌, ℕ, List, length, Option, Some, None, ap, ◌∙◌, inl, inr}
use Rattle.std.specs.Prelude.{◌⊎◌, slice_set}
use Rattle.zb_turns.specs.Turns.{other_holder}
use Rattle.zb_servers.specs.Serving.{is_refused}
use Rattle.zb_servers.specs.Standing.{SeenServers}
use Rattle.zb_basis.specs.declared.basis.Sealed.{Sealed}
use Rattle.zb_work.specs.declared.work.Step.{Step}
use Rattle.zb_work.specs.declared.work.Step.TheVariants as step
use Rattle.zb_work.specs.declared.work.Task.{Task}
use Rattle.zb_client.specs.declared.steps.Lookup.{Lookup}
use Rattle.zb_client.specs.declared.steps.Lookup.TheVariants.{Files, Names}
use Rattle.zb_client.specs.declared.steps.Told.{Told}
use Rattle.zb_client.specs.Seen.{SeenClient}
use Rattle.zb_client.specs.Telling.{Heard}
use Rattle.zb_client.specs.Wishing.{lookup_of}
use Rattle.zb_system.specs.Nodes.{SeenNodes, readied}
use Rattle.zb_system.specs.Steps.{Commits, Does, DoesStep, HasStepped, IsBehindNow, IsReadied, LooksUp}
use Rattle.zb_system.proofs.Joining.{set_length}
use Rattle.zb_ending.proofs.Tells.{both_same, held_same, looked_same}
use Rattle.zb_finishing.specs.Clients.{SizesStay}

-- the clients are as many
pub set_sized : (old new : SeenNodes) (i : ℕ) (d : SeenClient) → new.clients ≡ slice_set old.clients i d → new.manager.sizes ≡ old.manager.sizes → new.servers.slots ≡ old.servers.slots → SizesStay old new
set_sized old new i d clients_are sizes slots = record {
  sizes = sizes;
  slots = slots;
  clients = ap (λ (cs : List SeenClient). length cs) clients_are ∙ set_length old.clients i d;
}

module _ (old new : SeenNodes) (c : SeenClient) (heard : Heard) where
  abbrev Same : Type 0
  Same = (new.manager.sizes ≡ old.manager.sizes) × (new.servers.slots ≡ old.servers.slots)

  slots_same : new.servers ≡ old.servers → new.servers.slots ≡ old.servers.slots
  slots_same same = ap (λ (x : SeenServers). x.slots) same

  looked_slots : (task : Task) (wanted : Lookup) → LooksUp old new c task wanted heard → new.servers.slots ≡ old.servers.slots
  looked_slots task (Files hold asks) looks = slots_same looks.0.servers
  looked_slots task (Names call) looks = slots_same looks.same.servers

  turn_sizes : (sealed : Sealed) → Commits old new c sealed heard ⊎ IsBehindNow old new c sealed heard → new.manager.sizes ≡ old.manager.sizes
  turn_sizes sealed (inl done) = done.committed.sizes
  turn_sizes sealed (inr behind) = behind.same.sizes

  step_same : (task : Task) (st : Step) → DoesStep old new c task st heard → Same
  step_same task step.Lookup does = ((looked_same old new c task (lookup_of c task.tries c.kept) heard does).sizes, looked_slots task (lookup_of c task.tries c.kept) does)
  step_same task (step.Fetch basis place ptr plan) does = ((both_same old new does.manager).sizes, does.served.slots)
  step_same task (step.Store basis formed) does = ((held_same old new (is_refused does.response) (other_holder c.client old.manager.holder) does.manager).sizes, does.served.slots)
  step_same task (step.Mark server generation) does = absurd does
  step_same task (step.Commit basis sealed) does = (turn_sizes sealed does.turn, slots_same does.servers)

  pub does_same : (t : Option Task) → Does old new c t heard → Same
  does_same None does = ((both_same old new does.same.manager).sizes, slots_same does.same.servers)
  does_same (Some task) does = step_same task task.step does

pub step_sized : (old new : SeenNodes) (i : ℕ) (told : Told) → HasStepped old new i told → SizesStay old new
step_sized old new i told h =
    let same = does_same old new (readied h.client) h.heard h.client.task h.does in
    set_sized old new i h.heard.client h.clients same.0 same.1

pub ready_sized : (old new : SeenNodes) (i : ℕ) → IsReadied old new i → SizesStay old new
ready_sized old new i r = set_sized old new i (record r.client { is_ready = r.ready }) r.clients r.manager.sizes (ap (λ (x : SeenServers). x.slots) r.servers)
