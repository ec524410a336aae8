-- What each kind of step tells, and what it leaves of tables and sizes.
use Rattle.std.proofs.Common.{◌≡◌, ℕ, true, false, Bool, List, Option, Some, sym, ap, ◌∙◌, subst, inl, inr}
use Rattle.std.specs.Prelude.{◌⊎◌, if◌then◌else◌, slice_set}
use Rattle.zb_types.specs.Apply.{reply_to}
use Rattle.zb_types.specs.Tree.{Tree}
use Rattle.zb_types.specs.declared.ids.Ptr.{Ptr}
use Rattle.zb_types.specs.declared.lines.Outcome.{Outcome}
use Rattle.zb_types.specs.declared.nodes.Cause.TheVariants.{NoSpace}
use Rattle.zb_types.specs.declared.requests.Response.{Response}
use Rattle.zb_types.specs.declared.requests.Response.TheVariants as told
use Rattle.zb_types.specs.declared.requests.StoreFault.TheVariants as fault
use Rattle.zb_stripe.specs.Reading.{Reading, asked}
use Rattle.zb_given.specs.Given.{Given}
use Rattle.zb_manager.specs.Managers.{SeenManager}
use Rattle.zb_manager.specs.Seen.{held_by}
use Rattle.zb_servers.specs.Serving.{is_refused}
use Rattle.zb_servers.specs.Standing.{has}
use Rattle.zb_servers_laws.specs.Answered.{lacks_slot}
use Rattle.zb_basis.specs.declared.basis.Basis.{Basis}
use Rattle.zb_basis.specs.declared.basis.Formed.{Formed}
use Rattle.zb_basis.specs.declared.basis.Sealed.{Sealed}
use Rattle.zb_work.specs.declared.work.Step.TheVariants as step
use Rattle.zb_work.specs.declared.work.Task.{Task}
use Rattle.zb_work.specs.Steps.{step_of}
use Rattle.zb_client.specs.declared.steps.Lookup.{Lookup}
use Rattle.zb_client.specs.declared.steps.Lookup.TheVariants.{Files, Names}
use Rattle.zb_client.specs.Hearing.{HearsStore}
use Rattle.zb_client.specs.Seen.{SeenClient}
use Rattle.zb_client.specs.Telling.{Heard}
use Rattle.zb_client.specs.Wishing.{lookup_of}
use Rattle.zb_client_laws.specs.Around.{Around}
use Rattle.zb_client_laws.specs.Effects.{GivesUp, TellsNothing, TellsRight}
use Rattle.zb_client_laws.specs.Known.{IsKnown}
use Rattle.zb_client_laws.specs.Sound.{ClientIsSound}
use Rattle.zb_client_laws.proofs.Fetched.{fetch_goes_on}
use Rattle.zb_client_laws.proofs.Looking.{found_sound, named_sound}
use Rattle.zb_client_laws.proofs.Storing.{done_sound, full_told}
use Rattle.zb_client_laws.proofs.Telling.{outdated_told}
use Rattle.zb_system.specs.Nodes.{IsClient, SeenNodes, readied}
use Rattle.zb_system.specs.Looking.{tree_for}
use Rattle.zb_system.specs.Sound.{AreSound}
use Rattle.zb_system.specs.Steps.{Fetches, IsBehindNow, LooksUp, Stores}
use Rattle.zb_system.proofs.Asking.{fetch_from}
use Rattle.zb_system.proofs.Quiet.{World, known_ready, sound_ready}
use Rattle.zb_system.proofs.Storing.{answer_is, head_is}

-- tables and sizes are as they were
pub record SameBoth (old new : SeenNodes) : Type 0 where
  pub tables : new.manager.tables ≡ old.manager.tables
  pub sizes : new.manager.sizes ≡ old.manager.sizes

-- so they are where nothing of the file manager has changed
pub both_same : (old new : SeenNodes) → new.manager ≡ old.manager → SameBoth old new
both_same old new same = record { tables = ap (λ (m : SeenManager). m.tables) same; sizes = ap (λ (m : SeenManager). m.sizes) same }

-- and where another may hold it
pub held_same : (old new : SeenNodes) (changes : Bool) (holder : Option ℕ) → new.manager ≡ (if changes then held_by holder old.manager else old.manager) → SameBoth old new
held_same old new true holder same = record { tables = ap (λ (m : SeenManager). m.tables) same; sizes = ap (λ (m : SeenManager). m.sizes) same }
held_same old new false holder same = both_same old new same

-- after a lookup
pub looked_same : (old new : SeenNodes) (c : SeenClient) (task : Task) (wanted : Lookup) (heard : Heard) → LooksUp old new c task wanted heard → SameBoth old new
looked_same old new c task (Files hold asks) heard looks = held_same old new hold (Some c.client) looks.0.manager
looked_same old new c task (Names call) heard looks = both_same old new looks.same.manager

module _ {given : Given} {lines : List Outcome} {old : SeenNodes} (s : AreSound given lines old) (i : ℕ) (c : SeenClient) (is : IsClient old i c) (known : IsKnown c) (task : Task) (work : c.task ≡ Some task)
    (new : SeenNodes) (heard : Heard) (clients_are : new.clients ≡ slice_set old.clients i heard.client) where
  abbrev W : Around
  W = World s i c is

  abbrev Seen : Tree
  Seen = tree_for given lines (s.reads i)

  abbrev C : SeenClient
  C = readied c

  abbrev S : ClientIsSound W Seen C
  S = sound_ready s i c is

  -- a lookup tells nothing, or a reply
  pub lookup_right : task.step ≡ step.Lookup → (wanted : Lookup) → lookup_of C task.tries c.kept ≡ wanted → LooksUp old new C task wanted heard → TellsRight W.tree C heard
  lookup_right at (Files hold asks) wants looks = (found_sound old.servers.slots W s.stands Seen C (known_ready c known) S task work at asks hold wants heard looks.1).1
  lookup_right at (Names call) wants looks =
      (named_sound old.servers.slots W s.stands Seen C (known_ready c known) S task work at call looks.reply
      (looks.right s.contents ∙ ap (λ (t : Tree). reply_to t call) s.stands.stands.says.shows) heard wants looks.heard_is).1

  -- so does a fetch
  pub fetch_right : (basis : Basis) (place : ℕ) (ptr : Ptr) (plan : Reading) → task.step ≡ step.Fetch basis place ptr plan
      → Fetches old new C basis (step.Fetch basis place ptr plan) (asked plan) heard → TellsRight Seen C heard
  fetch_right basis place ptr plan at f =
      (fetch_goes_on old.servers.slots W s.stands Seen C (known_ready c known) S basis place ptr plan (ap step_of work ∙ at) f.response f.serving heard
      (fetch_from s i c is known task work basis place ptr plan at f.asked f.response f.is f.served.answer) f.hears).1

  -- a store tells nothing, or is refused, and the batch is given up
  module _ (basis : Basis) (formed : Formed) (at : task.step ≡ step.Store basis formed) (f : Stores old new C basis formed heard) where
    hears_as : (response : Response) → f.response ≡ response → HearsStore C (step.Store basis formed) response heard
    hears_as response e = subst (λ (r : Response). HearsStore C (step.Store basis formed) r heard) e f.hears

    store_by : (lacks : Bool) → f.response ≡ (if lacks then told.Refused (fault.NoSlot (has old.servers f.asked.0).free) else told.Done)
        → ((is_refused f.response ≡ false) × TellsNothing C heard) ⊎ ((is_refused f.response ≡ true) × GivesUp C (NoSpace f.asked.0) heard)
    store_by true e =
        inr (
          ap is_refused e,
          subst (GivesUp C (NoSpace f.asked.0)) (sym (hears_as (told.Refused (fault.NoSlot (has old.servers f.asked.0).free)) e))
              (full_told W Seen C S basis formed (ap step_of work ∙ at) (has old.servers f.asked.0).free f.asked (head_is formed.plan ∙ f.is)),
        )
    store_by false e =
        inl (
          ap is_refused e,
          subst (TellsNothing C) (sym (hears_as told.Done e))
              (done_sound W Seen C S basis formed (ap step_of work ∙ at) old.servers.slots s.stands f.asked (head_is formed.plan ∙ f.is)).1,
        )

    pub store_tells : ((is_refused f.response ≡ false) × TellsNothing C heard) ⊎ ((is_refused f.response ≡ true) × GivesUp C (NoSpace f.asked.0) heard)
    store_tells = store_by (lacks_slot (has old.servers f.asked.0) f.asked.1) (answer_is s i c is known task work basis formed at new heard clients_are f)

  -- a batch that is behind tells nothing
  pub behind_tells : (sealed : Sealed) → IsBehindNow old new C sealed heard → TellsNothing C heard
  behind_tells sealed behind = subst (TellsNothing C) (sym behind.heard_is) (outdated_told C behind.fault)
