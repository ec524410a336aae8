-- A step of a client leaves all clients fewer steps.
use Rattle.std.proofs.Common.{◌≡◌, ℕ, ◌+◌, ◌*◌, ◌<◌, true, false, Bool, List, length, Option, Some, None, refl, sym, ap, ◌∙◌, subst, arith, inl, inr}
use Rattle.std.specs.Prelude.{◌⊎◌, if◌then◌else◌, slice_set}
use Rattle.std.specs.List.{sum_by}
use Rattle.zb_types.specs.Tree.{Tree}
use Rattle.zb_types.specs.declared.ids.Ptr.{Ptr}
use Rattle.zb_types.specs.declared.lines.Outcome.{Outcome}
use Rattle.zb_types.specs.declared.requests.Response.{Response}
use Rattle.zb_types.specs.declared.requests.Response.TheVariants as told
use Rattle.zb_types.specs.declared.requests.StoreFault.TheVariants as fault
use Rattle.zb_stripe.specs.Reading.{Reading, asked}
use Rattle.zb_given.specs.Given.{Given}
use Rattle.zb_tables.specs.Tables.{Tables}
use Rattle.zb_tables.specs.Taking.{Sizes}
use Rattle.zb_turns.specs.Turns.{other_holder}
use Rattle.zb_servers.specs.Serving.{is_refused}
use Rattle.zb_servers.specs.Standing.{has}
use Rattle.zb_servers_laws.specs.Answered.{lacks_slot}
use Rattle.zb_basis.specs.declared.basis.Basis.{Basis}
use Rattle.zb_basis.specs.declared.basis.Formed.{Formed}
use Rattle.zb_basis.specs.declared.basis.Sealed.{Sealed}
use Rattle.zb_work.specs.declared.work.Step.{Step}
use Rattle.zb_work.specs.declared.work.Step.TheVariants as step
use Rattle.zb_work.specs.declared.work.Task.{Task}
use Rattle.zb_work.specs.Steps.{step_of}
use Rattle.zb_client.specs.declared.steps.Lookup.{Lookup}
use Rattle.zb_client.specs.declared.steps.Lookup.TheVariants.{Files, Names}
use Rattle.zb_client.specs.declared.steps.Told.{Told}
use Rattle.zb_client.specs.Hearing.{HearsStore}
use Rattle.zb_client.specs.Seen.{SeenClient}
use Rattle.zb_client.specs.Telling.{Heard}
use Rattle.zb_client.specs.Wishing.{lookup_of}
use Rattle.zb_client_laws.specs.Around.{Around}
use Rattle.zb_client_laws.specs.Known.{IsKnown}
use Rattle.zb_client_laws.specs.Sound.{ClientIsSound}
use Rattle.zb_progress.specs.Fresh.{MayRise}
use Rattle.zb_progress.specs.Left.{steps_from_lookup, steps_left}
use Rattle.zb_progress.proofs.Arriving.{fetch-falls}
use Rattle.zb_progress.proofs.Committing.{refused-stale}
use Rattle.zb_progress.proofs.Falling.{others-add}
use Rattle.zb_progress.proofs.LookingUp.{found-falls, named-falls}
use Rattle.zb_progress.proofs.Stepping.{call-falls, commit-falls, done-falls, full-falls, refused-falls}
use Rattle.zb_system.specs.Nodes.{IsClient, SeenNodes, readied}
use Rattle.zb_system.specs.Looking.{tree_for}
use Rattle.zb_system.specs.Sound.{AreSound}
use Rattle.zb_system.specs.Steps.{Commits, Does, DoesStep, Fetches, HasStepped, IsBehindNow, IsReadied, LooksUp, Stores, TakesCall}
use Rattle.zb_system.proofs.Asking.{fetch_from}
use Rattle.zb_system.proofs.Quiet.{World, known_ready, sound_ready}
use Rattle.zb_system.proofs.Storing.{answer_is, head_is}
use Rattle.zb_ending.specs.Left.{work_left}
use Rattle.zb_ending.proofs.Tells.{SameBoth, both_same, held_same, looked_same}
use Rattle.zb_ending.proofs.Replied.{replies_count}
use Rattle.zb_ending.proofs.Totals.{set_more, set_swap}

-- what the clients come to with these sizes and tables
abbrev Total : Sizes → Tables → List SeenClient → ℕ
Total z t clients = sum_by (λ c. steps_left z t c) clients

-- one client has fewer steps by what is added to all others, or more
module _ (old new : SeenNodes) (i : ℕ) (c d : SeenClient) (is : IsClient old i c) (clients_are : new.clients ≡ slice_set old.clients i d) (sizes : new.manager.sizes ≡ old.manager.sizes) where
  abbrev Z : Sizes
  Z = old.manager.sizes

  now_is : (t : Tables) → new.manager.tables ≡ t → work_left new ≡ Total Z t (slice_set old.clients i d)
  now_is t tables =
      ap (λ (z : Sizes). Total z new.manager.tables new.clients) sizes ∙ ap (λ (u : Tables). Total Z u new.clients) tables ∙ ap (Total Z t) clients_are

  pub fewer : new.manager.tables ≡ old.manager.tables → steps_left Z old.manager.tables d < steps_left Z old.manager.tables c → work_left new < work_left old
  fewer tables lt =
      let now = now_is old.manager.tables tables in
      let all = set_swap (λ x. steps_left Z old.manager.tables x) old.clients i c d is in
      omega (arith, now, all, lt)

  pub far_fewer : length old.clients ≡ Z.clients → steps_left Z new.manager.tables d + Z.clients * steps_from_lookup Z < steps_left Z old.manager.tables c → work_left new < work_left old
  far_fewer count lt =
      let now = now_is new.manager.tables refl in
      let all = set_more (λ x. steps_left Z old.manager.tables x) (λ x. steps_left Z new.manager.tables x) (steps_from_lookup Z) (others-add Z old.manager.tables new.manager.tables) old.clients i c d is in
      let many : length old.clients * steps_from_lookup Z ≡ Z.clients * steps_from_lookup Z = ap (λ (n : ℕ). n * steps_from_lookup Z) count in
      omega (arith, now, all, many, lt)

module _ {given : Given} {lines : List Outcome} {old : SeenNodes} (s : AreSound given lines old) (may : MayRise old.manager.tables) (new : SeenNodes) (i : ℕ) (c : SeenClient) (is : IsClient old i c) (known : IsKnown c)
    (heard : Heard) (clients_are : new.clients ≡ slice_set old.clients i heard.client) where
  abbrev W : Around
  W = World s i c is

  abbrev Seen : Tree
  Seen = tree_for given lines (s.reads i)

  abbrev C : SeenClient
  C = readied c

  abbrev S : ClientIsSound W Seen C
  S = sound_ready s i c is

  -- it has fewer steps itself
  abbrev Falls : Heard → Type 0
  Falls h = steps_left W.z W.tables h.client < steps_left W.z W.tables C

  by_own : SameBoth old new → Falls heard → work_left new < work_left old
  by_own same falls = fewer old new i c heard.client is clients_are same.sizes same.tables falls

  call_less : c.task ≡ None → TakesCall old new C heard → work_left new < work_left old
  call_less none takes = by_own (both_same old new takes.same.manager) (subst Falls (sym takes.heard_is) (call-falls W.z W.tables C none takes.queued))

  module _ (task : Task) (work : c.task ≡ Some task) where
    -- ---- a lookup

    lookup_falls : task.step ≡ step.Lookup → (wanted : Lookup) → lookup_of C task.tries c.kept ≡ wanted → LooksUp old new C task wanted heard → Falls heard
    lookup_falls at (Files hold asks) wants looks = found-falls old.servers.slots W s.stands Seen C (known_ready c known) S task work at hold asks wants heard looks.1
    lookup_falls at (Names call) wants looks = subst Falls (sym looks.heard_is) (named-falls W.z W.tables C task work looks.reply call wants)

    lookup_less : task.step ≡ step.Lookup → LooksUp old new C task (lookup_of C task.tries c.kept) heard → work_left new < work_left old
    lookup_less at looks =
        by_own (looked_same old new C task (lookup_of C task.tries c.kept) heard looks) (lookup_falls at (lookup_of C task.tries c.kept) refl looks)

    -- ---- a fetch

    fetch_less : (basis : Basis) (place : ℕ) (ptr : Ptr) (plan : Reading) → task.step ≡ step.Fetch basis place ptr plan
        → Fetches old new C basis (step.Fetch basis place ptr plan) (asked plan) heard → work_left new < work_left old
    fetch_less basis place ptr plan at f =
        by_own (both_same old new f.manager)
        (fetch-falls old.servers.slots W s.stands Seen C (known_ready c known) S basis place ptr plan (ap step_of work ∙ at) f.response f.serving heard
        (fetch_from s i c is known task work basis place ptr plan at f.asked f.response f.is f.served.answer) f.hears)

    -- ---- a store

    module _ (basis : Basis) (formed : Formed) (at : task.step ≡ step.Store basis formed) (f : Stores old new C basis formed heard) where
      hears_as : (response : Response) → f.response ≡ response → HearsStore C (step.Store basis formed) response heard
      hears_as response e = subst (λ (r : Response). HearsStore C (step.Store basis formed) r heard) e f.hears

      store_falls : (lacks : Bool) → f.response ≡ (if lacks then told.Refused (fault.NoSlot (has old.servers f.asked.0).free) else told.Done) → Falls heard
      store_falls true e =
          subst Falls (sym (hears_as (told.Refused (fault.NoSlot (has old.servers f.asked.0).free)) e))
          (full-falls W.z W.tables C basis formed (ap step_of work ∙ at) (has old.servers f.asked.0).free known.aim)
      store_falls false e =
          subst Falls (sym (hears_as told.Done e)) (done-falls W.z W.tables C basis formed (ap step_of work ∙ at) f.asked (head_is formed.plan ∙ f.is))

      store_less : work_left new < work_left old
      store_less =
          by_own (held_same old new (is_refused f.response) (other_holder c.client old.manager.holder) f.manager)
          (store_falls (lacks_slot (has old.servers f.asked.0) f.asked.1) (answer_is s i c is known task work basis formed at new heard clients_are f))

    -- ---- a commit

    module _ (basis : Basis) (sealed : Sealed) (at : task.step ≡ step.Commit basis sealed) where
      behind_less : IsBehindNow old new C sealed heard → work_left new < work_left old
      behind_less behind =
          by_own (record { tables = behind.same.tables; sizes = behind.same.sizes })
          (subst Falls (sym behind.heard_is)
          (refused-falls W.z W.tables C basis sealed (ap step_of work ∙ at)
          (refused-stale W Seen C S basis sealed (ap step_of work ∙ at) old.servers.slots s.stands (known_ready c known) may behind.fault behind.refusal).1 behind.fault))

      done_less : Commits old new C sealed heard → work_left new < work_left old
      done_less done =
          far_fewer old new i c heard.client is clients_are done.committed.sizes s.count
          (subst (λ (h : Heard). steps_left W.z new.manager.tables h.client + W.z.clients * steps_from_lookup W.z < steps_left W.z W.tables C) (sym done.heard_is)
          (commit-falls W Seen C (known_ready c known) S basis sealed (ap step_of work ∙ at) done.replies new.manager.tables (replies_count s i c is known task work basis sealed at new heard done)))

      commit_less : Commits old new C sealed heard ⊎ IsBehindNow old new C sealed heard → work_left new < work_left old
      commit_less (inl done) = done_less done
      commit_less (inr behind) = behind_less behind

    -- ---- any of them

    step_less : (st : Step) → task.step ≡ st → DoesStep old new C task st heard → work_left new < work_left old
    step_less step.Lookup at does = lookup_less at does
    step_less (step.Fetch basis place ptr plan) at does = fetch_less basis place ptr plan at does
    step_less (step.Store basis formed) at does = store_less basis formed at does
    step_less (step.Mark server generation) at does = absurd does
    step_less (step.Commit basis sealed) at does = commit_less basis sealed at does.turn

  task_less : (t : Option Task) → c.task ≡ t → Does old new C t heard → work_left new < work_left old
  task_less None work does = call_less work does
  task_less (Some task) work does = step_less task work task.step refl does

  pub does_less : Does old new C c.task heard → work_left new < work_left old
  does_less does = task_less c.task refl does

pub steps_less : {given : Given} {lines : List Outcome} {old : SeenNodes} (new : SeenNodes) (i : ℕ) (told : Told) → AreSound given lines old → MayRise old.manager.tables → HasStepped old new i told → work_left new < work_left old
steps_less new i told s may h = does_less s may new i h.client h.is h.known h.heard h.clients h.does

-- memory changes nothing
pub ready_same : (old new : SeenNodes) (i : ℕ) → IsReadied old new i → work_left new ≡ work_left old
ready_same old new i r =
    let z = old.manager.sizes in
    let t = old.manager.tables in
    let d : SeenClient = record r.client { is_ready = r.ready } in
    let now = now_is old new i r.client d r.is r.clients r.manager.sizes t r.manager.tables in
    let all = set_swap (λ x. steps_left z t x) old.clients i r.client d r.is in
    omega (arith, now, all)
