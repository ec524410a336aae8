-- Whoever holds the file manager is at work, whatever the nodes do.
use Rattle.std.proofs.Common.{◌≡◌, ◌≢◌, ℕ, ◌+◌, ◌<◌, true, false, Bool, List, [], ◌∷◌, length, Option, Some, None, refl, sym, ap, ◌∙◌, subst, arith, inl, inr}
use Rattle.std.specs.Prelude.{◌⊎◌, if◌then◌else◌, is_some, slice_get, slice_set}
use Rattle.std.proofs.lemmas.Option.{same_Some}
use Rattle.zb_types.specs.Tree.{Tree}
use Rattle.zb_types.specs.declared.calls.Call.{Call}
use Rattle.zb_types.specs.declared.calls.Call.TheVariants.{Create, Mkdir, Remove, Rename, Write, Truncate, Sync, Read, List as ListOf, Stat, Find}
use Rattle.zb_types.specs.declared.ids.Ptr.{Ptr}
use Rattle.zb_types.specs.declared.lines.Kind.TheVariants as kind
use Rattle.zb_types.specs.declared.lines.Outcome.{Outcome}
use Rattle.zb_types.specs.declared.nodes.Cause.TheVariants.{NoSpace}
use Rattle.zb_stripe.specs.Reading.{Reading, asked}
use Rattle.zb_given.specs.Given.{Given}
use Rattle.zb_manager.specs.Managers.{SeenManager}
use Rattle.zb_manager.specs.Seen.{held_by}
use Rattle.zb_turns.specs.Turns.{other_holder}
use Rattle.zb_servers.specs.Serving.{is_refused}
use Rattle.zb_basis.specs.declared.basis.Basis.{Basis}
use Rattle.zb_basis.specs.declared.basis.Formed.{Formed}
use Rattle.zb_basis.specs.declared.basis.Sealed.{Sealed}
use Rattle.zb_basis.specs.declared.asks.Ask.{Ask}
use Rattle.zb_basis.specs.declared.calls.Numbered.{Numbered}
use Rattle.zb_work.specs.declared.work.Aim.TheVariants.{Finish}
use Rattle.zb_work.specs.declared.work.Step.{Step}
use Rattle.zb_work.specs.declared.work.Step.TheVariants as step
use Rattle.zb_work.specs.declared.work.Task.{Task}
use Rattle.zb_work.specs.Steps.{new_task}
use Rattle.zb_client.specs.declared.steps.Lookup.{Lookup}
use Rattle.zb_client.specs.declared.steps.Lookup.TheVariants.{Files, Names}
use Rattle.zb_client.specs.declared.steps.Told.{Told}
use Rattle.zb_client.specs.Seen.{SeenClient, kind_of, unready}
use Rattle.zb_client.specs.Telling.{Heard}
use Rattle.zb_client.specs.Wishing.{lookup_of, queue_lookup, read_lookup}
use Rattle.zb_client_laws.specs.Around.{Around}
use Rattle.zb_client_laws.specs.Effects.{GivesUp, TellsNothing, TellsRight}
use Rattle.zb_client_laws.specs.Known.{IsKnown}
use Rattle.zb_line_laws.specs.Calls.{queues}
use Rattle.zb_system.specs.Nodes.{IsClient, SeenNodes, readied, with_client}
use Rattle.zb_system.specs.Looking.{tree_for}
use Rattle.zb_system.specs.Sound.{AreSound}
use Rattle.zb_system.specs.Steps.{Commits, Does, DoesStep, Fetches, HasStepped, IsBehindNow, IsReadied, LooksUp, LooksUpFiles, Stores, TakesCall}
use Rattle.zb_system.proofs.Quiet.{World}
use Rattle.zb_ending.specs.Holding.{ClientWorks, HolderWorks, IsAtWork, SomeGoesOn}
use Rattle.zb_ending.proofs.Tells.{behind_tells, fetch_right, lookup_right, store_tells}
use Rattle.zb_ending.proofs.Busy.{holder_all, holder_of, holds_still, none_holds, not_idle, other_is, own_free, stays_at_work, without_calls, without_work, works_elsewhere, works_here}

-- ---- whose lookup is to hold

-- does a lookup hold the file manager?
abbrev holds : Lookup → Bool
holds (Files hold asks) = hold
holds (Names call) = false

read_holds : (b : ℕ) (call : Call) → holds (read_lookup b call) ≡ false
read_holds b (Create path) = refl
read_holds b (Mkdir path) = refl
read_holds b (Remove path) = refl
read_holds b (Rename from to) = refl
read_holds b (Write fid offset bytes) = refl
read_holds b (Truncate fid length) = refl
read_holds b Sync = refl
read_holds b (Read fid offset len) = refl
read_holds b (ListOf path) = refl
read_holds b (Stat path) = refl
read_holds b (Find path) = refl

queue_holds : (b : ℕ) (queue : List Numbered) → holds (queue_lookup b queue) ≡ false
queue_holds b [] = refl
queue_holds b (read ∷ rest) = read_holds b read.call

-- a client that keeps calls
keeps_some : (c : SeenClient) (tries : ℕ) (kept : List Numbered) → holds (lookup_of c tries kept) ≡ true → 0 < length kept
keeps_some c tries [] e = absurd (off (sym (queue_holds c.block c.queue) ∙ e)) where
  off : false ≡ true → ⊥
  off x = cc x
keeps_some c tries (first ∷ others) e = omega arith

-- ---- a step of a client

module _ {given : Given} {lines : List Outcome} {old : SeenNodes} (s : AreSound given lines old) (works : HolderWorks old) (new : SeenNodes) (i : ℕ) (c : SeenClient) (is : IsClient old i c) (known : IsKnown c)
    (heard : Heard) (clients_are : new.clients ≡ slice_set old.clients i heard.client) where
  abbrev W : Around
  W = World s i c is

  abbrev Seen : Tree
  Seen = tree_for given lines (s.reads i)

  abbrev C : SeenClient
  C = readied c

  number_is : c.client ≡ i + 1
  number_is = (s.clients i c is).1

  -- whoever is at work stays so where nothing is told
  quiet_stays : TellsNothing C heard → IsAtWork c → IsAtWork heard.client
  quiet_stays quiet w = stays_at_work C heard.client quiet.same (record { keeps = w.keeps; works = w.works })

  -- a read is answered where no call is kept
  right_stays : (seen : Tree) → TellsRight seen C heard → IsAtWork c → IsAtWork heard.client
  right_stays seen (inl quiet) w = quiet_stays quiet w
  right_stays seen (inr (d, answers)) w = absurd (without_calls c answers.none_kept w)

  -- the same one holds
  still : new.manager.holder ≡ old.manager.holder → (IsAtWork c → IsAtWork heard.client) → HolderWorks new
  still same stays = holds_still old new i c heard.client is clients_are same stays works

  call_keeps : c.task ≡ None → TakesCall old new C heard → HolderWorks new
  call_keeps none takes = still (ap (λ (m : SeenManager). m.holder) takes.same.manager) (λ w. absurd (without_work c none w))

  module _ (task : Task) (work : c.task ≡ Some task) where
    -- ---- a lookup

    -- it holds from then on
    held_keeps : (asks : List Ask) → lookup_of C task.tries c.kept ≡ Files true asks → new.manager ≡ held_by (Some c.client) old.manager → (IsAtWork c → IsAtWork heard.client) → HolderWorks new
    held_keeps asks wants holder stays = holder_all new each where
      busy : IsAtWork c
      busy = record { keeps = keeps_some C task.tries c.kept (ap holds wants); works = ap (λ (t : Option Task). is_some t) work }

      each : (h : ℕ) → new.manager.holder ≡ Some h → ClientWorks new h
      each h e =
          works_here old new i c heard.client is clients_are (stays busy) h
          (sym (same_Some c.client h (sym (ap (λ (m : SeenManager). m.holder) holder) ∙ e)) ∙ number_is)

    files_keep : (hold : Bool) (asks : List Ask) → lookup_of C task.tries c.kept ≡ Files hold asks → LooksUpFiles old new C task hold heard → (IsAtWork c → IsAtWork heard.client) → HolderWorks new
    files_keep true asks wants looks stays = held_keeps asks wants looks.manager stays
    files_keep false asks wants looks stays = still (ap (λ (m : SeenManager). m.holder) looks.manager) stays

    lookup_keeps : task.step ≡ step.Lookup → (wanted : Lookup) → lookup_of C task.tries c.kept ≡ wanted → LooksUp old new C task wanted heard → HolderWorks new
    lookup_keeps at (Files hold asks) wants looks =
        files_keep hold asks wants looks.0 (right_stays W.tree (lookup_right s i c is known task work new heard clients_are at (Files hold asks) wants looks))
    lookup_keeps at (Names call) wants looks =
        still (ap (λ (m : SeenManager). m.holder) looks.same.manager) (right_stays W.tree (lookup_right s i c is known task work new heard clients_are at (Names call) wants looks))

    -- ---- a fetch

    fetch_keeps : (basis : Basis) (place : ℕ) (ptr : Ptr) (plan : Reading) → task.step ≡ step.Fetch basis place ptr plan
        → Fetches old new C basis (step.Fetch basis place ptr plan) (asked plan) heard → HolderWorks new
    fetch_keeps basis place ptr plan at f =
        still (ap (λ (m : SeenManager). m.holder) f.manager) (right_stays Seen (fetch_right s i c is known task work new heard clients_are basis place ptr plan at f))

    -- ---- a store

    module _ (basis : Basis) (formed : Formed) (at : task.step ≡ step.Store basis formed) (f : Stores old new C basis formed heard) where
      manager_by : (b : Bool) → is_refused f.response ≡ b → new.manager ≡ (if b then held_by (other_holder c.client old.manager.holder) old.manager else old.manager)
      manager_by b e = f.manager ∙ ap (λ (t : Bool). if t then held_by (other_holder c.client old.manager.holder) old.manager else old.manager) e

      -- it doesn't hold any longer
      refused_keeps : new.manager ≡ held_by (other_holder c.client old.manager.holder) old.manager → HolderWorks new
      refused_keeps holder = holder_all new each where
        each : (h : ℕ) → new.manager.holder ≡ Some h → ClientWorks new h
        each h e =
            let other = other_is c.client old.manager.holder h (sym (ap (λ (m : SeenManager). m.holder) holder) ∙ e) in
            works_elsewhere old new i c heard.client is clients_are h (λ own. other.1 (own ∙ sym number_is)) (holder_of old works h other.0)

      store_keeps : HolderWorks new
      store_keeps = by (store_tells s i c is known task work new heard clients_are basis formed at f) where
        by : ((is_refused f.response ≡ false) × TellsNothing C heard) ⊎ ((is_refused f.response ≡ true) × GivesUp C (NoSpace f.asked.0) heard) → HolderWorks new
        by (inl done) = still (ap (λ (m : SeenManager). m.holder) (manager_by false done.0)) (quiet_stays done.1)
        by (inr up) = refused_keeps (manager_by true up.0)

    -- ---- a commit

    commit_keeps : (sealed : Sealed) → Commits old new C sealed heard ⊎ IsBehindNow old new C sealed heard → HolderWorks new
    commit_keeps sealed (inl done) = none_holds new done.committed.holder
    commit_keeps sealed (inr behind) = still behind.same.holder (quiet_stays (behind_tells s i c is known task work new heard clients_are sealed behind))

    -- ---- any of them

    step_keeps : (st : Step) → task.step ≡ st → DoesStep old new C task st heard → HolderWorks new
    step_keeps step.Lookup at does = lookup_keeps at (lookup_of C task.tries c.kept) refl does
    step_keeps (step.Fetch basis place ptr plan) at does = fetch_keeps basis place ptr plan at does
    step_keeps (step.Store basis formed) at does = store_keeps basis formed at does
    step_keeps (step.Mark server generation) at does = absurd does
    step_keeps (step.Commit basis sealed) at does = commit_keeps sealed does.turn

  task_keeps : (t : Option Task) → c.task ≡ t → Does old new C t heard → HolderWorks new
  task_keeps None work does = call_keeps work does
  task_keeps (Some task) work does = step_keeps task work task.step refl does

  pub does_keeps : Does old new C c.task heard → HolderWorks new
  does_keeps does = task_keeps c.task refl does

pub steps_keep : {given : Given} {lines : List Outcome} {old : SeenNodes} (new : SeenNodes) (i : ℕ) (told : Told) → AreSound given lines old → HolderWorks old → HasStepped old new i told → HolderWorks new
steps_keep new i told s works h = does_keeps s works new i h.client h.is h.known h.heard h.clients h.does

-- ---- what isn't a step

pub ready_keeps : (old new : SeenNodes) (i : ℕ) → HolderWorks old → IsReadied old new i → HolderWorks new
ready_keeps old new i works r =
    holds_still old new i r.client (record r.client { is_ready = r.ready }) r.is r.clients r.manager.holder (λ w. record { keeps = w.keeps; works = w.works }) works

pub call_given : (given : Given) (n : SeenNodes) (i : ℕ) (c : SeenClient) (call : Call) → HolderWorks n → IsClient n i c → HolderWorks (with_client n i (queues given c call))
call_given given n i c call works is =
    holds_still n (with_client n i (queues given c call)) i c (queues given c call) is refl refl (λ w. record { keeps = w.keeps; works = w.works }) works

pub finish_given : (n : SeenNodes) (i : ℕ) (c : SeenClient) → HolderWorks n → IsClient n i c → c.task ≡ None → HolderWorks (with_client n i (record (unready c) { task = new_task Finish }))
finish_given n i c works is none =
    holds_still n (with_client n i (record (unready c) { task = new_task Finish })) i c (record (unready c) { task = new_task Finish }) is refl refl (λ w. absurd (without_work c none w)) works

-- ---- who is free to go on

pub holder_busy : (n : SeenNodes) (i : ℕ) (c : SeenClient) → HolderWorks n → n.manager.holder ≡ Some (i + 1) → IsClient n i c → kind_of c ≢ kind.Idle
holder_busy n i c works e is = not_idle c (subst IsAtWork (same_Some w.client c (sym w.is ∙ ap (λ (k : ℕ). slice_get n.clients k) there ∙ is)) w.works) where
  w : ClientWorks n (i + 1)
  w = holder_of n works (i + 1) e

  there : w.place ≡ i
  there = let at = w.numbered in omega (arith, at)

pub some_goes : (given : Given) (lines : List Outcome) (n : SeenNodes) (i : ℕ) (c : SeenClient) → AreSound given lines n → HolderWorks n → IsClient n i c → kind_of c ≢ kind.Idle → SomeGoesOn n
some_goes given lines n i c s works is goes = by n.manager.holder refl where
  by : (o : Option ℕ) → n.manager.holder ≡ o → SomeGoesOn n
  by None e = record { place = i; client = c; is = is; goes = goes; unblocked = ap (other_holder c.client) e }
  by (Some h) e =
      let w = holder_of n works h e in
      let own : w.client.client ≡ h = (s.clients w.place w.client w.is).1 ∙ sym w.numbered in
      record { place = w.place; client = w.client; is = w.is; goes = not_idle w.client w.works; unblocked = own_free w.client.client n.manager.holder (e ∙ ap (λ (k : ℕ). Some k) (sym own)) }

pub idle_free : (n : SeenNodes) → HolderWorks n → ((i : ℕ) (c : SeenClient) → IsClient n i c → kind_of c ≡ kind.Idle) → n.manager.holder ≡ None
idle_free n works idle = by n.manager.holder refl where
  by : (o : Option ℕ) → n.manager.holder ≡ o → n.manager.holder ≡ None
  by None e = e
  by (Some h) e = let w = holder_of n works h e in absurd (not_idle w.client w.works (idle w.place w.client w.is))
