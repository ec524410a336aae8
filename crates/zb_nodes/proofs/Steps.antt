-- What a step comes to, of one client and of the nodes.
use Rattle.std.proofs.Common.{◌≡◌, ℕ, ◌<◌, ◌+◌, Bool, true, false, cond, List, [], ◌∷◌, length, Option, Some, None, Result, Ok, Err, refl, sym, ap, ◌∙◌, subst, inl, inr, arith}
use Rattle.std.specs.Prelude.{◌↔◌, IfErr, IfOk, OnErr, option_map, slice_get, slice_set}
use Rattle.std.proofs.lemmas.Bool.{false≢true}
use Rattle.std.proofs.lemmas.Option.{none-some, same_Some}
use Rattle.zb_types.specs.declared.lines.Kind.{Kind}
use Rattle.zb_types.specs.declared.lines.Kind.TheVariants as kind
use Rattle.zb_claims.specs.Points.{tree_at}
use Rattle.zb_given.specs.Given.{script_of}
use Rattle.zb_manager.specs.Managers.{SameTables, SeenManager}
use Rattle.zb_servers.specs.Standing.{SeenServers}
use Rattle.zb_turns.specs.Turns.{other_holder}
use Rattle.zb_basis.specs.declared.calls.Numbered.{Numbered}
use Rattle.zb_work.specs.declared.work.Step.{Step}
use Rattle.zb_work.specs.declared.work.Step.TheVariants as step
use Rattle.zb_work.specs.declared.work.Task.{Task}
use Rattle.zb_work.specs.Steps.{kind_of_step}
use Rattle.zb_client.specs.declared.steps.Told.{Told}
use Rattle.zb_client.specs.declared.steps.Wish.{Wish}
use Rattle.zb_client.specs.Seen.{SeenClient, kind_of, kind_of_task}
use Rattle.zb_client.specs.Telling.{Heard}
use Rattle.zb_client.specs.Wishing.{lookup_of, step_wish, task_wish, wish_of}
use Rattle.zb_client_laws.specs.Known.{IsKnown}
use Rattle.zb_client_laws.proofs.Moves.{ready_sound}
use Rattle.zb_system.specs.Looking.{tree_for}
use Rattle.zb_system.specs.Nodes.{IsClient, SeenNodes, readied}
use Rattle.zb_system.specs.Steps.{Does, HasStepped, IsReadied}
use Rattle.zb_nodes.specs.declared.answers.Halt.{Halt}
use Rattle.zb_nodes.specs.declared.answers.Halt.TheVariants as halt
use Rattle.zb_nodes.specs.declared.answers.Moved.{Moved}
use Rattle.zb_nodes.specs.declared.answers.Moved.TheVariants as moved
use Rattle.zb_nodes.specs.Among.{IsAmong, MayStep, met, nodes}
use Rattle.zb_nodes.specs.Halting.{HasCause, HasCauseAt, OnWorn, StepWears, WearsAt}
use Rattle.zb_nodes.specs.Moving.{CameTo, Carries, DoesNext, IsReadiedOnly, IsStill}
use Rattle.zb_nodes.specs.Seen.{IfStill, IfTold, IsSound, blocker_at, blocker_of, kind_at}
use Rattle.zb_nodes.specs.Wished.{blocker_in, holder_in, waits}

-- ---- a client without work

-- it waits for nobody
idle_waits : (c : SeenClient) → kind_of c ≡ kind.Idle → waits (wish_of c) ≡ false
idle_waits c = by c.task
  where
    by_queue : (queue : List Numbered) → kind_of_task None queue ≡ kind.Idle → waits (task_wish c None queue) ≡ false
    by_queue [] e = refl
    by_queue (call ∷ calls) e = absurd (cc e)

    by_step : (tries : ℕ) (s : Step) → kind_of_step s ≡ kind.Idle → waits (step_wish c tries s) ≡ false
    by_step tries step.Lookup e = absurd (cc e)
    by_step tries (step.Fetch basis place ptr plan) e = absurd (cc e)
    by_step tries (step.Store basis formed) e = absurd (cc e)
    by_step tries (step.Mark server generation) e = absurd (cc e)
    by_step tries (step.Commit basis sealed) e = absurd (cc e)

    by : (t : Option Task) → kind_of_task t c.queue ≡ kind.Idle → waits (task_wish c t c.queue) ≡ false
    by None e = by_queue c.queue e
    by (Some task) e = by_step task.tries task.step e

-- it does nothing
idle_does : (c : SeenClient) (old new : SeenNodes) (heard : Heard) → kind_of c ≡ kind.Idle → Does old new (readied c) c.task heard → ⊥
idle_does c old new heard = by c.task
  where
    by_queue : (queue : List Numbered) → kind_of_task None queue ≡ kind.Idle → 0 < length queue → ⊥
    by_queue [] e some = omega (arith, some)
    by_queue (call ∷ calls) e some = cc e

    by_step : (s : Step) → kind_of_step s ≡ kind.Idle → ⊥
    by_step step.Lookup e = cc e
    by_step (step.Fetch basis place ptr plan) e = cc e
    by_step (step.Store basis formed) e = cc e
    by_step (step.Mark server generation) e = cc e
    by_step (step.Commit basis sealed) e = cc e

    by : (t : Option Task) → kind_of_task t c.queue ≡ kind.Idle → Does old new (readied c) t heard → ⊥
    by None e does = by_queue c.queue e does.queued
    by (Some task) e does = by_step task.step e

-- ---- one client

module _ (m : SeenManager) (s : SeenServers) (c : SeenClient) (a : IsAmong m s c) where
  readied_among : IsAmong m s (readied c)
  readied_among = record {
    contents = a.contents;
    tree = a.tree;
    seen = a.seen;
    stands = a.stands;
    sound = ready_sound (met m s a.contents a.tree) a.seen c a.sound true;
    servers = a.servers;
  }

  -- a client that has its memory may make a step
  pub readied_may : (d : SeenClient) → d ≡ readied c → IsKnown d → MayStep m s d
  readied_may d is known = subst (MayStep m s) (sym is) (record { among = readied_among; known = subst IsKnown is known; ready = refl })

-- ---- the nodes

module _ (n : SeenNodes) (i : ℕ) (c : SeenClient) (is : IsClient n i c) where
  -- a client of sound nodes is sound among file manager and servers
  pub sound_among : IsSound n → IsAmong n.manager n.servers c
  sound_among s = record {
    contents = s.sound.contents;
    tree = tree_at (script_of s.given) s.lines;
    seen = tree_for s.given s.lines (s.sound.reads i);
    stands = s.sound.stands;
    sound = (s.sound.clients i c is).0;
    servers = record { count = s.sound.servers.count; index = s.sound.servers.index; fences = s.sound.servers.fences };
  }

  pub sound_number : IsSound n → c.client ≡ i + 1
  sound_number s = (s.sound.clients i c is).1

  -- its kind among the nodes
  kind_is : kind_at n i ≡ Some (kind_of c)
  kind_is = ap (option_map kind_of) is

  module _ (after : SeenManager) (left : SeenServers) (now : SeenClient) where
    abbrev New : SeenNodes
    New = nodes (slice_set n.clients i now) after left

    readied_only : IsReadiedOnly n.manager n.servers c after left now → IsReadied n New i
    readied_only r = record {
      client = c;
      is = is;
      ready = r.ready;
      clients = ap (slice_set n.clients i) r.client;
      manager = r.manager;
      servers = r.servers;
    }

    abbrev Came : Moved → Type 0
    Came = CameTo n.manager n.servers c after left now

    pub step_told : (r : Result Moved Halt) → IfOk r Came → IfOk r (IfTold (HasStepped n New i))
    step_told (Err e) came = tt
    step_told (Ok moved.Idle) came = tt
    step_told (Ok (moved.Blocked holder)) came = tt
    step_told (Ok (moved.Told told)) came = record {
      client = c;
      is = is;
      known = came.0;
      heard = record { client = now; told = told };
      told_is = refl;
      clients = refl;
      does = came.1 n.clients (slice_set n.clients i now);
    }

    pub step_still : (r : Result Moved Halt) → IfOk r Came → IfOk r (IfStill (IsReadied n New i))
    step_still (Err e) came = tt
    step_still (Ok moved.Idle) came = readied_only came.1
    step_still (Ok (moved.Blocked holder)) came = readied_only came
    step_still (Ok (moved.Told told)) came = tt

    pub step_blocked : (client : ℕ) → c.client ≡ client → (r : Result Moved Halt) → IfOk r (λ k. holder_in k ≡ blocker_in n.manager.holder client (wish_of c)) → IfOk r (λ k. holder_in k ≡ blocker_at n i)
    step_blocked client same (Err e) by = tt
    step_blocked client same (Ok k) by = by ∙ ap (λ (x : ℕ). blocker_in n.manager.holder x (wish_of c)) (sym same) ∙ sym (ap (blocker_of n.manager.holder) is)

    idle_there : kind_at n i ≡ Some kind.Idle → kind_of c ≡ kind.Idle
    idle_there e = same_Some (kind_of c) kind.Idle (sym kind_is ∙ e)

    none_waits : (client : ℕ) → kind_of c ≡ kind.Idle → blocker_in n.manager.holder client (wish_of c) ≡ None
    none_waits client e = ap (λ (b : Bool). cond b (other_holder client n.manager.holder) None) (idle_waits c e)

    pub step_idle : (client : ℕ) (r : Result Moved Halt) → IfOk r Came → IfOk r (λ k. holder_in k ≡ blocker_in n.manager.holder client (wish_of c)) → IfOk r (λ k. (k ≡ moved.Idle) ↔ (kind_at n i ≡ Some kind.Idle))
    step_idle client (Err e) came by = tt
    step_idle client (Ok moved.Idle) came by = ((λ e. kind_is ∙ ap Some came.0), (λ e. refl))
    step_idle client (Ok (moved.Blocked holder)) came by =
        ((λ e. absurd (cc e)), (λ e. absurd (none-some holder (sym (by ∙ none_waits client (idle_there e))))))
    step_idle client (Ok (moved.Told told)) came by =
        ((λ e. absurd (cc e)), (λ e. absurd (idle_does c n New (record { client = now; told = told }) (idle_there e) (came.1 n.clients (slice_set n.clients i now)))))

    pub step_err : (r : Result Moved Halt) → OnErr r (IsReadiedOnly n.manager n.servers c after left now) → OnErr r (IsReadied n New i)
    step_err (Ok k) only = tt
    step_err (Err e) only = readied_only only

  cause : (halted : Halt) → HasCause n.manager n.servers (readied c) halted → HasCauseAt n i halted
  cause halt.NoMemory why = tt
  cause (halt.Worn field) why = record { client = c; is = is; wears = why }

  pub step_cause : (r : Result Moved Halt) → IfErr r (HasCause n.manager n.servers (readied c)) → IfErr r (HasCauseAt n i)
  step_cause (Ok k) why = tt
  step_cause (Err halted) why = cause halted why
