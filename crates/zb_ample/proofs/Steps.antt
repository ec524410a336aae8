-- Each kind of step leaves the clients in turn, and tells replies.
use Rattle.std.proofs.Common.{◌≡◌, ◌≢◌, ℕ, ◌-◌, ◌*◌, ◌<◌, ◌≤◌, true, false, Bool, List, [], ◌∷◌, ◌++◌, length, Option, Some, None, refl, sym, ap, ◌∙◌, subst, arith, inl, inr}
use Rattle.std.specs.Prelude.{◌⊎◌, All, if◌then◌else◌, is_some, slice_get}
use Rattle.std.specs.List.{AllByRecursion, sum, sum_by}
use Rattle.std.proofs.lemmas.Bool.{cases_eq, true≢false}
use Rattle.std.proofs.lemmas.Option.{none-some, same_Some}
use Rattle.zb_types.specs.declared.geometry.Geometry.{Geometry}
use Rattle.zb_types.specs.declared.ids.FragId.{FragId}
use Rattle.zb_types.specs.declared.ids.LogId.{LogId}
use Rattle.zb_types.specs.declared.ids.Ptr.{Ptr}
use Rattle.zb_types.specs.declared.ids.ServerId.{ServerId}
use Rattle.zb_types.specs.declared.lines.Kind.TheVariants.{Idle}
use Rattle.zb_types.specs.declared.lines.Outcome.{Outcome}
use Rattle.zb_types.specs.declared.lines.Said.TheVariants as said
use Rattle.zb_types.specs.declared.nodes.Cause.TheVariants.{NoSpace}
use Rattle.zb_types.specs.declared.requests.Request.{Request}
use Rattle.zb_types.specs.declared.requests.Response.{Response}
use Rattle.zb_types.specs.declared.requests.Response.TheVariants as told
use Rattle.zb_types.specs.declared.requests.StoreFault.TheVariants as fault
use Rattle.zb_types.specs.Tree.{Tree}
use Rattle.zb_holding.specs.Carrying.{is_about}
use Rattle.zb_holding.specs.Rules.{is_done}
use Rattle.zb_stripe.specs.declared.write_plan.Fed.TheVariants as fed
use Rattle.zb_stripe.specs.Feeding.{done_by, fed_by}
use Rattle.zb_stripe.specs.Reading.{Answers, Reading, asked, fed as read_fed}
use Rattle.zb_headline.specs.Complete.{is_replied}
use Rattle.zb_headline.specs.Need.{space_needed}
use Rattle.zb_given.specs.Given.{Given, calls_of, script_of}
use Rattle.zb_tables.specs.Tables.{Tables}
use Rattle.zb_tables.specs.Taking.{Sizes}
use Rattle.zb_manager.specs.Managers.{SeenManager}
use Rattle.zb_turns.specs.Turns.{other_holder}
use Rattle.zb_servers.specs.Serving.{is_refused}
use Rattle.zb_servers.specs.Standing.{has, maps_of}
use Rattle.zb_servers_laws.specs.Answered.{lacks_slot}
use Rattle.zb_servers_laws.proofs.WriteAnswers.{plan_clients}
use Rattle.zb_basis.specs.declared.basis.Basis.{Basis}
use Rattle.zb_basis.specs.declared.basis.Formed.{Formed}
use Rattle.zb_basis.specs.declared.basis.Sealed.{Sealed}
use Rattle.zb_basis.specs.Delivering.{IsAbout}
use Rattle.zb_basis.specs.Runs.{run_of}
use Rattle.zb_work.specs.declared.work.Step.{Step}
use Rattle.zb_work.specs.declared.work.Step.TheVariants as step
use Rattle.zb_work.specs.declared.work.Task.{Task}
use Rattle.zb_work.specs.Fitting.{IsStoring, StepFits, wanted_for}
use Rattle.zb_work.specs.Steps.{first_members, step_of}
use Rattle.zb_client.specs.declared.steps.Lookup.{Lookup}
use Rattle.zb_client.specs.declared.steps.Lookup.TheVariants.{Files, Names}
use Rattle.zb_client.specs.declared.steps.Told.{Told}
use Rattle.zb_client.specs.Hearing.{Forms, HearsStore, asks as asks_cache, caches, goes_on_storing, looked_up, notes, with_block}
use Rattle.zb_client.specs.Seen.{SeenClient, kind_of}
use Rattle.zb_client.specs.Telling.{Heard}
use Rattle.zb_client.specs.Wishing.{lookup_of}
use Rattle.zb_client_laws.specs.Around.{Around}
use Rattle.zb_client_laws.specs.Effects.{GivesUp, TellsNothing, founds}
use Rattle.zb_client_laws.specs.Sound.{ClientIsSound}
use Rattle.zb_client_laws.proofs.Storing.{Stored}
use Rattle.zb_client_laws.proofs.Fetched.{fetch_may_answer}
use Rattle.zb_line_laws.specs.Calls.{lines_in}
use Rattle.zb_progress.specs.Fresh.{MayRise, is_fresh, is_fresh_at}
use Rattle.zb_progress.proofs.Committing.{fresh-committed}
use Rattle.zb_progress.proofs.Ongoing.{fetch-now, found-now}
use Rattle.zb_system.specs.Nodes.{IsClient, SeenNodes, readied}
use Rattle.zb_system.specs.Looking.{tree_for}
use Rattle.zb_system.specs.Sound.{AreSound}
use Rattle.zb_system.specs.Steps.{Commits, Does, DoesStep, Fetches, HasStepped, IsBehindNow, LooksUp, Stores, TakesCall}
use Rattle.zb_system.proofs.Asking.{fetch_from, maps_same}
use Rattle.zb_system.proofs.EachStep.{has_stepped}
use Rattle.zb_system.proofs.Quiet.{World, known_ready, sound_ready}
use Rattle.zb_system.proofs.Storing.{answer_is, has_place, head_is, in_plan, is_write, step_is as storing_is, store_generation}
use Rattle.zb_ending.proofs.Replied.{replies_count}
use Rattle.zb_ending.proofs.Tells.{fetch_right, held_same, looked_same, lookup_right, store_tells}
use Rattle.zb_finishing.specs.Clients.{IsIdleAt, SizesStay}
use Rattle.zb_finishing.proofs.Places.{kept_at, set_is}
use Rattle.zb_finishing.proofs.Resting.{idle_stands}
use Rattle.zb_finishing.proofs.Sized.{step_sized}
use Rattle.zb_need.specs.Filling.{stripes_begun}
use Rattle.zb_ample.specs.Reaching.{IsPaid, LogGoesOn, begun_by, reached, reached_at}
use Rattle.zb_ample.specs.Taking.{Belongs}
use Rattle.zb_ample.specs.Turning.{InTurn, ReadsFirst, ServersAreFilled}
use Rattle.zb_ample.proofs.Filled.{all_begin_few, begun_at, client_begins_few, lacks_none}
use Rattle.zb_ample.proofs.Forming.{formed_moves, room_fits}
use Rattle.zb_ample.proofs.Freshly.{answers_fresh, batch_fresh, found_goes_fresh, got_fresh, leaves_fresh}
use Rattle.zb_ample.proofs.Moving.{Moves, leaves_moves, more_moves, rests_moves}
use Rattle.zb_ample.proofs.Needing.{wants}
use Rattle.zb_ample.proofs.Placed.{own_counts}
use Rattle.zb_ample.proofs.Placing.{IsOnItsServer, plan_goes, stood_or_new}
use Rattle.zb_ample.proofs.Reading.{fits_first, leaves_first, quiet_first, right_first, taken_first}
use Rattle.zb_ample.proofs.Replied.{AreReplied, commit_replied, quiet_replied, right_replied, taken_fresh, taken_replied}
use Rattle.zb_ample.proofs.Resting.{FormsWith, Rests, answers_rest, goes_on, got_rests, is_resting, taken_rests}
use Rattle.zb_ample.proofs.Serving.{done_taken, read_undone, undone_taken}
use Rattle.zb_ample.proofs.Storing.{stored_some}
use Rattle.zb_ample.proofs.Stepped.{belongs_after, ready_paid, servers_same, turn_after}

module _ {given : Given} {lines : List Outcome} {old : SeenNodes} (s : AreSound given lines old) (geo : Geometry) (t : InTurn geo given old) (may : MayRise old.manager.tables)
    (enough : space_needed geo (script_of given) ≤ geo.slots - 4) (new : SeenNodes) (i : ℕ) (what : Told) (h : HasStepped old new i what) where
  abbrev c : SeenClient
  c = h.client

  abbrev C : SeenClient
  C = readied h.client

  abbrev d : SeenClient
  d = h.heard.client

  abbrev G : ℕ
  G = old.manager.tables.members.generation

  goes : LogGoesOn G C.flushed (step_of C.task)
  goes = t.logs.go_on i c h.is

  paid : IsPaid geo given C
  paid = ready_paid geo given c true (t.logs.paid i c h.is)

  -- the one that has work has made the step
  who : i ≡ t.who
  who = by (cases_eq i t.who) where
    by : (i ≡ t.who) ⊎ (i ≢ t.who) → i ≡ t.who
    by (inl is) = is
    by (inr ne) = absurd (idle_stands old new i what h (t.alone i ne c h.is))

  alone : (j : ℕ) → j ≢ t.who → IsIdleAt new j
  alone j ne = kept_at (λ (x : SeenClient). kind_of x ≡ Idle) old new i c d h.is h.clients (λ idle. absurd (idle_stands old new i what h idle)) j (t.alone j ne)

  fresh : is_fresh old.manager.tables c ≡ true
  fresh = t.fresh c (ap (λ (k : ℕ). slice_get old.clients k) (sym who) ∙ h.is)

  sized : SizesStay old new
  sized = step_sized old new i what h

  sound : AreSound given (lines ++ lines_in what) new
  sound = (has_stepped s new i what h).sound

  is_new : IsClient new i d
  is_new = set_is old new i c d h.is h.clients

  size : c.block ≡ geo.block
  size = (s.clients i c h.is).0.sizes.block ∙ ap (λ (z : Sizes). z.block) t.sizes

  abbrev Right : Type 0
  Right = InTurn geo given new × AreReplied h.heard.told

  -- the read at work, if there is one, is of a queued call
  reads : ReadsFirst C
  reads = fits_first C h.known.aim

  turn : new.manager.tables.members.generation ≡ G → Moves geo given G C d → is_fresh new.manager.tables d ≡ true → ReadsFirst d → ServersAreFilled geo new → InTurn geo given new
  turn generation m now first servers = turn_after t new i c d h.is h.clients sized.sizes sized.slots generation m who alone now first servers

  module _ (rests : is_resting (step_of C.task) ≡ true) where
    moves : Rests geo C d → Moves geo given G C d
    moves r = rests_moves geo given G C goes paid rests d r

    -- the next batch is formed
    forms : new.manager.tables ≡ old.manager.tables → (task : Task) (b : SeenClient) → b.log ≡ C.log → b.flushed ≡ C.flushed → b.kept ≡ C.kept → b.queue ≡ C.queue → b.client ≡ C.client → b.task ≡ Some task
        → (basis : Basis) → Forms b basis h.heard → Moves geo given G C d
    forms tables task b log flushed kept queue client work basis f =
        subst (λ (g : ℕ). Moves geo given g C d) (ap (λ (x : Tables). x.members.generation) tables)
        (formed_moves sound i d is_new geo (sized.sizes ∙ t.sizes) C (known_ready c h.known) (t.logs.rooms i c h.is) size
        (subst (λ (g : ℕ). LogGoesOn g C.flushed (step_of C.task)) (sym (ap (λ (x : Tables). x.members.generation) tables)) goes) paid rests
        task h.heard refl b log flushed kept queue client work basis f)

  -- ---- a call is taken
  call_turns : c.task ≡ None → TakesCall old new C h.heard → Right
  call_turns none takes =
      let tables = ap (λ (m : SeenManager). m.tables) takes.same.manager in
      let rests : is_resting (step_of C.task) ≡ true = ap (λ (o : Option Task). is_resting (step_of o)) none in
      let at : step_of C.task ≡ step.Lookup = ap step_of none in
      let m = moves rests (subst (λ (x : Heard). Rests geo C x.client) (sym takes.heard_is) (taken_rests geo C none C.queue refl)) in (
        turn (ap (λ (x : Tables). x.members.generation) tables) m
            (subst (λ (x : Heard). is_fresh new.manager.tables x.client ≡ true) (sym takes.heard_is) (taken_fresh C at new.manager.tables C.queue))
            (subst (λ (x : Heard). ReadsFirst x.client) (sym takes.heard_is) (taken_first C none C.queue refl))
            (servers_same t new i c d h.is h.clients sized.sizes sized.slots (ap (λ (x : Tables). x.members.generation) tables) m takes.same.servers),
        subst (λ (x : Heard). AreReplied x.told) (sym takes.heard_is) (taken_replied C at C.queue),
      )

  module _ (task : Task) (work : c.task ≡ Some task) where
    -- ---- a lookup
    module _ (at : task.step ≡ step.Lookup) where
      step_is : step_of C.task ≡ step.Lookup
      step_is = ap step_of work ∙ at

      at_rest : is_resting (step_of C.task) ≡ true
      at_rest = ap is_resting step_is

      lookup_turns : (wanted : Lookup) → lookup_of C task.tries c.kept ≡ wanted → LooksUp old new C task wanted h.heard → Right
      lookup_turns (Files hold asks) wants looks =
          let same = looked_same old new C task (Files hold asks) h.heard looks in
          let generation = ap (λ (x : Tables). x.members.generation) same.tables in
          let found = founds old.manager.tables asks in
          let b = asks_cache C (wanted_for C.block C.kept C.queue found) in
          let m = by same.tables (goes_on geo b (looked_up C found) h.heard looks.1).either in (
            turn generation m
                (subst (λ (x : Tables). is_fresh x d ≡ true) (sym same.tables) (found_goes_fresh old.manager.tables C (looked_up C found) task.tries hold asks wants refl b refl refl h.heard looks.1))
                (right_first (World s i c h.is).tree C h.heard (lookup_right s i c h.is h.known task work new h.heard h.clients at (Files hold asks) wants looks) reads)
                (servers_same t new i c d h.is h.clients sized.sizes sized.slots generation m looks.0.servers),
            right_replied (World s i c h.is).tree C h.heard (lookup_right s i c h.is h.known task work new h.heard h.clients at (Files hold asks) wants looks),
          ) where
            by : new.manager.tables ≡ old.manager.tables
                → Rests geo (asks_cache C (wanted_for C.block C.kept C.queue (founds old.manager.tables asks))) d
                ⊎ Forms (asks_cache C (wanted_for C.block C.kept C.queue (founds old.manager.tables asks))) (looked_up C (founds old.manager.tables asks)) h.heard
                → Moves geo given G C d
            by tables (inl r) = moves at_rest (record { log = r.log; client = r.client; flushed = r.flushed; step = r.step; less = r.less })
            by tables (inr f) = forms at_rest tables task (asks_cache C (wanted_for C.block C.kept C.queue (founds old.manager.tables asks))) refl refl refl refl refl work (looked_up C (founds old.manager.tables asks)) f
      lookup_turns (Names call) wants looks =
          let same = looked_same old new C task (Names call) h.heard looks in
          let generation = ap (λ (x : Tables). x.members.generation) same.tables in
          let m = moves at_rest (subst (λ (x : Heard). Rests geo C x.client) (sym looks.heard_is) (answers_rest geo C C.queue (said.Reply looks.reply) refl)) in (
            turn generation m
                (subst (λ (x : Heard). is_fresh new.manager.tables x.client ≡ true) (sym looks.heard_is) (answers_fresh new.manager.tables C C.queue (said.Reply looks.reply)))
                (right_first (World s i c h.is).tree C h.heard (lookup_right s i c h.is h.known task work new h.heard h.clients at (Names call) wants looks) reads)
                (servers_same t new i c d h.is h.clients sized.sizes sized.slots generation m looks.same.servers),
            right_replied (World s i c h.is).tree C h.heard (lookup_right s i c h.is h.known task work new h.heard h.clients at (Names call) wants looks),
          )

    -- ---- a fetch
    module _ (basis : Basis) (place : ℕ) (ptr : Ptr) (plan : Reading) (at : task.step ≡ step.Fetch basis place ptr plan)
        (f : Fetches old new C basis (step.Fetch basis place ptr plan) (asked plan) h.heard) where
      fetching : step_of C.task ≡ step.Fetch basis place ptr plan
      fetching = ap step_of work ∙ at

      resting_so : is_resting (step_of C.task) ≡ true
      resting_so = ap is_resting fetching

      now : found-now old.manager.tables C.block C.kept basis.found ≡ true
      now = sym (fetch-now old.manager.tables C.block C.kept basis place ptr plan) ∙ ap (is_fresh_at old.manager.tables C.block C.kept) (sym fetching) ∙ fresh

      undone : is_done f.response ≡ false
      undone =
          read_undone plan.servers f.asked f.response
          (subst (λ (o : Option (ServerId × Request)). Answers plan.servers o f.response) f.is
          (fetch_may_answer old.servers.slots (World s i c h.is) s.stands (tree_for given lines (s.reads i)) C (known_ready c h.known) (sound_ready s i c h.is) basis place ptr plan fetching f.response
          (fetch_from s i c h.is h.known task work basis place ptr plan at f.asked f.response f.is f.served.answer)))

      fetch_moves : Rests geo C d ⊎ FormsWith geo C basis h.heard → Moves geo given G C d
      fetch_moves (inl r) = moves resting_so r
      fetch_moves (inr w) =
          forms resting_so (ap (λ (m : SeenManager). m.tables) f.manager) task (caches C w.ptr w.bytes) refl refl refl refl refl work (with_block basis w.at w.ptr w.bytes) w.forms

      fetch_turns : Right
      fetch_turns =
          let tables = ap (λ (m : SeenManager). m.tables) f.manager in
          let generation = ap (λ (x : Tables). x.members.generation) tables in
          let came = (read_fed plan f.response).1 in
          let m = fetch_moves (got_rests geo C basis place ptr (read_fed plan f.response).0 f.serving came h.heard f.hears) in (
            turn generation m
                (subst (λ (x : Tables). is_fresh x d ≡ true) (sym tables) (got_fresh old.manager.tables C basis now place ptr (read_fed plan f.response).0 f.serving came h.heard f.hears))
                (right_first (tree_for given lines (s.reads i)) C h.heard (fetch_right s i c h.is h.known task work new h.heard h.clients basis place ptr plan at f) reads)
                (record {
                  belong = λ server id some. belongs_after t new i c d h.is h.clients sized.sizes sized.slots generation m server id
                      (t.servers.belong server id (ap is_some (sym (λ k. maps_are k server id)) ∙ some));
                  taken = undone_taken old.servers new.servers f.asked f.response (first_members basis.found).generation f.served t.servers.taken undone;
                }),
            right_replied (tree_for given lines (s.reads i)) C h.heard (fetch_right s i c h.is h.known task work new h.heard h.clients basis place ptr plan at f),
          ) where
            maps_are : maps_of new.servers ≡ maps_of old.servers
            maps_are = maps_same old.servers new.servers f.asked f.response (first_members basis.found).generation f.served undone

    -- ---- a store
    module _ (basis : Basis) (formed : Formed) (at : task.step ≡ step.Store basis formed) (f : Stores old new C basis formed h.heard) where
      storing : step_of C.task ≡ step.Store basis formed
      storing = ap step_of work ∙ at

      abbrev W : Around
      W = World s i c h.is

      abbrev Seen : Tree
      Seen = tree_for given lines (s.reads i)

      abbrev S : ClientIsSound W Seen C
      S = sound_ready s i c h.is

      first : slice_get formed.plan 0 ≡ Some f.asked
      first = head_is formed.plan ∙ f.is

      -- the request is about a stripe that the log has begun, on its server
      about : IsAbout C.log.next.stripe formed.sealed.placed.next.stripe f.asked.1
      about = of formed.plan first (fits.about h.known.given.given h.known.given.are) where
        fits : IsStoring C.servers C.fragment C.log C.kept C.doubted formed
        fits = subst (λ (st : Step). StepFits C.servers C.fragment C.block C.log C.kept C.queue C.doubted st) storing h.known.work

        of : (plan : List (ServerId × Request)) → slice_get plan 0 ≡ Some f.asked → All (λ asked. IsAbout C.log.next.stripe formed.sealed.placed.next.stripe asked.1) plan
            → IsAbout C.log.next.stripe formed.sealed.placed.next.stripe f.asked.1
        of [] none all = absurd (none-some f.asked none)
        of (one ∷ rest) some all = subst (λ (x : ServerId × Request). IsAbout C.log.next.stripe formed.sealed.placed.next.stripe x.1) (same_Some one f.asked some) (all 0 one (omega arith))

      servers_are : old.manager.sizes.servers ≡ geo.servers
      servers_are = ap (λ (z : Sizes). z.servers) t.sizes

      goes_there : (q : FragId) → is_about f.asked.1 q ≡ true → IsOnItsServer geo.servers C.log.log f.asked q
      goes_there q is =
          subst (λ (n : ℕ). IsOnItsServer n C.log.log f.asked q) servers_are
          (plan_goes W.z.servers W.z.fragment _ _ (Stored W Seen C S basis formed (storing_is s i c h.is h.known task work basis formed at)) _ f.asked (let low = s.stands.limits.servers_low in omega (arith, low))
          (in_plan s i c h.is h.known task work basis formed at f.asked first) q is)

      begun_is : slice_get (begun_by old.clients) i ≡ Some (stripes_begun (reached C))
      begun_is = begun_at old.clients i c h.is

      new_belongs : (q : FragId) → is_about f.asked.1 q ≡ true → Belongs geo.servers (begun_by old.clients) f.asked.0 q
      new_belongs q is =
          let there = goes_there q is in
          let place = ap (reached_at C.log) storing in
          let counts = own_counts formed.sealed.placed.next (stored_some W Seen C S basis formed storing) in
          let whole = ap stripes_begun place in
          let below = about.below in
          let stripe = there.stripe in
          record {
            place = i;
            count = stripes_begun (reached C);
            is = begun_is;
            log = ap (λ (l : LogId). l.0) there.log_is ∙ t.logs.logs i c h.is;
            stripe = omega (arith, counts, whole, below, stripe);
            index = there.index;
            on = ap (λ (x : ServerId). x.0) there.on;
          }

      -- few stripes were begun
      few : sum (begun_by old.clients) ≤ old.servers.slots - 4
      few =
          let begin = all_begin_few geo given old.clients (λ j x is. subst (λ (n : ℕ). stripes_begun (reached x) ≤ sum_by (wants geo) (calls_of given n)) (s.clients j x is).1
          (client_begins_few geo given x (t.logs.rooms j x is) (some_room j x is) (t.logs.paid j x is))) in
          let slots = t.slots in
          omega (arith, begin, enough, slots) where
            some_room : (j : ℕ) (x : SeenClient) → IsClient old j x → 0 < x.log.room
            some_room j x is =
                let room = t.logs.rooms j x is in
                let some = (room_fits old.manager.sizes.servers old.manager.sizes.clients old.manager.sizes.fragment old.manager.sizes.block old.servers.slots s.stands.limits).0 in
                let same : (old.manager.sizes.servers - 1) * old.manager.sizes.fragment ≡ (geo.servers - 1) * geo.fragment = ap (λ (z : Sizes). (z.servers - 1) * z.fragment) t.sizes in
                omega (arith, room, some, same)

      lacks : lacks_slot (has old.servers f.asked.0) f.asked.1 ≡ false
      lacks =
          lacks_none old.servers.slots geo.servers (begun_by old.clients) f.asked.0 (has old.servers f.asked.0) (t.servers.taken f.asked.0) (λ id some. t.servers.belong f.asked.0 id some) few
          f.asked.1 (is_write s i c h.is h.known task work basis formed at f.asked first)
          (plan_clients W.z.servers W.z.fragment _ (Stored W Seen C S basis formed (storing_is s i c h.is h.known task work basis formed at)) _ f.asked (in_plan s i c h.is h.known task work basis formed at f.asked first))
          (has_place s i c h.is h.known task work basis formed at f.asked first) new_belongs

      done : f.response ≡ told.Done
      done =
          answer_is s i c h.is h.known task work basis formed at new h.heard h.clients f
          ∙ ap (λ (b : Bool). if b then told.Refused (fault.NoSlot (has old.servers f.asked.0).free) else told.Done) lacks

      hears : h.heard ≡ goes_on_storing (notes C formed (fed_by formed.plan told.Done)) basis formed told.Done (fed_by formed.plan told.Done)
      hears = subst (λ (r : Response). HearsStore C (step.Store basis formed) r h.heard) done f.hears

      came : fed_by formed.plan told.Done ≡ fed.More ⊎ fed_by formed.plan told.Done ≡ fed.Done
      came = of formed.plan where
        rest_of : (rest : List (ServerId × Request)) → done_by rest ≡ fed.More ⊎ done_by rest ≡ fed.Done
        rest_of [] = inr refl
        rest_of (one ∷ rest) = inl refl

        of : (plan : List (ServerId × Request)) → fed_by plan told.Done ≡ fed.More ⊎ fed_by plan told.Done ≡ fed.Done
        of [] = inr refl
        of (one ∷ rest) = rest_of rest

      store_turns : Right
      store_turns =
          let same = held_same old new (is_refused f.response) (other_holder c.client old.manager.holder) f.manager in
          let generation = ap (λ (x : Tables). x.members.generation) same.tables in
          let now : is_fresh_at old.manager.tables C.block C.kept (step.Store basis formed) ≡ true = ap (is_fresh_at old.manager.tables C.block C.kept) (sym storing) ∙ fresh in
          let m = subst (λ (x : Heard). Moves geo given G C x.client) (sym hears)
          (more_moves geo given G C goes paid basis formed storing (store_generation s i c h.is h.known task work basis formed at) (fed_by formed.plan told.Done) came) in (
            turn generation m
                (subst (λ (x : Tables). is_fresh x d ≡ true) (sym same.tables)
                (subst (λ (x : Heard). is_fresh old.manager.tables x.client ≡ true) (sym hears) (batch_fresh old.manager.tables C basis formed now (fed_by formed.plan told.Done) came)))
                (quiet_reads (store_tells s i c h.is h.known task work new h.heard h.clients basis formed at f))
                (record {
                  belong = λ server id some. belongs_after t new i c d h.is h.clients sized.sizes sized.slots generation m server id
                      (stood_or_new (maps_of old.servers) f.asked server id (Belongs geo.servers (begun_by old.clients) server id)
                      (ap is_some (sym (λ k. f.served.carried_out (ap is_refused done) k server id)) ∙ some)
                      (t.servers.belong server id)
                      (λ here is. subst (λ (x : ServerId). Belongs geo.servers (begun_by old.clients) x id) (λ k. record { 0 = here k }) (new_belongs id is)));
                  taken = done_taken old.servers new.servers f.asked f.response formed.sealed.members.generation f.served t.servers.taken (ap is_done done)
                      (is_write s i c h.is h.known task work basis formed at f.asked first) (has_place s i c h.is h.known task work basis formed at f.asked first);
                }),
            quiet (store_tells s i c h.is h.known task work new h.heard h.clients basis formed at f),
          ) where
            quiet : ((is_refused f.response ≡ false) × TellsNothing C h.heard) ⊎ ((is_refused f.response ≡ true) × GivesUp C (NoSpace f.asked.0) h.heard) → AreReplied h.heard.told
            quiet (inl silent) = quiet_replied C h.heard silent.1
            quiet (inr up) = absurd (true≢false (sym up.0 ∙ ap is_refused done))

            quiet_reads : ((is_refused f.response ≡ false) × TellsNothing C h.heard) ⊎ ((is_refused f.response ≡ true) × GivesUp C (NoSpace f.asked.0) h.heard) → ReadsFirst d
            quiet_reads (inl silent) = quiet_first C h.heard silent.1 reads
            quiet_reads (inr up) = absurd (true≢false (sym up.0 ∙ ap is_refused done))

    -- ---- a commit
    module _ (basis : Basis) (sealed : Sealed) (at : task.step ≡ step.Commit basis sealed) where
      committing : step_of C.task ≡ step.Commit basis sealed
      committing = ap step_of work ∙ at

      commit_turns : new.servers ≡ old.servers → Commits old new C sealed h.heard ⊎ IsBehindNow old new C sealed h.heard → Right
      commit_turns servers (inl done) =
          let generation : new.manager.tables.members.generation ≡ G = ap (λ (x : Tables). x.members.generation) done.committed.tables in
          let count : length done.replies ≡ length (run_of C.kept) =
          replies_count s i c h.is h.known task work basis sealed at new h.heard done
          ∙ (subst (λ (st : Step). StepFits C.servers C.fragment C.block C.log C.kept C.queue C.doubted st) committing h.known.work).count in
          let m = subst (λ (x : Heard). Moves geo given G C x.client) (sym done.heard_is) (leaves_moves geo given G C goes paid basis sealed committing (length done.replies) count) in (
            turn generation m
                (subst (λ (x : Heard). is_fresh new.manager.tables x.client ≡ true) (sym done.heard_is) (leaves_fresh new.manager.tables C (length done.replies)))
                (subst (λ (x : Heard). ReadsFirst x.client) (sym done.heard_is) (leaves_first C (length done.replies) reads))
                (servers_same t new i c d h.is h.clients sized.sizes sized.slots generation m servers),
            subst (λ (x : Heard). AreReplied x.told) (sym done.heard_is) (commit_replied C.client C.kept done.replies),
          )
      commit_turns servers (inr behind) =
          let none = fresh-committed (World s i c h.is) (tree_for given lines (s.reads i)) C (sound_ready s i c h.is) basis sealed committing old.servers.slots s.stands (known_ready c h.known) may fresh in
          absurd (none-some behind.fault (sym none ∙ behind.refusal))

    step_turns : (st : Step) → task.step ≡ st → DoesStep old new C task st h.heard → Right
    step_turns step.Lookup at does = lookup_turns at (lookup_of C task.tries c.kept) refl does
    step_turns (step.Fetch basis place ptr plan) at does = fetch_turns basis place ptr plan at does
    step_turns (step.Store basis formed) at does = store_turns basis formed at does
    step_turns (step.Mark server generation) at does = absurd does
    step_turns (step.Commit basis sealed) at does = commit_turns basis sealed at does.servers does.turn

  does_turns : (o : Option Task) → c.task ≡ o → Does old new C o h.heard → Right
  does_turns None work does = call_turns work does
  does_turns (Some task) work does = step_turns task work task.step refl does

  -- the clients are in turn after a step, which told replies
  pub stepped_turns : InTurn geo given new × AllByRecursion (λ line. is_replied line ≡ true) (lines_in what)
  stepped_turns =
      let right = does_turns c.task refl h.does in
      (right.0, subst (λ (x : Told). AllByRecursion (λ line. is_replied line ≡ true) (lines_in x)) h.told_is right.1)
