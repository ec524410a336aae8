-- How the next batch or the read goes on with what is there.
use Rattle.std.proofs.Common.{◌≡◌, ℕ, ◌+◌, ◌-◌, ◌*◌, ◌≤◌, false, List, [], ◌∷◌, Option, Some, None, refl, sym, ap, ◌∙◌, subst, inl, inr, arith}
use Rattle.std.specs.Prelude.{All, IfSome}
use Rattle.zb_types.specs.declared.calls.Call.{Call}
use Rattle.zb_types.specs.declared.calls.Call.TheVariants.{Create, Mkdir, Remove, Rename, Write, Truncate, Sync, Read, List as ListOf, Stat, Find}
use Rattle.zb_types.specs.declared.calls.Reply.{Reply}
use Rattle.zb_types.specs.declared.ids.Ptr.{Ptr}
use Rattle.zb_types.specs.declared.ids.ServerId.{ServerId}
use Rattle.zb_types.specs.declared.lines.Said.{Said}
use Rattle.zb_types.specs.declared.lines.Said.TheVariants as said
use Rattle.zb_types.specs.declared.nodes.Class.TheVariants.{Client}
use Rattle.zb_types.specs.declared.nodes.Members.{Members}
use Rattle.zb_types.specs.declared.requests.Request.{Request}
use Rattle.zb_types.specs.declared.tables.Found.{Found}
use Rattle.zb_types.specs.Apply.{reply_to}
use Rattle.zb_types.specs.Tree.{Tree}
use Rattle.zb_stripe.specs.declared.flush.Flush.{Flush}
use Rattle.zb_stripe.specs.Reading.{start}
use Rattle.zb_stripe.specs.Writing.{plan_requests}
use Rattle.zb_log.specs.Logs.{SeenLog}
use Rattle.zb_log.specs.Sealing.{GoesNext}
use Rattle.zb_tables.specs.Tables.{LiesIn}
use Rattle.zb_tables.specs.Taking.{stripe_room}
use Rattle.zb_sound.specs.Delivering.{FlushBegins, allowed}
use Rattle.zb_sound.specs.LastFlush.{LastFlush, flushing}
use Rattle.zb_sound.specs.LookupsCurrent.{AreFetched}
use Rattle.zb_sound.specs.OldStripes.{CopiesAreCurrent}
use Rattle.zb_sound.proofs.Placed.{last_begins}
use Rattle.zb_basis.specs.declared.basis.Basis.{Basis}
use Rattle.zb_basis.specs.declared.basis.Formed.{Formed}
use Rattle.zb_basis.specs.declared.calls.Numbered.{Numbered}
use Rattle.zb_basis.specs.Delivering.{IsAbout, stripe_of}
use Rattle.zb_basis.specs.Forming.{IsFormed, log_from, readers_out, writers_out}
use Rattle.zb_basis.specs.Looking.{room_of}
use Rattle.zb_basis.specs.Reading.{IsReadReply}
use Rattle.zb_basis.specs.Runs.{run_of}
use Rattle.zb_forming_laws.specs.Flushing.{flush_with}
use Rattle.zb_forming_laws.specs.Resting.{AreShort, pairs_of}
use Rattle.zb_forming_laws.proofs.Reading.{read-gone, read-shown}
use Rattle.zb_work.specs.Blocks.{AreSlots, next_missing, there}
use Rattle.zb_work.specs.declared.work.Step.{Step}
use Rattle.zb_work.specs.declared.work.Step.TheVariants as step
use Rattle.zb_work.specs.declared.work.Task.{Task}
use Rattle.zb_work.specs.Fitting.{wanted_for}
use Rattle.zb_work.specs.Steps.{first_members, step_of, with_step}
use Rattle.zb_client.specs.Seen.{SeenClient, at_step}
use Rattle.zb_client.specs.Hearing.{GoesOn, GoesOnAt, HasAll, RepliesFirst, behind as behind_flush, log_for}
use Rattle.zb_client.specs.Telling.{Heard, answers_first, silent}
use Rattle.zb_client.specs.Wishing.{head_of}
use Rattle.zb_client_laws.specs.Around.{Around, IsAround}
use Rattle.zb_client_laws.specs.Current.{BatchIsCurrent, FirstIsCurrent, IsReading, RestsOnHeld, ShowsFound, WorkIsCurrent}
use Rattle.zb_client_laws.specs.Effects.{IsReplyIn, TellsRight}
use Rattle.zb_client_laws.proofs.Telling.{same_self, step_told, step_with_log}
use Rattle.zb_client_laws.specs.Logging.{HasPhase, IsDelivering, RestsAt, WasFormed, delivers}
use Rattle.zb_client_laws.specs.Sound.{ClientIsSound, StepIsCurrent}
use Rattle.zb_client_laws.proofs.Blocks.{all_there, missing_each}
use Rattle.zb_client_laws.proofs.Resting.{AtRest, Goes, goes}
use Rattle.zb_client_laws.proofs.Starts.{reading_begins}
use Rattle.zb_client_laws.proofs.Wanted.{wanted_lie}

-- a client whose log rests, with other calls and other work
module _ (w : Around) (seen : Tree) (c : SeenClient) (r : AtRest w c) where
  pub rest_sound : (queue : List Numbered) (task : Option Task) → AreShort queue
      → RestsAt c.log c.flushed r.generation r.at r.front r.phase → HasPhase (record c { queue = queue; task = task; is_ready = false }) (step_of task) r.generation r.at r.front r.phase
      → StepIsCurrent w seen (record c { queue = queue; task = task; is_ready = false }) (step_of task)
      → ClientIsSound w seen (record c { queue = queue; task = task; is_ready = false })
  rest_sound queue task short rests has current = record {
    sizes = record { servers = r.sizes.servers; fragment = r.sizes.fragment; block = r.sizes.block };
    settled = r.settled;
    short = r.short;
    short_queue = short;
    log = record { last = r.last; generation = r.generation; at = r.at; front = r.front; phase = r.phase; current = r.current; flush = r.flush; has = has };
    step = current;
    cached = r.cached;
  }

  -- the first queued call is answered
  pub answered_sound : (queue : List Numbered) (what : Said) → AreShort queue → ClientIsSound w seen (answers_first c queue what).client
  answered_sound [] what short = rest_sound c.queue None r.short_queue r.rests r.rests tt
  answered_sound (read ∷ rest) what short = rest_sound rest None short.1 r.rests r.rests tt

module _ (slots : ℕ) (w : Around) (a : IsAround slots w) (seen : Tree) (c : SeenClient) (r : AtRest w c) (task : Task) (is_task : c.task ≡ Some task)
    (basis : Basis) (current : WorkIsCurrent w.z.block w.contents w.tables seen c.kept c.queue basis)
    (held : RestsOnHeld w.contents w.tables basis) (slot : AreSlots (room_of c.servers c.fragment) (wanted_for c.block c.kept c.queue basis.found) basis.fetched) where
  room : room_of c.servers c.fragment ≡ stripe_room w.z
  room = ap (λ (n : ℕ). (n - 1) * c.fragment) r.sizes.servers ∙ ap (λ (f : ℕ). (w.z.servers - 1) * f) r.sizes.fragment

  step_is : (st : Step) → step_of (with_step st c.task) ≡ st
  step_is st = ap (λ (t : Option Task). step_of (with_step st t)) is_task

  readers_none : readers_out (first_members basis.found).state ≡ None
  readers_none = ap (λ (m : Members). readers_out m.state) held.members ∙ ap readers_out a.whole

  writers_none : writers_out (first_members basis.found).state ≡ None
  writers_none = ap (λ (m : Members). writers_out m.state) held.members ∙ ap writers_out a.whole

  -- ---- a block is read

  fetch_sound : (at : ℕ) (ptr : Ptr) → next_missing basis.fetched ≡ Some (at, ptr)
      → ClientIsSound w seen (silent (at_step c (step.Fetch basis at ptr (start c.servers c.fragment ptr (readers_out (first_members basis.found).state))))).client
  fetch_sound at ptr missing =
      let plan = start c.servers c.fragment ptr (readers_out (first_members basis.found).state) in
      let st = step.Fetch basis at ptr plan in
      let d : SeenClient = record c { queue = c.queue; task = with_step st c.task; is_ready = false } in
      let lies = missing_each (LiesIn w.tables.held) (room_of c.servers c.fragment) (wanted_for c.block c.kept c.queue basis.found) basis.fetched at ptr slot
      (wanted_lie w.tables.held c.block c.kept c.queue basis.found held.lie) missing in
      let begins = reading_begins slots w a ptr lies in
      let reads =
      subst (λ (o : Option ServerId). IsReading w.z w.contents w.st.maps w.tables.held ptr (start c.servers c.fragment ptr o)) (sym readers_none)
      (subst (λ (f : ℕ). IsReading w.z w.contents w.st.maps w.tables.held ptr (start c.servers f ptr None)) (sym r.sizes.fragment)
      (subst (λ (n : ℕ). IsReading w.z w.contents w.st.maps w.tables.held ptr (start n w.z.fragment ptr None)) (sym r.sizes.servers) begins)) in
      rest_sound w seen c r c.queue (with_step st c.task) r.short_queue r.rests
      (subst (λ (x : Step). HasPhase d x r.generation r.at r.front r.phase) (sym (step_is st)) r.rests)
      (subst (λ (x : Step). StepIsCurrent w seen d x) (sym (step_is st)) (current, reads))

  -- ---- a batch is formed

  module _ (formed : Formed) (is : IsFormed c.servers c.fragment c.block (log_for c basis) c.batch (first_members basis.found) (run_of c.kept) basis formed) where
    abbrev Log : SeenLog
    Log = log_for c basis

    on : Goes slots w a c r Log
    on = subst (λ (m : Members). Goes slots w a c r (log_from c.log (behind_flush c.flushed m.generation))) (sym held.members) (goes slots w a c r)

    abbrev Flushes : Flush
    Flushes = flush_with Log on.given formed is.blocks

    log_room : (o : Option ℕ) → (log_from c.log o).room ≡ c.log.room
    log_room None = refl
    log_room (Some stripe) = refl

    room_is : Log.room ≡ stripe_room w.z
    room_is = log_room (behind_flush c.flushed (first_members basis.found).generation) ∙ r.log_is.room ∙ room

    nexts : All (GoesNext (stripe_room w.z) Log.next.stripe on.given) Flushes.parts
    nexts = subst (λ (n : ℕ). All (GoesNext n Log.next.stripe on.given) Flushes.parts) room_is (is.stored on.given on.are).next

    begins : FlushBegins w.z w.contents w.st w.tables.held (allowed w.tables.members) (writers_out (first_members basis.found).state) Flushes
    begins = subst (λ (o : Option ServerId). FlushBegins w.z w.contents w.st w.tables.held (allowed w.tables.members) o Flushes) (sym writers_none)
        (on.begins Flushes refl nexts (is.stored on.given on.are).rise)

    requests : plan_requests w.z.servers w.z.fragment (writers_out (first_members basis.found).state) Client Flushes ≡ formed.plan
    requests =
        let out = writers_out (first_members basis.found).state in
        ap (λ (n : ℕ). plan_requests n w.z.fragment out Client Flushes) (sym r.sizes.servers)
        ∙ ap (λ (f : ℕ). plan_requests c.servers f out Client Flushes) (sym r.sizes.fragment)
        ∙ sym (is.stored on.given on.are).requests

    last : LastFlush w.z w.contents w.st w.tables.held (allowed w.tables.members) Log.log r.front (flushing (writers_out (first_members basis.found).state) Client Flushes formed.plan)
    last =
        let out = writers_out (first_members basis.found).state in
        subst (λ (left : List (ServerId × Request)). LastFlush w.z w.contents w.st w.tables.held (allowed w.tables.members) Log.log r.front (flushing out Client Flushes left)) requests
        (last_begins w.z w.contents w.st w.tables.held (allowed w.tables.members) r.front Log.next.stripe r.phase on.given out Client Flushes on.last begins (is.stored on.given on.are).rise
        on.reached nexts)

    -- nothing was delivered behind the stripe of the first request
    first_reached : (plan : List (ServerId × Request)) → All (λ (asked : ServerId × Request). IsAbout Log.next.stripe formed.sealed.placed.next.stripe asked.1) plan
        → IfSome (head_of plan) (λ asked. r.front ≤ stripe_of asked.1 + 1)
    first_reached [] all = tt
    first_reached (asked ∷ rest) all = let above = (all 0 asked (omega arith)).above in let le = on.reached in omega (arith, above, le)

    abbrev was : WasFormed c.servers c.fragment c.block Log c.batch (run_of c.kept) basis
    was = record { given = on.given; are = on.are; whole = formed; is = is }

    delivering : IsDelivering c.servers c.fragment c.block Log c.batch (run_of c.kept) basis formed w.tables.members.generation on.at r.front (delivers was formed.plan)
    delivering = record {
      was = was;
      formed_is = refl;
      phase_is = refl;
      generation_is = ap (λ (m : Members). m.generation) (sym held.members);
      above = on.above;
      reached = first_reached formed.plan (is.stored on.given on.are).about;
    }

    abbrev Stores : SeenClient
    Stores = (silent (record (at_step c (step.Store basis formed)) { log = Log })).client

    store_sound : BatchIsCurrent w.z.block w.contents w.tables (run_of c.kept) basis → next_missing basis.fetched ≡ None → ClientIsSound w seen Stores
    store_sound batch all = record {
      sizes = record { servers = r.sizes.servers; fragment = r.sizes.fragment; block = r.sizes.block };
      settled = r.settled;
      short = r.short;
      short_queue = r.short_queue;
      log = record {
        last = r.last;
        generation = w.tables.members.generation;
        at = on.at;
        front = r.front;
        phase = delivers was formed.plan;
        current = on.current;
        flush = last;
        has = subst (λ (st : Step). HasPhase Stores st w.tables.members.generation on.at r.front (delivers was formed.plan)) (sym (step_is (step.Store basis formed))) delivering;
      };
      step = subst (λ (st : Step). StepIsCurrent w seen Stores st) (sym (step_is (step.Store basis formed))) (batch, all);
      cached = r.cached;
    }

  -- ---- the read is answered

  fetched : next_missing basis.fetched ≡ None → AreFetched w.contents (pairs_of basis.fetched)
  fetched none = subst (AreFetched w.contents) (all_there basis.fetched none) (firsts (there basis.fetched) held.fetched) where
    firsts : (blocks : List (Ptr × List ℕ)) → CopiesAreCurrent w.contents w.tables.held blocks → AreFetched w.contents blocks
    firsts [] all = tt
    firsts (b ∷ bs) all = (all.0.0, firsts bs all.1)

  shown_reply : (call : Call) (founds : List Found) (reply : Reply) → basis.found ≡ founds → next_missing basis.fetched ≡ None
      → ShowsFound w.z.block w.contents seen call founds → IsReadReply w.z.block basis call reply → reply ≡ reply_to seen call
  shown_reply (Read fid offset len) (found ∷ []) reply e none (inl absent) is =
      read-gone w.z.block w.contents basis found fid offset len seen reply e (fetched none) is absent.0 absent.1
  shown_reply (Read fid offset len) (found ∷ []) reply e none (inr file) is =
      read-shown w.z.block w.contents basis found fid offset len file.2.0 seen reply (let l = a.limits.block_low in omega arith) e (fetched none) is file.0 file.1 file.2.2 file.2.1
  shown_reply (Read fid offset len) [] reply e none shows is = absurd shows
  shown_reply (Read fid offset len) (found ∷ (more ∷ rest)) reply e none shows is = absurd shows
  shown_reply (Create path) founds reply e none shows is = absurd shows
  shown_reply (Mkdir path) founds reply e none shows is = absurd shows
  shown_reply (Remove path) founds reply e none shows is = absurd shows
  shown_reply (Rename path to) founds reply e none shows is = absurd shows
  shown_reply (Write fid offset bytes) founds reply e none shows is = absurd shows
  shown_reply (Truncate fid size) founds reply e none shows is = absurd shows
  shown_reply Sync founds reply e none shows is = absurd shows
  shown_reply (ListOf path) founds reply e none shows is = absurd shows
  shown_reply (Stat path) founds reply e none shows is = absurd shows
  shown_reply (Find path) founds reply e none shows is = absurd shows

  -- ---- however it goes on

  abbrev Right : Heard → Type 0
  Right heard = ClientIsSound w seen heard.client × TellsRight seen c heard

  first_replied : (queue : List Numbered) (heard : Heard) → c.kept ≡ [] → c.queue ≡ queue → next_missing basis.fetched ≡ None → FirstIsCurrent w.z.block w.contents w.tables seen queue basis
      → RepliesFirst c basis queue heard → Right heard
  first_replied [] heard k e none f h = absurd h
  first_replied (read ∷ rest) heard k e none f h =
      let right = shown_reply read.call basis.found h.reply refl none f.shows (subst (λ (b : ℕ). IsReadReply b basis read.call h.reply) r.sizes.block h.right) in (
        subst (λ (x : Heard). ClientIsSound w seen x.client) (sym h.is) (answered_sound w seen c r c.queue (said.Reply h.reply) r.short_queue),
        inr (c, record { reply = h.reply; right = subst (λ (q : List Numbered). IsReplyIn seen q h.reply) (sym e) right; none_kept = k; same = same_self c; is = h.is }),
      )

  all_had : (kept : List Numbered) (heard : Heard) → c.kept ≡ kept → next_missing basis.fetched ≡ None → WorkIsCurrent w.z.block w.contents w.tables seen kept c.queue basis
      → HasAll c basis kept heard → Right heard
  all_had [] heard e none h all = first_replied c.queue heard e refl none h all
  all_had (first ∷ others) heard e none h all =
      let batch = subst (λ (k : List Numbered). BatchIsCurrent w.z.block w.contents w.tables (run_of k) basis) (sym e) h in (
        subst (λ (x : Heard). ClientIsSound w seen x.client) (sym all.is) (store_sound all.formed all.is_formed batch none),
        inl (step_with_log c (log_for c basis) (step.Store basis all.formed) heard all.is),
      )

  goes_at : (missing : Option (ℕ × Ptr)) (heard : Heard) → next_missing basis.fetched ≡ missing → GoesOnAt c basis missing heard → Right heard
  goes_at None heard e on = all_had c.kept heard refl e current on
  goes_at (Some (at, ptr)) heard e on = (
    subst (λ (x : Heard). ClientIsSound w seen x.client) (sym on) (fetch_sound at ptr e),
    inl (step_told c (step.Fetch basis at ptr (start c.servers c.fragment ptr (readers_out (first_members basis.found).state))) heard on),
  )

  pub goes_on : (heard : Heard) → GoesOn c basis heard → Right heard
  goes_on heard on = goes_at (next_missing basis.fetched) heard refl on
