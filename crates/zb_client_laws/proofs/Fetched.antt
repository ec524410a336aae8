-- What a response makes of a client that fetches.
use Rattle.std.proofs.Common.{◌≡◌, ℕ, Bool, true, false, eqb, List, [], ◌∷◌, Option, Some, None, refl, sym, ap, subst, inl, inr}
use Rattle.std.specs.Prelude.{◌⊎◌, if◌then◌else◌, length, nat_lt}
use Rattle.std.specs.Bool.{MatchBool}
use Rattle.std.proofs.lemmas.Bool.{and_parts, eqb-true}
use Rattle.zb_types.specs.declared.ids.Ptr.{Ptr}
use Rattle.zb_types.specs.declared.requests.Response.{Response}
use Rattle.zb_types.specs.declared.requests.Response.TheVariants as told
use Rattle.zb_types.specs.declared.requests.StoreFault.TheVariants as fault
use Rattle.zb_types.specs.Tree.{Tree}
use Rattle.zb_stripe.specs.declared.progress.Phase.{Phase}
use Rattle.zb_stripe.specs.declared.progress.Phase.TheVariants.{Direct}
use Rattle.zb_stripe.specs.declared.read_plan.Got.{Got}
use Rattle.zb_stripe.specs.declared.read_plan.Got.TheVariants as got
use Rattle.zb_stripe.specs.Reading.{Answers, Reading, advanced, asked, end_of, fed_in, pos_of}
use Rattle.zb_stripe_laws.specs.ReadAtWork.{AnswersFrom}
use Rattle.zb_tables.specs.Tables.{LiesIn, bytes_at}
use Rattle.zb_basis.specs.declared.basis.Basis.{Basis}
use Rattle.zb_basis.specs.declared.calls.Numbered.{Numbered}
use Rattle.zb_basis.specs.Looking.{room_of}
use Rattle.zb_basis.specs.Runs.{run_of}
use Rattle.zb_forming_laws.specs.Resting.{AreCurrent}
use Rattle.zb_work.proofs.Missing.{slots_filled}
use Rattle.zb_work.specs.declared.work.Step.{Step}
use Rattle.zb_work.specs.declared.work.Step.TheVariants as step
use Rattle.zb_work.specs.declared.work.Task.{Task}
use Rattle.zb_work.specs.Fitting.{IsFetching, Stands, StepFits, wanted_for}
use Rattle.zb_work.specs.Steps.{step_of, with_step}
use Rattle.zb_client.specs.Seen.{SeenClient, at_step}
use Rattle.zb_client.specs.Hearing.{GoesOn, HearsFetch, HearsGot, caches, is_whole, with_block}
use Rattle.zb_client.specs.Telling.{Heard, looks_anew, silent}
use Rattle.zb_client_laws.specs.Around.{Around, IsAround}
use Rattle.zb_client_laws.specs.Current.{FirstIsCurrent, IsReading, RestsOnHeld, ShowsFound, WorkIsCurrent}
use Rattle.zb_client_laws.specs.Effects.{TellsRight}
use Rattle.zb_client_laws.specs.Known.{IsKnown}
use Rattle.zb_client_laws.specs.Logging.{HasPhase, RestsAt}
use Rattle.zb_client_laws.specs.Sound.{ClientIsSound, StepIsCurrent}
use Rattle.zb_client_laws.proofs.Blocks.{missing_each, there_filled}
use Rattle.zb_client_laws.proofs.Caching.{put_each}
use Rattle.zb_client_laws.proofs.Fetching.{all_bytes, gained_is, may_answer, more, told_from}
use Rattle.zb_client_laws.proofs.Going.{goes_on, rest_sound}
use Rattle.zb_client_laws.proofs.Telling.{step_told}
use Rattle.zb_client_laws.proofs.Resting.{AtRest}
use Rattle.zb_client_laws.proofs.Wanted.{wanted_lie}

-- a step other than a lookup is of some work
record Works (c : SeenClient) : Type 0 where
  task : Task
  is : c.task ≡ Some task

works : (c : SeenClient) (basis : Basis) (at : ℕ) (ptr : Ptr) (plan : Reading) (o : Option Task) → c.task ≡ o → step_of o ≡ step.Fetch basis at ptr plan → Works c
works c basis at ptr plan None e is = absurd (cc is)
works c basis at ptr plan (Some task) e is = record { task = task; is = e }

module _ (slots : ℕ) (w : Around) (a : IsAround slots w) (seen : Tree) (c : SeenClient) (known : IsKnown c) (s : ClientIsSound w seen c)
    (basis : Basis) (at : ℕ) (ptr : Ptr) (plan : Reading) (is_step : step_of c.task ≡ step.Fetch basis at ptr plan) where
  of : Works c
  of = works c basis at ptr plan c.task refl is_step

  pub fits : IsFetching c.servers c.fragment c.block c.kept c.queue c.doubted basis at ptr × Stands plan
  fits = subst (λ (st : Step). StepFits c.servers c.fragment c.block c.log c.kept c.queue c.doubted st) is_step known.work

  rests : RestsAt c.log c.flushed s.log.generation s.log.at s.log.front s.log.phase
  rests = subst (λ (st : Step). HasPhase c st s.log.generation s.log.at s.log.front s.log.phase) is_step s.log.has

  current : WorkIsCurrent w.z.block w.contents w.tables seen c.kept c.queue basis × IsReading w.z w.contents w.st.maps w.tables.held ptr plan
  current = subst (λ (st : Step). StepIsCurrent w seen c st) is_step s.step

  pub reading : IsReading w.z w.contents w.st.maps w.tables.held ptr plan
  reading = current.1

  rest : AtRest w c
  rest = record {
    sizes = s.sizes;
    settled = s.settled;
    short = s.short;
    short_queue = s.short_queue;
    numbered = known.numbered;
    log_is = known.log;
    last = s.log.last;
    generation = s.log.generation;
    at = s.log.at;
    front = s.log.front;
    phase = s.log.phase;
    current = s.log.current;
    flush = s.log.flush;
    rests = rests;
    cached = s.cached;
  }

  -- ---- what the work rests on

  first_held : (queue : List Numbered) → FirstIsCurrent w.z.block w.contents w.tables seen queue basis → RestsOnHeld w.contents w.tables basis
  first_held [] f = absurd f
  first_held (read ∷ others) f = f.rests

  held_of : (kept queue : List Numbered) → WorkIsCurrent w.z.block w.contents w.tables seen kept queue basis → RestsOnHeld w.contents w.tables basis
  held_of [] queue h = first_held queue h
  held_of (first ∷ others) queue h = h.rests

  held : RestsOnHeld w.contents w.tables basis
  held = held_of c.kept c.queue current.0

  first_as : (other : Basis) → other.found ≡ basis.found → RestsOnHeld w.contents w.tables other → (queue : List Numbered) → FirstIsCurrent w.z.block w.contents w.tables seen queue basis
      → FirstIsCurrent w.z.block w.contents w.tables seen queue other
  first_as other e r [] f = f
  first_as other e r (read ∷ others) f = record { rests = r; shows = subst (ShowsFound w.z.block w.contents seen read.call) (sym e) f.shows }

  work_as : (other : Basis) → other.found ≡ basis.found → RestsOnHeld w.contents w.tables other → (kept queue : List Numbered)
      → WorkIsCurrent w.z.block w.contents w.tables seen kept queue basis → WorkIsCurrent w.z.block w.contents w.tables seen kept queue other
  work_as other e r [] queue h = first_as other e r queue h
  work_as other e r (first ∷ others) queue h =
      record { rests = r; current = subst (AreCurrent w.z.block w.contents w.tables (run_of (first ∷ others))) (sym e) h.current }

  pub lies : LiesIn w.tables.held ptr
  lies =
      missing_each (LiesIn w.tables.held) (room_of c.servers c.fragment) (wanted_for c.block c.kept c.queue basis.found) basis.fetched at ptr fits.0.rests.slots
      (wanted_lie w.tables.held c.block c.kept c.queue basis.found held.lie) fits.0.missing

  -- ---- the steps that come of it

  abbrev Right : Heard → Type 0
  Right heard = ClientIsSound w seen heard.client × TellsRight seen c heard

  silent_right : (st : Step) (heard : Heard) → heard ≡ silent (at_step c st) → ClientIsSound w seen (silent (at_step c st)).client → Right heard
  silent_right st heard is sound = (subst (λ (x : Heard). ClientIsSound w seen x.client) (sym is) sound, inl (step_told c st heard is))

  step_is : (st : Step) → step_of (with_step st c.task) ≡ st
  step_is st = ap (λ (t : Option Task). step_of (with_step st t)) of.is

  anew : ClientIsSound w seen (looks_anew c).client
  anew =
      let d : SeenClient = record c { queue = c.queue; task = with_step step.Lookup c.task; is_ready = false } in
      rest_sound w seen c rest c.queue (with_step step.Lookup c.task) s.short_queue rest.rests
      (subst (λ (x : Step). HasPhase d x rest.generation rest.at rest.front rest.phase) (sym (step_is step.Lookup)) rest.rests)
      (subst (λ (x : Step). StepIsCurrent w seen d x) (sym (step_is step.Lookup)) tt)

  reads_on : (next : Reading) → IsReading w.z w.contents w.st.maps w.tables.held ptr next → ClientIsSound w seen (silent (at_step c (step.Fetch basis at ptr next))).client
  reads_on next r =
      let st = step.Fetch basis at ptr next in
      let d : SeenClient = record c { queue = c.queue; task = with_step st c.task; is_ready = false } in
      rest_sound w seen c rest c.queue (with_step st c.task) s.short_queue rest.rests
      (subst (λ (x : Step). HasPhase d x rest.generation rest.at rest.front rest.phase) (sym (step_is st)) rest.rests)
      (subst (λ (x : Step). StepIsCurrent w seen d x) (sym (step_is st)) (current.0, r))

  module _ (bytes : List ℕ) (are : bytes ≡ bytes_at w.contents ptr) where
    abbrev P : Ptr × List ℕ → Type 0
    P e = (e.1 ≡ bytes_at w.contents e.0) × LiesIn w.tables.held e.0

    abbrev Cached : SeenClient
    Cached = caches c ptr bytes

    rest_cached : AtRest w Cached
    rest_cached = record {
      sizes = record { servers = s.sizes.servers; fragment = s.sizes.fragment; block = s.sizes.block };
      settled = s.settled;
      short = s.short;
      short_queue = s.short_queue;
      numbered = known.numbered;
      log_is = record { log_is = known.log.log_is; servers = known.log.servers; fragment = known.log.fragment; room = known.log.room; block = known.log.block };
      last = s.log.last;
      generation = s.log.generation;
      at = s.log.at;
      front = s.log.front;
      phase = s.log.phase;
      current = s.log.current;
      flush = s.log.flush;
      rests = rests;
      cached = put_each P c.cache.room ptr bytes c.cache.entries (are, lies) s.cached;
    }

    held_more : RestsOnHeld w.contents w.tables (with_block basis at ptr bytes)
    held_more = record { lie = held.lie; fetched = there_filled P basis.fetched at ptr bytes (are, lies) held.fetched; members = held.members }

    whole_by : (heard : Heard) (t : Bool) → is_whole ptr bytes ≡ t → MatchBool t (GoesOn Cached (with_block basis at ptr bytes) heard) (heard ≡ looks_anew c) → Right heard
    whole_by heard true e on =
        let long = eqb-true (length bytes) ptr.len (and_parts (eqb (length bytes) ptr.len) (nat_lt 0 (length bytes)) e).0 in
        let right = goes_on slots w a seen Cached rest_cached of.task of.is (with_block basis at ptr bytes)
        (work_as (with_block basis at ptr bytes) refl held_more c.kept c.queue current.0) held_more
        (slots_filled (room_of c.servers c.fragment) (wanted_for c.block c.kept c.queue basis.found) basis.fetched at ptr bytes fits.0.rests.slots fits.0.missing long) heard on in
        (right.0, as_before right.1) where
          as_before : TellsRight seen Cached heard → TellsRight seen c heard
          as_before (inl none) = inl (record { told = none.told; same = record { client = none.same.client; kept = none.same.kept; queue = none.same.queue; aim = none.same.aim } })
          as_before (inr (d, r)) =
              inr (d, record { reply = r.reply; right = r.right; none_kept = r.none_kept; same = record { client = r.same.client; kept = r.same.kept; queue = r.same.queue; aim = r.same.aim }; is = r.is })
    whole_by heard false e on = silent_right step.Lookup heard on anew

  -- ---- by what was told

  abbrev Hears : ℕ → Reading × Got → Heard → Type 0
  Hears serving f heard = HearsGot c basis at ptr f.0 serving f.1 heard

  bytes_by : (bytes : List ℕ) (serving : ℕ) (heard : Heard) (from : AnswersFrom w.st.maps None None (asked plan) (told.Bytes bytes)) (t : Bool)
      → nat_lt (pos_of (advanced plan bytes)) (end_of (advanced plan bytes)) ≡ t
      → Hears serving (advanced plan bytes, if t then got.More else got.Bytes (advanced plan bytes).read) heard → Right heard
  bytes_by bytes serving heard from true e h = silent_right (step.Fetch basis at ptr (advanced plan bytes)) heard h (reads_on (advanced plan bytes) (more slots w a ptr plan reading bytes from e))
  bytes_by bytes serving heard from false e h =
      whole_by (advanced plan bytes).read (all_bytes slots w a ptr plan reading bytes from e) heard (is_whole ptr (advanced plan bytes).read) refl h

  gone_by : (serving : ℕ) (heard : Heard) (g : Got) → (g ≡ got.Gone) ⊎ ((g ≡ got.More) ⊎ ((now : ℕ) × (g ≡ got.Old now))) → Hears serving (plan, g) heard → Right heard
  gone_by serving heard g (inl e) h = silent_right step.Lookup heard (subst (λ (x : Got). Hears serving (plan, x) heard) e h) anew
  gone_by serving heard g (inr (inl e)) h = silent_right (step.Fetch basis at ptr plan) heard (subst (λ (x : Got). Hears serving (plan, x) heard) e h) (reads_on plan reading)
  gone_by serving heard g (inr (inr (now, e))) h = silent_right step.Lookup heard (subst (λ (x : Got). Hears serving (plan, x) heard) e h) anew

  -- what a response comes to where the range itself is asked
  abbrev Direct_fed : Response → Reading × Got
  Direct_fed response = fed_in plan Direct response

  by_response : (response : Response) (serving : ℕ) (heard : Heard) → AnswersFrom w.st.maps None None (asked plan) response → Hears serving (Direct_fed response) heard → Right heard
  by_response (told.Bytes bytes) serving heard from h =
      bytes_by bytes serving heard from (nat_lt (pos_of (advanced plan bytes)) (end_of (advanced plan bytes))) refl
      (subst (λ (f : Reading × Got). Hears serving f heard) (gained_is slots w a ptr plan reading bytes from) h)
  by_response told.Down serving heard from h = absurd (told_from w.st.maps (asked plan) told.Down from tt)
  by_response told.Blank serving heard from h = absurd (told_from w.st.maps (asked plan) told.Blank from tt)
  by_response told.Done serving heard from h = gone_by serving heard got.Gone (inl refl) h
  by_response (told.Parity lengths bytes) serving heard from h = gone_by serving heard got.Gone (inl refl) h
  by_response (told.Ids ids) serving heard from h = gone_by serving heard got.Gone (inl refl) h
  by_response (told.Refused fault.NoFragment) serving heard from h = gone_by serving heard got.Gone (inl refl) h
  by_response (told.Refused fault.Exists) serving heard from h = gone_by serving heard got.Gone (inl refl) h
  by_response (told.Refused (fault.Offset len)) serving heard from h = gone_by serving heard got.Gone (inl refl) h
  by_response (told.Refused (fault.Short len)) serving heard from h = gone_by serving heard got.Gone (inl refl) h
  by_response (told.Refused (fault.NoSlot free)) serving heard from h = gone_by serving heard got.Gone (inl refl) h
  by_response (told.Refused fault.Stopped) serving heard from h = gone_by serving heard got.Gone (inl refl) h
  by_response (told.Refused (fault.OldGeneration now)) serving heard from h = gone_by serving heard (got.Old now) (inr (inr (now, refl))) h
  by_response (told.Refused fault.NoMemory) serving heard from h = gone_by serving heard got.More (inr (inl refl)) h

  pub fetch_goes_on : (response : Response) (serving : ℕ) (heard : Heard) → AnswersFrom w.st.maps None None (asked plan) response
      → HearsFetch c (step.Fetch basis at ptr plan) response serving heard → Right heard
  fetch_goes_on response serving heard from h =
      by_response response serving heard from (subst (λ (p : Phase). Hears serving (fed_in plan p response) heard) reading.direct h)

  pub fetch_may_answer : (response : Response) → AnswersFrom w.st.maps None None (asked plan) response → Answers plan.servers (asked plan) response
  fetch_may_answer response from = may_answer slots w a ptr plan reading response fits.1 from
