-- A lookup that is answered from the tables.
use Rattle.std.proofs.Common.{◌≡◌, ℕ, ◌+◌, ◌<◌, ◌≤◌, Bool, true, false, List, [], ◌∷◌, Option, Some, None, refl, sym, ap, ◌∙◌, subst, inl, inr, arith}
use Rattle.std.specs.Prelude.{◌-◌, ◌*◌, ◌/◌, All, if◌then◌else◌, min, nat_le}
use Rattle.std.proofs.lemmas.Bool.{cond_both}
use Rattle.std.specs.List.{AllZip}
use Rattle.zb_types.specs.declared.calls.Call.{Call}
use Rattle.zb_types.specs.declared.calls.Call.TheVariants.{Create, Mkdir, Remove, Rename, Write, Truncate, Sync, Read, List as ListOf, Stat, Find}
use Rattle.zb_types.specs.declared.calls.Reply.{Reply}
use Rattle.zb_types.specs.declared.ids.Fid.{Fid}
use Rattle.zb_types.specs.declared.ids.Ptr.{Ptr}
use Rattle.zb_types.specs.declared.lines.Said.TheVariants as said
use Rattle.zb_types.specs.declared.tables.Found.{Found}
use Rattle.zb_types.specs.Apply.{max_file, reply_to}
use Rattle.zb_types.specs.Keyed.{look}
use Rattle.zb_types.specs.Limits.{most_kept}
use Rattle.zb_types.proofs.KeyedLists.{look-changed, over}
use Rattle.zb_types.specs.Tree.{Tree}
use Rattle.zb_tables.specs.Checkpoint.{AreTables}
use Rattle.zb_tables.specs.Finding.{found_in}
use Rattle.zb_tables.specs.Tables.{FileState, LiesIn, bytes_at, shown_bytes}
use Rattle.zb_tables.specs.Taking.{stripe_room}
use Rattle.zb_sound.specs.LookupsCurrent.{ShowsFile}
use Rattle.zb_sound.proofs.Looked.{answered_current, answered_shows}
use Rattle.zb_sound.proofs.Saying.{file_form, said_tables}
use Rattle.zb_basis.specs.declared.asks.Ask.{Ask}
use Rattle.zb_basis.specs.declared.basis.Basis.{Basis}
use Rattle.zb_basis.specs.declared.calls.Numbered.{Numbered}
use Rattle.zb_basis.specs.Looking.{AreFoundFor, ask_of, asks_of, room_of}
use Rattle.zb_basis.specs.Reading.{is_read}
use Rattle.zb_basis.specs.Runs.{company, is_alone, run_of}
use Rattle.zb_basis.proofs.Each.{all-of, each-weaker}
use Rattle.zb_basis.proofs.Found.{batch-within, read-within}
use Rattle.zb_forming_laws.specs.Resting.{IsCurrentFor}
use Rattle.zb_work.specs.Blocks.{AreSlots}
use Rattle.zb_work.proofs.Missing.{first_slots}
use Rattle.zb_work.specs.declared.work.Aim.{Aim}
use Rattle.zb_work.specs.declared.work.Aim.TheVariants.{Update, Read as ReadAim, Finish}
use Rattle.zb_work.specs.declared.work.Step.{Step}
use Rattle.zb_work.specs.declared.work.Step.TheVariants as step
use Rattle.zb_work.specs.declared.work.Task.{Task}
use Rattle.zb_work.specs.Fitting.{AimFits, FoundFor, wanted_for}
use Rattle.zb_work.specs.Steps.{aim_of, first_members, step_of}
use Rattle.zb_client.specs.declared.steps.Answer.TheVariants as answer
use Rattle.zb_client.specs.declared.steps.Lookup.{Lookup}
use Rattle.zb_client.specs.declared.steps.Lookup.TheVariants.{Files, Names}
use Rattle.zb_client.specs.Seen.{SeenClient}
use Rattle.zb_client.specs.Hearing.{HearsLookup, asks as asks_cache, looked_up}
use Rattle.zb_client.specs.Telling.{Heard, answers_read}
use Rattle.zb_client.specs.Wishing.{lookup_of, queue_lookup, read_lookup}
use Rattle.zb_client_laws.specs.Around.{Around, IsAround, at_rest}
use Rattle.zb_client_laws.specs.Current.{RestsOnHeld, ShowsFound, WorkIsCurrent}
use Rattle.zb_client_laws.specs.Effects.{IsReplyIn, TellsRight, founds}
use Rattle.zb_client_laws.specs.Known.{IsKnown}
use Rattle.zb_client_laws.specs.Logging.{HasPhase, RestsAt}
use Rattle.zb_client_laws.specs.Sound.{ClientIsSound}
use Rattle.zb_client_laws.proofs.Blocks.{there_cached}
use Rattle.zb_client_laws.proofs.Caching.{asked_each}
use Rattle.zb_client_laws.proofs.Going.{answered_sound, goes_on}
use Rattle.zb_client_laws.proofs.Telling.{same_self}
use Rattle.zb_client_laws.proofs.Resting.{AtRest}
use Rattle.zb_client_laws.proofs.Tabled.{lie_all, may_all, tabled}
use Rattle.zb_client_laws.proofs.Wanted.{wanted_lie}

-- what a lookup asks of files, and which names it reads
asks_in : Lookup → List Ask
asks_in (Files hold asks) = asks
asks_in (Names call) = []

abbrev IsNamed : Lookup → Call → Type 0
IsNamed (Files hold asks) call = ⊥
IsNamed (Names read) call = read ≡ call

named_is : (l : Lookup) (call : Call) → l ≡ Names call → IsNamed l call
named_is l call e = subst (λ (x : Lookup). IsNamed x call) (sym e) refl

abbrev AsksFiles : Lookup → List Ask → Type 0
AsksFiles (Files hold asks) other = asks ≡ other
AsksFiles (Names call) other = ⊥

files_is : (l : Lookup) (hold : Bool) (asks : List Ask) → l ≡ Files hold asks → AsksFiles l asks
files_is l hold asks e = subst (λ (x : Lookup). AsksFiles x asks) (sym e) refl

-- a read of a file's bytes asks for its blocks
record ReadAsks (b : ℕ) (call : Call) (asks : List Ask) : Type 0 where
  fid : Fid
  offset : ℕ
  len : ℕ
  is : call ≡ Read fid offset len
  asks_are : ask_of b (Read fid offset len) ∷ [] ≡ asks

read_asks : (b : ℕ) (call : Call) (asks : List Ask) → AsksFiles (read_lookup b call) asks → ReadAsks b call asks
read_asks b (Read fid offset len) asks e = record { fid = fid; offset = offset; len = len; is = refl; asks_are = e }
read_asks b (Create path) asks e = absurd e
read_asks b (Mkdir path) asks e = absurd e
read_asks b (Remove path) asks e = absurd e
read_asks b (Rename path to) asks e = absurd e
read_asks b (Write fid offset bytes) asks e = absurd e
read_asks b (Truncate fid size) asks e = absurd e
read_asks b Sync asks e = absurd e
read_asks b (ListOf path) asks e = absurd e
read_asks b (Stat path) asks e = absurd e
read_asks b (Find path) asks e = absurd e

-- work is for some call
no_aim : (aim : Aim) → AimFits [] [] (Some aim) → ⊥
no_aim (Update number) e = absurd (cc e)
no_aim ReadAim e = e
no_aim Finish lt = absurd (omega arith)

module _ (slots : ℕ) (w : Around) (a : IsAround slots w) where
  form : AreTables w.z w.tables
  form = said_tables w.z w.contents (at_rest w.tables) w.tables w.tree a.stands.says

  -- a batch's lookup
  members_of : (b : ℕ) (first : Numbered) (others : List Numbered) → first_members (founds w.tables (asks_of b (run_of (first ∷ others)))) ≡ w.tables.members
  members_of b first others = by (is_alone first.call) refl where
    by : (t : Bool) → is_alone first.call ≡ t → first_members (founds w.tables (asks_of b (if is_alone first.call then first ∷ [] else company most_kept (first ∷ others)))) ≡ w.tables.members
    by true e = rw e (tabled w.z w.tables form a.stands.says.points (ask_of b first.call)).members
    by false e = rw e (tabled w.z w.tables form a.stands.says.points (ask_of b first.call)).members

  current_all : (asks : List Ask) → AllZip (IsCurrentFor w.contents w.tables) asks (founds w.tables asks)
  current_all [] = tt
  current_all (ask ∷ asks) =
      (answered_current w.contents w.tables (ask.fid).0 ask.first ask.count (λ file at. (file_form w.z w.tables form (ask.fid).0 file at).numbered.1), current_all asks)

  -- a read's lookup
  tree_look : (fid : ℕ) → look fid w.tree.files ≡ over (shown_bytes w.z.block w.contents) (look fid w.tables.files)
  tree_look fid = ap (λ (t : Tree). look fid t.files) (sym a.stands.says.shows) ∙ look-changed (shown_bytes w.z.block w.contents) fid w.tables.files

  shows_now : (fid : Fid) (offset len : ℕ) → ShowsFound w.z.block w.contents w.tree (Read fid offset len) (founds w.tables (ask_of w.z.block (Read fid offset len) ∷ []))
  shows_now fid offset len = by (look ((ask_of w.z.block (Read fid offset len)).fid).0 w.tables.files) refl where
    same : (ask_of w.z.block (Read fid offset len)).fid ≡ fid
    same =
        let to = min (offset + len) max_file in
        cond_both (nat_le to offset) (record { fid = fid; first = 0; count = 0 }) (record { fid = fid; first = offset / w.z.block; count = (to - 1) / w.z.block - offset / w.z.block + 1 })
        (λ (x : Ask). x.fid ≡ fid) (λ _. refl) (λ _. refl)

    by : (o : Option FileState) → look ((ask_of w.z.block (Read fid offset len)).fid).0 w.tables.files ≡ o
        → ShowsFound w.z.block w.contents w.tree (Read fid offset len)
        (found_in w.tables.members (ask_of w.z.block (Read fid offset len)).first (ask_of w.z.block (Read fid offset len)).count o ∷ [])
    by None e = inl (refl, tree_look fid.0 ∙ ap (over (shown_bytes w.z.block w.contents)) (ap (λ (f : Fid). look f.0 w.tables.files) (sym same) ∙ e))
    by (Some file) e =
        let ask = ask_of w.z.block (Read fid offset len) in
        let f = file_form w.z w.tables form (ask.fid).0 file e in
        inr (
          f.version.0,
          f.short,
          (
            shown_bytes w.z.block w.contents file,
            tree_look fid.0 ∙ ap (over (shown_bytes w.z.block w.contents)) (ap (λ (g : Fid). look g.0 w.tables.files) (sym same) ∙ e),
            subst (λ (o : Option FileState). ShowsFile w.z.block w.contents ask.first ask.count (found_in w.tables.members ask.first ask.count o) (shown_bytes w.z.block w.contents file)) e
                (answered_shows w.z.block w.contents w.tables (ask.fid).0 ask.first ask.count file (let l = a.limits.block_low in omega arith) a.stands.says.ends e),
          ),
        )

  module _ (seen : Tree) (c : SeenClient) (known : IsKnown c) (s : ClientIsSound w seen c) (task : Task) (is_task : c.task ≡ Some task) (at_lookup : task.step ≡ step.Lookup) where
    aim : AimFits c.kept c.queue (Some task.aim)
    aim = subst (λ (t : Option Task). AimFits c.kept c.queue (aim_of t)) is_task known.aim

    room : stripe_room w.z ≡ room_of c.servers c.fragment
    room = sym (ap (λ (n : ℕ). (n - 1) * c.fragment) s.sizes.servers ∙ ap (λ (f : ℕ). (w.z.servers - 1) * f) s.sizes.fragment)

    rests : RestsAt c.log c.flushed s.log.generation s.log.at s.log.front s.log.phase
    rests = subst (λ (st : Step). HasPhase c st s.log.generation s.log.at s.log.front s.log.phase) (ap step_of is_task ∙ at_lookup) s.log.has

    pub rest : AtRest w c
    rest = record {
      sizes = s.sizes;
      settled = s.settled;
      short = s.short;
      short_queue = s.short_queue;
      numbered = known.numbered;
      log_is = known.log;
      last = s.log.last;
      generation = s.log.generation;
      at = s.log.at;
      front = s.log.front;
      phase = s.log.phase;
      current = s.log.current;
      flush = s.log.flush;
      rests = rests;
      cached = s.cached;
    }

    may_asks : (asks : List Ask) → AreFoundFor c.block (room_of c.servers c.fragment) asks (founds w.tables asks)
    may_asks asks =
        subst (λ (n : ℕ). AreFoundFor c.block n asks (founds w.tables asks)) room
        (subst (λ (b : ℕ). AreFoundFor b (stripe_room w.z) asks (founds w.tables asks)) (sym s.sizes.block) (may_all w.z w.tables form a.stands.says.points asks))

    -- ---- what is found for what is asked

    module _ (asks : List Ask) where
      abbrev Found_now : List Found
      Found_now = founds w.tables asks

      abbrev Looked : Basis
      Looked = looked_up c Found_now

      record Looks (kept queue : List Numbered) : Type 0 where
        may : FoundFor c.block (room_of c.servers c.fragment) kept queue Found_now
        within : All (λ (p : Ptr). p.offset + p.len ≤ room_of c.servers c.fragment) (wanted_for c.block kept queue Found_now)
        members : first_members Found_now ≡ w.tables.members
        current : (basis : Basis) → basis.found ≡ Found_now → RestsOnHeld w.contents w.tables basis → WorkIsCurrent w.z.block w.contents w.tables w.tree kept queue basis

      looks_read : (read : Numbered) (rest : List Numbered) → ReadAsks c.block read.call asks → Looks [] (read ∷ rest)
      looks_read read rest r =
          let ask = ask_of c.block (Read r.fid r.offset r.len) in
          let found_is : Found_now ≡ founds w.tables (ask ∷ []) = ap (founds w.tables) (sym r.asks_are) in
          let may : AreFoundFor c.block (room_of c.servers c.fragment) (ask_of c.block read.call ∷ []) Found_now =
          subst (λ (call : Call). AreFoundFor c.block (room_of c.servers c.fragment) (ask_of c.block call ∷ []) Found_now) (sym r.is)
          (subst (λ (found : List Found). AreFoundFor c.block (room_of c.servers c.fragment) (ask ∷ []) found) (sym found_is) (may_asks (ask ∷ []))) in
          record {
            may = (ap is_read r.is, may);
            within = read-within c.block (room_of c.servers c.fragment) read.call Found_now may;
            members = ap first_members found_is ∙ (tabled w.z w.tables form a.stands.says.points ask).members;
            current = λ basis is held. record {
              rests = held;
              shows =
                  subst (λ (call : Call). ShowsFound w.z.block w.contents w.tree call basis.found) (sym r.is)
                  (subst (λ (found : List Found). ShowsFound w.z.block w.contents w.tree (Read r.fid r.offset r.len) found)
                  (ap (λ (b : ℕ). founds w.tables (ask_of b (Read r.fid r.offset r.len) ∷ [])) (sym s.sizes.block) ∙ sym found_is ∙ sym is)
                  (shows_now r.fid r.offset r.len));
            };
          }

      looks_batch : (first : Numbered) (others queue : List Numbered) → asks_of c.block (run_of (first ∷ others)) ≡ asks → Looks (first ∷ others) queue
      looks_batch first others queue e =
          let run = run_of (first ∷ others) in
          let may : AreFoundFor c.block (room_of c.servers c.fragment) (asks_of c.block run) Found_now =
          subst (λ (found : List Found). AreFoundFor c.block (room_of c.servers c.fragment) (asks_of c.block run) found) (ap (founds w.tables) e) (may_asks (asks_of c.block run)) in
          record {
            may = may;
            within = batch-within c.block (room_of c.servers c.fragment) run Found_now may;
            members = ap (λ (them : List Ask). first_members (founds w.tables them)) (sym e) ∙ members_of c.block first others;
            current = λ basis is held. record {
              rests = held;
              current =
                  subst (λ (b : ℕ). AllZip (IsCurrentFor w.contents w.tables) (asks_of b run) basis.found) s.sizes.block
                  (subst (λ (found : List Found). AllZip (IsCurrentFor w.contents w.tables) (asks_of c.block run) found) (ap (founds w.tables) e ∙ sym is) (current_all (asks_of c.block run)));
            };
          }

      looks_first : (queue : List Numbered) → AsksFiles (queue_lookup c.block queue) asks → AimFits [] queue (Some task.aim) → Looks [] queue
      looks_first [] e fits = absurd (no_aim task.aim fits)
      looks_first (read ∷ rest) e fits = looks_read read rest (read_asks c.block read.call asks e)

      looks_by : (kept : List Numbered) → AsksFiles (lookup_of c task.tries kept) asks → AimFits kept c.queue (Some task.aim) → Looks kept c.queue
      looks_by [] e fits = looks_first c.queue e fits
      looks_by (first ∷ others) e fits = looks_batch first others c.queue e

      module _ (hold : Bool) (is : lookup_of c task.tries c.kept ≡ Files hold asks) where
        looks : Looks c.kept c.queue
        looks = looks_by c.kept (files_is (lookup_of c task.tries c.kept) hold asks is) aim

        pub may_find : FoundFor c.block (room_of c.servers c.fragment) c.kept c.queue Found_now
        may_find = looks.may

        abbrev Asked : SeenClient
        Asked = asks_cache c (wanted_for c.block c.kept c.queue Found_now)

        rest_asked : AtRest w Asked
        rest_asked = record {
          sizes = record { servers = s.sizes.servers; fragment = s.sizes.fragment; block = s.sizes.block };
          settled = s.settled;
          short = s.short;
          short_queue = s.short_queue;
          numbered = known.numbered;
          log_is = record { log_is = known.log.log_is; servers = known.log.servers; fragment = known.log.fragment; room = known.log.room; block = known.log.block };
          last = s.log.last;
          generation = s.log.generation;
          at = s.log.at;
          front = s.log.front;
          phase = s.log.phase;
          current = s.log.current;
          flush = s.log.flush;
          rests = rests;
          cached = asked_each (λ (e : Ptr × List ℕ). (e.1 ≡ bytes_at w.contents e.0) × LiesIn w.tables.held e.0) (wanted_for c.block c.kept c.queue Found_now) c.cache.entries s.cached;
        }

        held : RestsOnHeld w.contents w.tables Looked
        held = record {
          lie = lie_all w.z w.tables form a.stands.says.points asks;
          fetched = there_cached (λ (e : Ptr × List ℕ). (e.1 ≡ bytes_at w.contents e.0) × LiesIn w.tables.held e.0) c.cache (wanted_for c.block c.kept c.queue Found_now) s.cached;
          members = looks.members;
        }

        slot : AreSlots (room_of c.servers c.fragment) (wanted_for c.block c.kept c.queue Found_now) Looked.fetched
        slot =
            let ws = wanted_for c.block c.kept c.queue Found_now in
            first_slots (room_of c.servers c.fragment) c.cache ws
            (all-of (λ (p : Ptr). 0 < p.len) ws (each-weaker (LiesIn w.tables.held) (λ (p : Ptr). 0 < p.len) ws (λ p lies. lies.0)
            (wanted_lie w.tables.held c.block c.kept c.queue Found_now (lie_all w.z w.tables form a.stands.says.points asks))))
            looks.within

        pub found_sound : (heard : Heard) → HearsLookup c (answer.Found Found_now) heard → ClientIsSound w w.tree heard.client × TellsRight w.tree c heard
        found_sound heard on =
            let right = goes_on slots w a w.tree Asked rest_asked task is_task Looked (looks.current Looked refl held) held slot heard on in
            (right.0, as_before right.1) where
              as_before : TellsRight w.tree Asked heard → TellsRight w.tree c heard
              as_before (inl none) = inl (record { told = none.told; same = record { client = none.same.client; kept = none.same.kept; queue = none.same.queue; aim = none.same.aim } })
              as_before (inr (d, r)) =
                  inr (d, record { reply = r.reply; right = r.right; none_kept = r.none_kept; same = record { client = r.same.client; kept = r.same.kept; queue = r.same.queue; aim = r.same.aim }; is = r.is })

    -- ---- a read of names

    module _ (call : Call) (reply : Reply) (right : reply ≡ reply_to w.tree call) where
      first_named : (queue : List Numbered) → IsNamed (queue_lookup c.block queue) call → IsReplyIn w.tree queue reply
      first_named [] n = absurd n
      first_named (read ∷ rest) n = right ∙ ap (reply_to w.tree) (sym (by read.call n)) where
        by : (what : Call) → IsNamed (read_lookup c.block what) call → what ≡ call
        by (Read fid offset len) n = absurd n
        by (Create path) n = n
        by (Mkdir path) n = n
        by (Remove path) n = n
        by (Rename path to) n = n
        by (Write fid offset bytes) n = n
        by (Truncate fid size) n = n
        by Sync n = n
        by (ListOf path) n = n
        by (Stat path) n = n
        by (Find path) n = n

      kept_named : (kept : List Numbered) → IsNamed (lookup_of c task.tries kept) call → IsReplyIn w.tree c.queue reply
      kept_named [] n = first_named c.queue n
      kept_named (first ∷ others) n = absurd n

      none_named : (kept : List Numbered) → IsNamed (lookup_of c task.tries kept) call → kept ≡ []
      none_named [] n = refl
      none_named (first ∷ others) n = absurd n

      pub named_sound : (heard : Heard) → lookup_of c task.tries c.kept ≡ Names call → heard ≡ answers_read c (said.Reply reply)
          → ClientIsSound w seen heard.client × TellsRight w.tree c heard
      named_sound heard e is = (
        subst (λ (x : Heard). ClientIsSound w seen x.client) (sym is) (answered_sound w seen c rest c.queue (said.Reply reply) s.short_queue),
        inr (
          c,
          record {
            reply = reply;
            right = kept_named c.kept (named_is (lookup_of c task.tries c.kept) call e);
            none_kept = none_named c.kept (named_is (lookup_of c task.tries c.kept) call e);
            same = same_self c;
            is = is;
          },
        ),
      )
