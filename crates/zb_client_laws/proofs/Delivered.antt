-- A client whose batch is stored, and isn't committed yet.
use Rattle.std.proofs.Common.{◌≡◌, ℕ, ◌+◌, ◌-◌, ◌*◌, ◌≤◌, ◌<◌, true, false, List, [], ◌++◌, length, Option, None, refl, sym, ap, ◌∙◌, subst, arith}
use Rattle.std.specs.Prelude.{IsSomeAnd, nat_lt}
use Rattle.std.specs.List.{AllByRecursion, concat}
use Rattle.zb_types.specs.declared.ids.LogId.{LogId}
use Rattle.zb_types.specs.declared.ids.Piece.{Piece}
use Rattle.zb_types.specs.declared.ids.ServerId.{ServerId}
use Rattle.zb_types.specs.declared.nodes.Class.TheVariants.{Client}
use Rattle.zb_types.specs.declared.tables.CommitFault.{CommitFault}
use Rattle.zb_types.specs.declared.tables.CommitFault.TheVariants.{Regen, Stale, Worn, NoMemory, Stopped}
use Rattle.zb_types.specs.Keyed.{look}
use Rattle.zb_types.specs.Tree.{Tree}
use Rattle.zb_stripe.specs.declared.flush.Flush.{Flush}
use Rattle.zb_stripe.specs.declared.flush.Part.{Part}
use Rattle.zb_stripe_laws.specs.PartAtWork.{StripesDiffer}
use Rattle.zb_stripe_laws.proofs.Plans.{rise_differ}
use Rattle.zb_stripe.specs.Fresh.{AreFresh, IsFreshFlush}
use Rattle.zb_log.specs.declared.places.Place.{Place}
use Rattle.zb_log.specs.Logs.{AreGiven, SeenLog, bytes_with, end_with, gone_on}
use Rattle.zb_log.specs.Places.{place}
use Rattle.zb_log.specs.Sealing.{GoesNext, IsPartOf}
use Rattle.zb_log.proofs.Parting.{given_on}
use Rattle.zb_batch.specs.declared.batch.Batch.{Batch}
use Rattle.zb_batch.specs.Spelling.{spelling_of_batch}
use Rattle.zb_entries.specs.declared.entry.Entry.TheVariants.{Commit}
use Rattle.zb_tables.specs.Fold.{Shelf, committed, held_with_all, last_of as last_piece}
use Rattle.zb_tables.specs.Replay.{with_entry}
use Rattle.zb_tables.specs.Shown.{replies_through, tree_through}
use Rattle.zb_tables.specs.Tables.{Contents, LiesIn, LogState, SameIn, bytes_at}
use Rattle.zb_tables.specs.Taking.{MayCommit, commit_refusal, stripe_room}
use Rattle.zb_sound.specs.Committing.{AreInFlush, IsFlushed, IsInFlush}
use Rattle.zb_sound.specs.Delivering.{allowed}
use Rattle.zb_sound.specs.LastFlush.{LastFlush, Phase, behind}
use Rattle.zb_sound.specs.LogsCurrent.{LogIsCurrent}
use Rattle.zb_sound.specs.LookupsCurrent.{AreFetched}
use Rattle.zb_sound.proofs.Changing.{checkpoint_keeps}
use Rattle.zb_sound.proofs.Committing.{TakesTree, commit_takes}
use Rattle.zb_sound.proofs.Currents.{commit_current, moved_current, next_taken}
use Rattle.zb_sound.proofs.Flushing.{parts_same}
use Rattle.zb_sound.proofs.Fronts.{last_greatest}
use Rattle.zb_sound.proofs.Listed.{Among, at_part}
use Rattle.zb_sound.proofs.Placed.{ended_flushed, last_commits, last_ends}
use Rattle.zb_sound.proofs.Saying.{said_tables}
use Rattle.zb_sound.proofs.Strays.{copies_committed, copies_grown}
use Rattle.zb_basis.specs.declared.basis.Basis.{Basis}
use Rattle.zb_basis.specs.declared.basis.Formed.{Formed}
use Rattle.zb_basis.specs.declared.basis.Sealed.{Sealed}
use Rattle.zb_basis.specs.Forming.{IsFormed, IsStored, writers_out}
use Rattle.zb_basis.specs.Runs.{run_of}
use Rattle.zb_basis.proofs.Each.{each-of, each-weaker}
use Rattle.zb_forming_laws.specs.Flushing.{contents_with}
use Rattle.zb_forming_laws.specs.Resting.{AreShort, Rests, pairs_of, updates_of}
use Rattle.zb_forming_laws.proofs.Fewness.{may-commit}
use Rattle.zb_forming_laws.proofs.Finding.{batch-spelled, blocks-stand, ops-lie, pieces-in, some-piece}
use Rattle.zb_forming_laws.proofs.Passing.{all-grown}
use Rattle.zb_forming_laws.proofs.UpdateKinds.{batch-kinds}
use Rattle.zb_forming_laws.proofs.Updating.{of-updates, taken-fresh}
use Rattle.zb_work.specs.declared.work.Flushed.{Flushed}
use Rattle.zb_work.specs.declared.work.Step.{Step}
use Rattle.zb_work.specs.declared.work.Step.TheVariants as step
use Rattle.zb_work.specs.declared.work.Task.{Task}
use Rattle.zb_work.specs.Blocks.{there}
use Rattle.zb_work.specs.Steps.{aim_of, first_members, step_of, with_step}
use Rattle.zb_client.specs.Seen.{SeenClient}
use Rattle.zb_client.specs.Hearing.{commits, hears_outdated, tried}
use Rattle.zb_client_laws.specs.Around.{Around, IsAround, at_rest}
use Rattle.zb_client_laws.specs.Effects.{IsCommit, after_commit}
use Rattle.zb_client_laws.specs.Known.{IsKnown}
use Rattle.zb_client_laws.specs.Logging.{HasPhase, IsDelivered, RestsAt, delivers, flush_of}
use Rattle.zb_client_laws.specs.Sound.{ClientIsSound, StepIsCurrent}
use Rattle.zb_client_laws.proofs.Blocks.{all_there}
use Rattle.zb_client_laws.proofs.Lasting.{LastPart, last_part, looks_again, next_looks, number_below, only_last, same_parts, short_drop, short_run, zip_some}
use Rattle.zb_client_laws.proofs.Moving.{founds_same}

module _ (w : Around) (seen : Tree) (c : SeenClient) (s : ClientIsSound w seen c) (basis : Basis) (sealed : Sealed) (e : step_of c.task ≡ step.Commit basis sealed) where
  abbrev pub DeliveredIn : ℕ → ℕ → ℕ → Type 0
  DeliveredIn n f b = IsDelivered n f b c.log c.flushed c.batch (run_of c.kept) basis sealed s.log.generation s.log.at s.log.phase

  -- the batch is stored, of the sizes of the system
  pub delivered : DeliveredIn w.z.servers w.z.fragment w.z.block
  delivered =
      subst (λ (n : ℕ). DeliveredIn n w.z.fragment w.z.block) s.sizes.servers
      (subst (λ (f : ℕ). DeliveredIn c.servers f w.z.block) s.sizes.fragment
      (subst (λ (b : ℕ). DeliveredIn c.servers c.fragment b) s.sizes.block
      (subst (λ (st : Step). HasPhase c st s.log.generation s.log.at s.log.front s.log.phase) e s.log.has)))

  pub current : StepIsCurrent w seen c (step.Commit basis sealed)
  current = subst (λ (st : Step). StepIsCurrent w seen c st) e s.step

  abbrev pub Former : SeenLog
  Former = delivered.former

  abbrev pub Given : List ℕ
  Given = delivered.was.given

  abbrev pub Whole : Formed
  Whole = delivered.was.whole

  abbrev pub Stored : Flush
  Stored = flush_of delivered.was

  abbrev pub Out : Option ServerId
  Out = writers_out (first_members basis.found).state

  pub log_is : c.log.log ≡ Former.log
  log_is = ap (λ (l : SeenLog). l.log) delivered.goes_on

  pub standing : LastFlush w.z w.contents w.st w.tables.held (allowed w.tables.members) Former.log s.log.front (delivers delivered.was [])
  standing =
      subst (λ (l : LogId). LastFlush w.z w.contents w.st w.tables.held (allowed w.tables.members) l s.log.front (delivers delivered.was [])) log_is
      (subst (λ (p : Phase). LastFlush w.z w.contents w.st w.tables.held (allowed w.tables.members) c.log.log s.log.front p) delivered.phase_is s.log.flush)

  abbrev pub Is : IsFormed w.z.servers w.z.fragment w.z.block Former c.batch (first_members basis.found) (run_of c.kept) basis Whole
  Is = delivered.was.is

  abbrev pub Are : AreGiven Former Given
  Are = delivered.was.are

  pub stored : IsStored w.z.servers w.z.fragment Former Whole.sealed.placed (spelling_of_batch Whole.sealed.batch ++ concat Is.blocks) Is.blocks Out Whole.fresh Whole.plan Given
  stored = Is.stored Given Are

  -- ---- the last part

  pub last : LastPart Stored.parts
  last =
      last_part Stored.parts
      (zip_some IsPartOf Whole.sealed.placed.pieces Stored.parts stored.pieces
      (some-piece w.z.servers w.z.fragment w.z.block Former c.batch (first_members basis.found) (run_of c.kept) basis Whole Is Given Are))

  abbrev pub Last : Part
  Last = last.part

  pub last_among : Among Stored.parts Last
  last_among = record { before = last.is.0; after = []; is = last.is.1 }

  -- the log went on at its end
  next_is : place Last.stripe (length Last.bytes) ≡ Whole.sealed.placed.next
  next_is = sym (ap (end_with Former.next) last.found) ∙ stored.end

  fresh_is : IsFreshFlush Former.servers Former.fragment Stored Whole.fresh
  fresh_is =
      let own = Is.is_sealed in
      let first = own.parts Given Are in
      record {
        log = first.log;
        parts = subst (λ (ps : List Part). AreFresh Former.servers Former.fragment ps Whole.fresh.parts)
            (same_parts w.z.servers w.z.fragment Former.servers Former.fragment Former.next.stripe Given Whole.sealed.placed.pieces
            (spelling_of_batch Whole.sealed.batch ++ concat Is.blocks) (own.meta ++ concat own.blocks) Whole.fresh.parts stored.is_fresh.parts first.parts) first.parts;
      }

  -- whose bytes it gave
  given_now : AreGiven c.log Last.bytes
  given_now =
      subst (λ (l : SeenLog). AreGiven l Last.bytes) (sym delivered.goes_on)
      (subst (λ (o : Option Part). AreGiven (gone_on Former Whole.sealed.placed.next Whole.fresh.parts) (bytes_with Given o)) last.found
      (given_on Former Whole.sealed.placed.next Given Stored Whole.fresh Are fresh_is stored.end))

  pub above_last : s.log.at ≤ Last.stripe
  above_last =
      let next = at_part Stored.parts (GoesNext Former.room Former.next.stripe Given) Last last_among stored.next in
      let low = next.above in
      let above = delivered.above in
      omega arith

  -- the log rests behind it
  pub rests : (at front : ℕ) → at ≤ Last.stripe → RestsAt c.log c.flushed s.log.generation at front (behind Last)
  rests at front le =
      let stripe : Whole.sealed.placed.next.stripe ≡ Last.stripe = sym (ap (λ (p : Place). p.stripe) next_is) in
      subst (λ (o : Option Flushed). RestsAt c.log o s.log.generation at front (behind Last)) (sym delivered.noted)
      (record {
        part = Last;
        phase_is = refl;
        goes_on = record { stripe = ap (λ (l : SeenLog). l.next.stripe) delivered.goes_on ∙ stripe; given = given_now };
        stripe_is = ap (λ (x : Sealed). x.placed.next.stripe) delivered.sealed_is ∙ stripe;
        generation_is = refl;
        above = le;
      })

  -- ---- the batch is behind what it was looked up for

  looks_sound : (task : Option Task) → step_of task ≡ step.Lookup → ClientIsSound w seen (record c { task = task; is_ready = false })
  looks_sound task look = record {
    sizes = record { servers = s.sizes.servers; fragment = s.sizes.fragment; block = s.sizes.block };
    settled = s.settled;
    short = s.short;
    short_queue = s.short_queue;
    log = record {
      last = s.log.last;
      generation = s.log.generation;
      at = s.log.at;
      front = s.log.front;
      phase = behind Last;
      current = s.log.current;
      flush = subst (λ (l : LogId). LastFlush w.z w.contents w.st w.tables.held (allowed w.tables.members) l s.log.front (behind Last)) (sym log_is)
          (last_ends w.z w.contents w.st w.tables.held (allowed w.tables.members) Former.log s.log.front Out Client Stored Last standing last.is);
      has = subst (λ (st : Step). HasPhase (record c { task = task; is_ready = false }) st s.log.generation s.log.at s.log.front (behind Last)) (sym look) (rests s.log.at s.log.front above_last);
    };
    step = subst (λ (st : Step). StepIsCurrent w seen (record c { task = task; is_ready = false }) st) (sym look) tt;
    cached = s.cached;
  }

  pub outdated_sound : (fault : CommitFault) → ClientIsSound w seen (hears_outdated c fault).client
  outdated_sound (Stale fid at now) = looks_sound (with_step step.Lookup (tried c.task)) (looks_again (tried c.task))
  outdated_sound (Regen at now) = looks_sound (with_step step.Lookup c.task) (looks_again c.task)
  outdated_sound (Worn field) = looks_sound (with_step step.Lookup c.task) (looks_again c.task)
  outdated_sound NoMemory = looks_sound (with_step step.Lookup c.task) (looks_again c.task)
  outdated_sound Stopped = looks_sound (with_step step.Lookup c.task) (looks_again c.task)

  -- ---- it may be committed

  module _ (slots : ℕ) (a : IsAround slots w) (known : IsKnown c) where
    abbrev New : Contents
    New = contents_with w.contents Former Given Whole Is.blocks

    abbrev Pieces : List Piece
    Pieces = Whole.sealed.placed.pieces

    abbrev Made : Batch
    Made = Whole.sealed.batch

    differ : StripesDiffer Stored.parts
    differ = rise_differ Stored.parts standing.stands.rise

    same : SameIn w.tables.held w.contents New
    same = parts_same w.contents Former.log w.z w.tables.held Stored.parts standing.stands.works.fits differ

    room_is : Former.room ≡ stripe_room w.z
    room_is =
        sym (ap (λ (l : SeenLog). l.room) delivered.goes_on) ∙ known.log.room
        ∙ ap (λ (n : ℕ). (n - 1) * c.fragment) s.sizes.servers ∙ ap (λ (f : ℕ). (w.z.servers - 1) * f) s.sizes.fragment

    block_is : Former.block ≡ w.z.block
    block_is = sym (ap (λ (l : SeenLog). l.block) delivered.goes_on) ∙ known.log.block ∙ s.sizes.block

    next : IsSomeAnd (look Former.log.0 w.tables.logs) (λ (l : LogState). (l.live ≡ true) × (c.batch ≡ l.batch + 1))
    next =
        let some = known.numbered in
        let number : c.batch - 1 + 1 ≡ c.batch = omega arith in
        subst (λ (id : LogId). IsSomeAnd (look id.0 w.tables.logs) (λ (l : LogState). (l.live ≡ true) × (c.batch ≡ l.batch + 1))) log_is
        (subst (λ (n : ℕ). IsSomeAnd (look c.log.log.0 w.tables.logs) (λ (l : LogState). (l.live ≡ true) × (n ≡ l.batch + 1))) number
        (next_taken w.tables c.log.log c.client (c.batch - 1) s.log.last s.log.generation s.log.at s.log.front s.log.current))

    fetched : AreFetched New (pairs_of basis.fetched)
    fetched =
        subst (AreFetched New) (all_there basis.fetched current.1)
        (each-weaker (λ e. (e.1 ≡ bytes_at New e.0) × LiesIn w.tables.held e.0) (λ e. e.1 ≡ bytes_at New e.0) (there basis.fetched) (λ e h. h.0)
        (copies_grown w.contents New w.tables.held (there basis.fetched) same current.0.rests.fetched))

    short : AreShort (run_of c.kept)
    short = short_run c.kept s.short

    may : MayCommit w.z w.tables Made Pieces
    may =
        may-commit w.z slots Former c.batch (first_members basis.found) (run_of c.kept) basis Whole Given w.contents a.limits Is Are
        room_is block_is short fetched c.kept refl w.tables next

    pub may_sealed : MayCommit w.z w.tables sealed.batch sealed.placed.pieces
    may_sealed = subst (λ (x : Sealed). MayCommit w.z w.tables x.batch x.placed.pieces) (sym delivered.sealed_is) may

    -- ---- it is committed

    module _ (refused : commit_refusal w.z.block w.tables sealed.batch sealed.placed.pieces sealed.members.generation ≡ None) where
      taken : commit_refusal w.z.block w.tables Made Pieces sealed.members.generation ≡ None
      taken = subst (λ (x : Sealed). commit_refusal w.z.block w.tables x.batch x.placed.pieces sealed.members.generation ≡ None) delivered.sealed_is refused

      lie_in : AreInFlush Stored Pieces
      lie_in = pieces-in w.z.servers w.z.fragment w.z.block Former c.batch (first_members basis.found) (run_of c.kept) basis Whole Is Given Are

      flushed : IsFlushed w.z w.contents New w.st w.tables Former.log c.batch sealed.members.generation Pieces Made
      flushed =
          ended_flushed w.z w.contents (at_rest w.tables) w.st w.tables w.tree s.log.front Out Client Stored c.batch sealed.members.generation Pieces Made a.stands standing lie_in
          (batch-spelled w.z.servers w.z.fragment w.z.block Former c.batch (first_members basis.found) (run_of c.kept) basis Whole Is Given Are w.contents known.numbered)
          may taken
          (ops-lie w.z.servers w.z.fragment w.z.block Former c.batch (first_members basis.found) (run_of c.kept) basis Whole Is w.tables.next_entry w.tables.held)

      rests_on : Rests w.z.block New w.tables (run_of c.kept) basis Whole.sealed.placed.ptrs Is.blocks
      rests_on = record {
        short = short;
        current = all-grown w.z.block (run_of c.kept) basis.found w.contents New w.tables (founds_same w.contents New w.tables.held basis.found same current.0.rests.lie) same
            a.stands.says.points current.0.current;
        fetched = fetched;
        stand = blocks-stand w.z.servers w.z.fragment w.z.block Former c.batch (first_members basis.found) (run_of c.kept) basis Whole Is Given Are w.contents;
      }

      pos : 0 < w.z.block
      pos = let low = a.limits.block_low in omega arith

      takes : TakesTree w.z w.contents New (at_rest w.tables) w.st Former.log c.batch sealed.members.generation Pieces Made w.tables w.tree (updates_of (run_of c.kept))
      takes =
          commit_takes w.z w.contents New (at_rest w.tables) w.st Former.log c.batch sealed.members.generation Pieces Made pos w.tables w.tree a.stands flushed (updates_of (run_of c.kept))
          (of-updates w.z New w.tables (run_of c.kept) basis Former.log c.batch Made Whole.sealed.placed.ptrs Is.blocks pos
          (said_tables w.z w.contents (at_rest w.tables) w.tables w.tree a.stands.says) a.stands.says.ends Is.is_batch rests_on sealed.members.generation Pieces c.kept refl taken)

      abbrev After : Shelf
      After = takes.commits.after

      abbrev Then : Around
      Then = after_commit w Stored c.batch Pieces After (tree_through w.tree (updates_of (run_of c.kept)))

      is_commit : IsCommit w Stored Pieces Made After
      is_commit = record {
        differ = differ;
        fits = standing.stands.works.fits;
        pieces_lie = lie_in;
        updates = batch-kinds w.z.block New w.tables (run_of c.kept) basis Former.log c.batch Made Whole.sealed.placed.ptrs Is.blocks Is.is_batch rests_on;
        done = takes.commits.done;
        fresh = (taken-fresh w.z.block w.tables Made Pieces sealed.members.generation taken).0;
      }

      around_then : IsAround slots Then
      around_then = record {
        limits = a.limits;
        stands = checkpoint_keeps w.z New (with_entry (at_rest w.tables) (Commit Former.log c.batch sealed.members.generation Pieces)) w.st (committed w.tables Former.log c.batch Pieces After)
            (tree_through w.tree (updates_of (run_of c.kept))) takes.commits.stands;
        whole = a.whole;
        none_blank = a.none_blank;
      }

      -- ---- the log behind it

      low : s.log.front ≤ Last.stripe + 1
      low = standing.reached Last last.is

      pieces_low : AllByRecursion (λ (p : Piece). (p.stripe < Last.stripe + 1) × (p.stripe ≤ Last.stripe)) Pieces
      pieces_low =
          each-weaker (IsInFlush Stored) (λ (p : Piece). (p.stripe < Last.stripe + 1) × (p.stripe ≤ Last.stripe)) Pieces
          (λ p i.
          let most = last_greatest Stored.parts standing.stands.rise Last i.part last.is (record { before = i.before; after = i.after; is = i.is }) in
          let here = i.stripe_is in
          (omega arith, omega arith))
          (each-of (IsInFlush Stored) Pieces lie_in)

      current_then : LogIsCurrent Then.tables c.log.log c.client c.batch (last_piece s.log.last Pieces) s.log.generation Last.stripe (Last.stripe + 1)
      current_then =
          subst (λ (l : LogId). LogIsCurrent Then.tables l c.client c.batch (last_piece s.log.last Pieces) s.log.generation Last.stripe (Last.stripe + 1)) (sym log_is)
          (commit_current w.tables Former.log c.client (c.batch - 1) s.log.last s.log.generation s.log.at (Last.stripe + 1)
          (subst (λ (l : LogId). LogIsCurrent w.tables l c.client (c.batch - 1) s.log.last s.log.generation s.log.at (Last.stripe + 1)) log_is
          (moved_current w.tables c.log.log c.client (c.batch - 1) s.log.last s.log.generation s.log.at s.log.front s.log.current s.log.at (Last.stripe + 1) (omega arith) low))
          Last.stripe c.batch Pieces After pieces_low above_last)

      flush_then : LastFlush w.z New w.st (held_with_all Former.log w.tables.next_entry Pieces w.tables.held) (allowed w.tables.members) Former.log (Last.stripe + 1) (behind Last)
      flush_then =
          let after = last_commits w.z w.contents w.st w.tables.held (allowed w.tables.members) Former.log s.log.front Out Client Stored Last standing last.is w.tables.next_entry Pieces lie_in in
          record {
            nothing = λ server id el le. after.nothing server id el (let l = low in omega arith);
            reached = λ other one. let stripe = only_last Last other one in omega arith;
            stands = after.stands;
          }

      abbrev Client_then : SeenClient
      Client_then = (commits c After.replies).client

      batch_is : Client_then.batch - 1 ≡ c.batch
      batch_is =
          let below = number_below w.z.block w.tables Made Pieces sealed.members.generation taken in
          let number = Is.is_batch.numbered in
          omega arith

      look_then : step_of Client_then.task ≡ step.Lookup
      look_then = next_looks (aim_of c.task) (nat_lt 0 (length Client_then.kept))

      sound_then : ClientIsSound Then seen Client_then
      sound_then = record {
        sizes = record { servers = s.sizes.servers; fragment = s.sizes.fragment; block = s.sizes.block };
        settled = s.settled;
        short = short_drop (length After.replies) c.kept s.short;
        short_queue = s.short_queue;
        log = record {
          last = last_piece s.log.last Pieces;
          generation = s.log.generation;
          at = Last.stripe;
          front = Last.stripe + 1;
          phase = behind Last;
          current = subst (λ (n : ℕ). LogIsCurrent Then.tables c.log.log c.client n (last_piece s.log.last Pieces) s.log.generation Last.stripe (Last.stripe + 1)) (sym batch_is) current_then;
          flush = subst (λ (l : LogId). LastFlush Then.z Then.contents Then.st Then.tables.held (allowed Then.tables.members) l (Last.stripe + 1) (behind Last)) (sym log_is) flush_then;
          has = subst (λ (st : Step). HasPhase Client_then st s.log.generation Last.stripe (Last.stripe + 1) (behind Last)) (sym look_then) (rests Last.stripe (Last.stripe + 1) (omega arith));
        };
        step = subst (λ (st : Step). StepIsCurrent Then seen Client_then st) (sym look_then) tt;
        cached = copies_committed New Former.log w.tables.next_entry Pieces w.tables.held c.cache.entries (copies_grown w.contents New w.tables.held c.cache.entries same s.cached);
      }

      -- what such a commit leaves
      abbrev pub Leaves : Sealed → Type 0
      Leaves x =
          (flush : Flush) × (after : Shelf) × (flush.log ≡ c.log.log) × IsCommit w flush x.placed.pieces x.batch after × (x.batch.number ≡ c.batch) × (x.batch.log ≡ c.log.log)
          × (after.replies ≡ replies_through w.tree (updates_of (run_of c.kept)))
          × IsAround slots (after_commit w flush c.batch x.placed.pieces after (tree_through w.tree (updates_of (run_of c.kept))))
          × ClientIsSound (after_commit w flush c.batch x.placed.pieces after (tree_through w.tree (updates_of (run_of c.kept)))) seen (commits c after.replies).client

      pub commit_sound : Leaves sealed
      commit_sound =
          subst Leaves (sym delivered.sealed_is)
          (Stored, After, sym log_is, is_commit, Is.is_batch.numbered, Is.is_batch.of_log ∙ sym log_is, takes.replies, around_then, sound_then)
