-- A client beside a request or a commit of another.
use Rattle.std.proofs.Common.{◌≡◌, ◌≢◌, ℕ, List, [], ◌∷◌, length, Option, Some, None, refl, sym, ap, ◌∙◌, inl, inr, arith}
use Rattle.std.specs.Prelude.{slice_get}
use Rattle.std.specs.Prelude.{◌-◌, slice_index_or}
use Rattle.std.specs.List.{AllByRecursion}
use Rattle.zb_types.specs.declared.calls.Call.{Call}
use Rattle.zb_types.specs.declared.calls.Call.TheVariants.{Create, Mkdir, Remove, Rename, Write, Truncate, Sync, Read, List as ListOf, Stat, Find}
use Rattle.zb_types.specs.declared.ids.Piece.{Piece}
use Rattle.zb_types.specs.declared.ids.ServerId.{ServerId}
use Rattle.zb_types.specs.declared.nodes.Class.{Class}
use Rattle.zb_types.specs.declared.requests.Request.{Request}
use Rattle.zb_types.specs.declared.tables.Found.{Found}
use Rattle.zb_types.specs.declared.tables.HeldUse.{HeldUse}
use Rattle.zb_types.specs.Tree.{Tree}
use Rattle.zb_stripe.specs.declared.flush.Flush.{Flush}
use Rattle.zb_stripe.specs.Writing.{plan_requests}
use Rattle.zb_batch.specs.declared.batch.Batch.{Batch}
use Rattle.zb_tables.specs.Checkpoint.{AreTables}
use Rattle.zb_tables.specs.Fold.{Shelf, committed, held_with_all}
use Rattle.zb_tables.specs.Tables.{Contents, HeldOn, SameIn, Tables}
use Rattle.zb_sound.specs.Delivering.{FlushWorks, allowed, after_asked, with_parts}
use Rattle.zb_sound.specs.LastFlush.{IsBefore, OfName, parts_in}
use Rattle.zb_tables.proofs.Holding.{with_all_on}
use Rattle.zb_sound.proofs.Delivering.{get_behind, others_stand}
use Rattle.zb_sound.proofs.Fronts.{nothing_still, plan_of}
use Rattle.zb_sound.proofs.Placed.{last_stays}
use Rattle.zb_sound.proofs.Currents.{other_current}
use Rattle.zb_sound.proofs.Flushing.{parts_others, parts_same}
use Rattle.zb_sound.proofs.Looked.{grown_shows}
use Rattle.zb_sound.proofs.Saying.{said_tables}
use Rattle.zb_sound.proofs.Staying.{commit_leaves, nothing_leaves}
use Rattle.zb_sound.proofs.Strays.{copies_committed, copies_grown}
use Rattle.zb_forming_laws.proofs.Passing.{all-grown, all-updated}
use Rattle.zb_basis.specs.declared.basis.Basis.{Basis}
use Rattle.zb_basis.specs.declared.calls.Numbered.{Numbered}
use Rattle.zb_basis.specs.Looking.{ask_of}
use Rattle.zb_basis.specs.Runs.{run_of}
use Rattle.zb_work.specs.Blocks.{there}
use Rattle.zb_work.specs.declared.work.Step.{Step}
use Rattle.zb_work.specs.declared.work.Step.TheVariants as step
use Rattle.zb_work.specs.Steps.{step_of}
use Rattle.zb_client.specs.Seen.{SeenClient}
use Rattle.zb_client_laws.specs.Around.{Around, IsAround, at_rest}
use Rattle.zb_client_laws.specs.Current.{BatchIsCurrent, FirstIsCurrent, FoundLies, RestsOnHeld, ShowsFound, WorkIsCurrent}
use Rattle.zb_client_laws.specs.Effects.{IsCommit, after_commit, after_request}
use Rattle.zb_client_laws.specs.Logging.{LogIsAtWork}
use Rattle.zb_client_laws.specs.Sound.{ClientIsSound, StepIsCurrent}
use Rattle.zb_client_laws.proofs.Missing.{none_misses}
use Rattle.zb_client_laws.proofs.Moving.{found_same, founds_on, founds_same, reading_moves}

module _ (slots : ℕ) (w : Around) (seen : Tree) (c : SeenClient) (a : IsAround slots w) (s : ClientIsSound w seen c) where
  module _ (out : Option ServerId) (class : Class) (flush : Flush) (left : List (ServerId × Request)) (asked : ServerId × Request)
      (ne : c.log.log.0 ≢ flush.log.0) (works : FlushWorks w.z w.contents w.st w.tables.held (allowed w.tables.members) out class flush left) (is : slice_get left 0 ≡ Some asked) where
    -- the request is one of the plan's
    in_plan : slice_get (plan_requests w.z.servers w.z.fragment out class flush) (length ((works.each None (none_misses slots w a)).work.done)) ≡ Some asked
    in_plan =
        let plan = (works.each None (none_misses slots w a)).work in
        ap (λ (rs : List (ServerId × Request)). slice_get rs (length plan.done)) plan.all ∙ get_behind plan.done left ∙ is

    before : OfName (IsBefore c.log.log s.log.front) asked.1
    before = plan_of (IsBefore c.log.log s.log.front) w.z.servers w.z.fragment out class flush (λ q m k. inl (λ e. ne (sym e)))
        (length ((works.each None (none_misses slots w a)).work.done)) asked in_plan

    log_beside : LogIsAtWork (after_request w asked) c
    log_beside = record {
      last = s.log.last;
      generation = s.log.generation;
      at = s.log.at;
      front = s.log.front;
      phase = s.log.phase;
      current = s.log.current;
      flush =
          last_stays w.z w.contents w.contents w.st (after_asked w.st asked) w.tables.held w.tables.held (allowed w.tables.members) (allowed w.tables.members) c.log.log
          s.log.front s.log.phase
          (others_stand w.z w.contents out class flush w.st w.tables.held (allowed w.tables.members) left asked is works c.log.log (parts_in s.log.phase) ne)
          (λ i d l. record { same_held = refl; same_contents = refl })
          (nothing_still w.st.maps asked c.log.log s.log.front before s.log.flush.nothing)
          s.log.flush;
      has = s.log.has;
    }

    step_beside : (st : Step) → StepIsCurrent w seen c st → StepIsCurrent (after_request w asked) seen c st
    step_beside step.Lookup h = h
    step_beside (step.Fetch basis at ptr plan) h = (
      h.0,
      reading_moves w.z w.contents w.contents w.st.maps (after_asked w.st asked).maps w.tables.held w.tables.held ptr plan
          (let l = a.limits.servers_low in omega arith) (let l = a.limits.fragment_low in omega arith) (λ l s. refl) (λ l s. omega arith) h.1,
    )
    step_beside (step.Store basis formed) h = h
    step_beside (step.Mark server generation) h = h
    step_beside (step.Commit basis sealed) h = h

    pub request_beside : ClientIsSound (after_request w asked) seen c
    request_beside = record {
      sizes = s.sizes;
      settled = s.settled;
      short = s.short;
      short_queue = s.short_queue;
      log = log_beside;
      step = step_beside (step_of c.task) s.step;
      cached = s.cached;
    }

  module _ (flush : Flush) (number : ℕ) (pieces : List Piece) (batch : Batch) (after : Shelf) (tree : Tree)
      (ne : c.log.log.0 ≢ flush.log.0) (is : IsCommit w flush pieces batch after) where
    abbrev New : Contents
    New = with_parts w.contents flush.log flush.parts

    abbrev Later : List HeldUse
    Later = held_with_all flush.log w.tables.next_entry pieces w.tables.held

    same : SameIn w.tables.held w.contents New
    same = parts_same w.contents flush.log w.z w.tables.held flush.parts is.fits is.differ

    on : HeldOn w.tables.held Later
    on = with_all_on flush.log w.tables.next_entry pieces w.tables.held

    log_later : LogIsAtWork (after_commit w flush number pieces after tree) c
    log_later = record {
      last = s.log.last;
      generation = s.log.generation;
      at = s.log.at;
      front = s.log.front;
      phase = s.log.phase;
      current = other_current w.tables c.log.log c.client (c.batch - 1) s.log.last s.log.generation s.log.at s.log.front s.log.current flush.log number pieces after ne;
      flush =
          last_stays w.z w.contents New w.st w.st w.tables.held Later (allowed w.tables.members) (allowed w.tables.members) c.log.log
          s.log.front s.log.phase
          (nothing_leaves w.z c.log.log (parts_in s.log.phase) w.st (allowed w.tables.members))
          (λ i d l. record {
            same_held = commit_leaves flush.log w.tables.next_entry pieces w.tables.held c.log.log (slice_index_or (parts_in s.log.phase) i d).stripe ne;
            same_contents = parts_others w.contents flush.log c.log.log (slice_index_or (parts_in s.log.phase) i d).stripe flush.parts (inl ne);
          })
          s.log.flush.nothing
          s.log.flush;
      has = s.log.has;
    }

    abbrev Tables_later : Tables
    Tables_later = committed w.tables flush.log number pieces after

    rests_later : (basis : Basis) → RestsOnHeld w.contents w.tables basis → RestsOnHeld New Tables_later basis
    rests_later basis r = record {
      lie = founds_on w.tables.held Later basis.found on r.lie;
      fetched = copies_committed New flush.log w.tables.next_entry pieces w.tables.held (there basis.fetched) (copies_grown w.contents New w.tables.held (there basis.fetched) same r.fetched);
      members = r.members;
    }

    form : AreTables w.z w.tables
    form = said_tables w.z w.contents (at_rest w.tables) w.tables w.tree a.stands.says

    batch_later : (calls : List Numbered) (basis : Basis) → BatchIsCurrent w.z.block w.contents w.tables calls basis → BatchIsCurrent w.z.block New Tables_later calls basis
    batch_later calls basis b = record {
      rests = rests_later basis b.rests;
      current =
          all-updated w.z.block calls basis.found w.z New w.tables flush.log number pieces batch.ops after is.done is.updates is.fresh form
          (all-grown w.z.block calls basis.found w.contents New w.tables (founds_same w.contents New w.tables.held basis.found same b.rests.lie) same a.stands.says.points b.current);
    }

    shows_later : (call : Call) (founds : List Found) → AllByRecursion (FoundLies w.tables.held) founds → ShowsFound w.z.block w.contents seen call founds → ShowsFound w.z.block New seen call founds
    shows_later (Read fid offset len) (found ∷ []) lies (inl none) = inl none
    shows_later (Read fid offset len) (found ∷ []) lies (inr some) =
        inr (
          some.0,
          some.1,
          (
            some.2.0,
            some.2.1,
            grown_shows w.z.block w.contents New (ask_of w.z.block (Read fid offset len)).first (ask_of w.z.block (Read fid offset len)).count found some.2.0
                (found_same w.contents New w.tables.held found same lies.0) some.2.2,
          ),
        )
    shows_later (Read fid offset len) [] lies h = h
    shows_later (Read fid offset len) (found ∷ (more ∷ rest)) lies h = h
    shows_later (Create path) founds lies h = h
    shows_later (Mkdir path) founds lies h = h
    shows_later (Remove path) founds lies h = h
    shows_later (Rename path to) founds lies h = h
    shows_later (Write fid offset bytes) founds lies h = h
    shows_later (Truncate fid size) founds lies h = h
    shows_later Sync founds lies h = h
    shows_later (ListOf path) founds lies h = h
    shows_later (Stat path) founds lies h = h
    shows_later (Find path) founds lies h = h

    first_later : (queue : List Numbered) (basis : Basis) → FirstIsCurrent w.z.block w.contents w.tables seen queue basis → FirstIsCurrent w.z.block New Tables_later seen queue basis
    first_later [] basis f = f
    first_later (read ∷ rest) basis f = record {
      rests = rests_later basis f.rests;
      shows = shows_later read.call basis.found f.rests.lie f.shows;
    }

    work_later : (kept queue : List Numbered) (basis : Basis) → WorkIsCurrent w.z.block w.contents w.tables seen kept queue basis → WorkIsCurrent w.z.block New Tables_later seen kept queue basis
    work_later [] queue basis h = first_later queue basis h
    work_later (first ∷ others) queue basis h = batch_later (run_of (first ∷ others)) basis h

    step_later : (st : Step) → StepIsCurrent w seen c st → StepIsCurrent (after_commit w flush number pieces after tree) seen c st
    step_later step.Lookup h = h
    step_later (step.Fetch basis at ptr plan) h = (
      work_later c.kept c.queue basis h.0,
      reading_moves w.z w.contents New w.st.maps w.st.maps w.tables.held Later ptr plan
          (let l = a.limits.servers_low in omega arith) (let l = a.limits.fragment_low in omega arith) same on h.1,
    )
    step_later (step.Store basis formed) h = (batch_later (run_of c.kept) basis h.0, h.1)
    step_later (step.Mark server generation) h = h
    step_later (step.Commit basis sealed) h = (batch_later (run_of c.kept) basis h.0, h.1)

    pub commit_beside : ClientIsSound (after_commit w flush number pieces after tree) seen c
    commit_beside = record {
      sizes = s.sizes;
      settled = s.settled;
      short = s.short;
      short_queue = s.short_queue;
      log = log_later;
      step = step_later (step_of c.task) s.step;
      cached = copies_committed New flush.log w.tables.next_entry pieces w.tables.held c.cache.entries (copies_grown w.contents New w.tables.held c.cache.entries same s.cached);
    }
