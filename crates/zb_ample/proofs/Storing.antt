-- A client that stores a batch has put the updates of a run into its log.
use Rattle.std.proofs.Common.{◌≡◌, ℕ, ◌+◌, ◌<◌, ◌≤◌, true, ◌++◌, length, sym, ap, subst, arith}
use Rattle.std.specs.Prelude.{map, All}
use Rattle.zb_types.specs.declared.geometry.Geometry.{Geometry}
use Rattle.zb_types.specs.Apply.{is_update}
use Rattle.zb_types.specs.Tree.{Tree}
use Rattle.zb_stripe_laws.proofs.Plans.{rise_differ}
use Rattle.zb_log.specs.declared.places.Place.{Place}
use Rattle.zb_batch.specs.Spelling.{meta_length}
use Rattle.zb_tables.specs.Tables.{Contents, LiesIn, SameIn, bytes_at}
use Rattle.zb_sound.specs.LookupsCurrent.{AreFetched}
use Rattle.zb_sound.proofs.Flushing.{parts_same}
use Rattle.zb_sound.proofs.Strays.{copies_grown}
use Rattle.zb_given.specs.Given.{Given, calls_of}
use Rattle.zb_need.specs.Filling.{HalfFull}
use Rattle.zb_need.specs.Weights.{updates_of, weights}
use Rattle.zb_need.proofs.Turning.{placed-within}
use Rattle.zb_need.proofs.Storing.{formed-half}
use Rattle.zb_basis.specs.declared.basis.Basis.{Basis}
use Rattle.zb_basis.specs.declared.basis.Formed.{Formed}
use Rattle.zb_basis.specs.Forming.{IsFormed, Stand}
use Rattle.zb_basis.specs.Runs.{run_of}
use Rattle.zb_basis.proofs.Each.{each-weaker}
use Rattle.zb_forming_laws.specs.Flushing.{contents_with}
use Rattle.zb_forming_laws.specs.Resting.{pairs_of}
use Rattle.zb_forming_laws.proofs.Finding.{blocks-stand}
use Rattle.zb_forming_laws.proofs.Standing.{contents-stand}
use Rattle.zb_work.specs.Blocks.{there}
use Rattle.zb_work.specs.declared.work.Step.{Step}
use Rattle.zb_work.specs.declared.work.Step.TheVariants as step
use Rattle.zb_work.specs.Steps.{first_members, step_of}
use Rattle.zb_client.specs.Seen.{SeenClient}
use Rattle.zb_client_laws.specs.Around.{Around}
use Rattle.zb_client_laws.specs.Logging.{IsDelivering}
use Rattle.zb_client_laws.specs.Sound.{ClientIsSound, StepIsCurrent}
use Rattle.zb_client_laws.proofs.Blocks.{all_there}
use Rattle.zb_client_laws.proofs.Storing.{Stored, delivering, standing}
use Rattle.zb_ample.specs.Reaching.{IsPaid, ahead, ahead_at, behind_run, loads, numbered_loads, reached_at}
use Rattle.zb_ample.proofs.Placed.{placed_some}
use Rattle.zb_ample.proofs.Paying.{loads_both, run_and_rest, run_loads}

module _ (w : Around) (seen : Tree) (c : SeenClient) (s : ClientIsSound w seen c) (basis : Basis) (formed : Formed) (e : step_of c.task ≡ step.Store basis formed) where
  abbrev pub D : IsDelivering c.servers c.fragment c.block c.log c.batch (run_of c.kept) basis formed s.log.generation s.log.at s.log.front s.log.phase
  D = delivering w seen c s basis formed e

  abbrev pub Whole : Formed
  Whole = D.was.whole

  abbrev pub Is : IsFormed c.servers c.fragment c.block c.log c.batch (first_members basis.found) (run_of c.kept) basis Whole
  Is = D.was.is

  abbrev New : Contents
  New = contents_with w.contents c.log D.was.given Whole Is.blocks

  current : StepIsCurrent w seen c (step.Store basis formed)
  current = subst (λ (st : Step). StepIsCurrent w seen c st) e s.step

  same : SameIn w.tables.held w.contents New
  same =
      parts_same w.contents c.log.log w.z w.tables.held (Stored w seen c s basis formed e).parts (standing w seen c s basis formed e).stands.works.fits
      (rise_differ (Stored w seen c s basis formed e).parts (standing w seen c s basis formed e).stands.rise)

  fetched : AreFetched New (pairs_of basis.fetched)
  fetched =
      subst (AreFetched New) (all_there basis.fetched current.1)
      (each-weaker (λ e. (e.1 ≡ bytes_at New e.0) × LiesIn w.tables.held e.0) (λ e. e.1 ≡ bytes_at New e.0) (there basis.fetched) (λ e h. h.0)
      (copies_grown w.contents New w.tables.held (there basis.fetched) same current.0.rests.fetched))

  -- its blocks stand in what the stripes have with its flush
  stand : Stand (bytes_at New) basis.fetched Whole.sealed.placed.ptrs Is.blocks
  stand =
      contents-stand New basis.fetched Whole.sealed.placed.ptrs Is.blocks fetched
      (blocks-stand c.servers c.fragment c.block c.log c.batch (first_members basis.found) (run_of c.kept) basis Whole Is D.was.given D.was.are w.contents)

  pub place_is : formed.sealed.placed.next ≡ Whole.sealed.placed.next
  place_is = ap (λ (x : Formed). x.sealed.placed.next) D.formed_is

  -- what was in the log before, and the run's updates with it
  pub stored_half : (geo : Geometry) (before : ℕ) → geo.block ≡ c.block → 0 < c.block → c.log.block ≡ c.block → HalfFull c.log.room c.log.next before
      → HalfFull c.log.room formed.sealed.placed.next (before + weights geo (updates_of (run_of c.kept)))
  stored_half geo before size some own half =
      subst (λ (at : Place). HalfFull c.log.room at (before + weights geo (updates_of (run_of c.kept)))) (sym place_is)
      (formed-half geo c.servers c.fragment c.block c.log c.batch (first_members basis.found) (run_of c.kept) basis Whole (bytes_at New) before size some own Is stand half)

  -- the place behind the batch lies within a stripe
  pub stored_within : 0 < c.log.room → c.log.block ≤ c.log.room → c.log.next.offset ≤ c.log.room → formed.sealed.placed.next.offset ≤ c.log.room
  stored_within some fits low =
      subst (λ (at : Place). at.offset ≤ c.log.room) (sym place_is) (placed-within c.log (meta_length Whole.sealed.batch) (map length Is.blocks) Whole.sealed.placed some fits Is.laid.exact low)

  -- so it is paid, where the log was when the run was ahead
  pub stored_paid : (geo : Geometry) (given : Given) (before : ℕ) → geo.block ≡ c.block → 0 < c.block → c.log.block ≡ c.block → 0 < c.log.room → c.log.block ≤ c.log.room
      → All (λ k. is_update k.call ≡ true) c.kept
      → HalfFull c.log.room c.log.next before → c.log.next.offset ≤ c.log.room → before + numbered_loads geo (c.kept ++ c.queue) ≤ loads geo (calls_of given c.client) → IsPaid geo given c
  stored_paid geo given before size some own room fits updates half low paid = record {
    bytes = before + weights geo (updates_of (run_of c.kept));
    half = subst (λ (at : Place). HalfFull c.log.room at (before + weights geo (updates_of (run_of c.kept)))) (sym (ap (reached_at c.log) e)) (stored_half geo before size some own half);
    within = subst (λ (at : Place). at.offset ≤ c.log.room) (sym (ap (reached_at c.log) e)) (stored_within room fits low);
    paid =
        let behind : ahead c ≡ behind_run c.kept ++ c.queue = ap (ahead_at c.kept c.queue) e in
        let loads_now = ap (numbered_loads geo) behind in
        let split = loads_both geo (behind_run c.kept) c.queue in
        let whole = loads_both geo c.kept c.queue in
        let parts = run_and_rest geo c.kept in
        let run = run_loads geo c.kept updates in
        omega (arith, paid, loads_now, split, whole, parts, run);
  }

  -- bytes lie before that place
  pub stored_some : 1 ≤ formed.sealed.placed.next.offset
  stored_some =
      subst (λ (at : Place). 1 ≤ at.offset) (sym place_is)
      (placed_some c.log (meta_length Whole.sealed.batch) (map length Is.blocks) Whole.sealed.placed (omega arith) Is.laid.exact)
