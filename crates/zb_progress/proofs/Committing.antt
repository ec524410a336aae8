-- A stored batch whose lookups are at the versions of the tables is not refused.
use Rattle.std.proofs.Common.{◌≡◌, ℕ, ◌+◌, ◌-◌, ◌≤◌, ◌<◌, Bool, true, false, List, [], ◌∷◌, Option, Some, None, refl, sym, ap, ◌∙◌, subst, arith}
use Rattle.std.specs.Prelude.{IsTrue, length, ◌==◌, nat_le, nat_lt, if◌then◌else◌, Result, Ok, Err, IsSomeAnd}
use Rattle.std.specs.List.{AllByRecursion}
use Rattle.std.proofs.lemmas.Bool.{false≢true}
use Rattle.std.proofs.lemmas.Bool.Decides.{nat_tests}
use Rattle.std.proofs.lemmas.Option.{none-some, same_Some}
use Rattle.zb_types.specs.declared.ids.LogId.{LogId}
use Rattle.zb_types.specs.declared.ids.Piece.{Piece}
use Rattle.zb_types.specs.declared.tables.CommitFault.{CommitFault}
use Rattle.zb_types.specs.declared.tables.CommitFault.TheVariants.{Regen, Stale as StaleFault, Worn}
use Rattle.zb_types.specs.Keyed.{look}
use Rattle.zb_types.specs.Limits.{most_kept}
use Rattle.zb_types.specs.Tree.{Tree}
use Rattle.zb_stripe_laws.specs.PartAtWork.{StripesDiffer}
use Rattle.zb_stripe_laws.proofs.Plans.{rise_differ}
use Rattle.zb_log.specs.Logs.{SeenLog}
use Rattle.zb_batch.specs.declared.batch.Batch.{Batch}
use Rattle.zb_batch.specs.declared.batch.Op.{Op}
use Rattle.zb_batch.specs.Batches.{is_company}
use Rattle.zb_tables.specs.Fold.{Shelf, Stale, done_ops, shelf_of}
use Rattle.zb_tables.specs.Tables.{Contents, LiesIn, SameIn, bytes_at, last_value, LogState}
use Rattle.zb_tables.specs.Leaving.{IsOfUpdate}
use Rattle.zb_tables.specs.Taking.{any_wears, below_mark, commit_refusal, mark_of, or_else, regen_of, stale_of, worn_of}
use Rattle.zb_sound.specs.LookupsCurrent.{AreFetched}
use Rattle.zb_sound.proofs.Currents.{next_taken}
use Rattle.zb_sound.proofs.Flushing.{parts_same}
use Rattle.zb_sound.proofs.Saying.{said_tables}
use Rattle.zb_sound.proofs.Strays.{copies_grown}
use Rattle.zb_basis.specs.declared.basis.Basis.{Basis}
use Rattle.zb_basis.specs.declared.basis.Sealed.{Sealed}
use Rattle.zb_basis.specs.declared.calls.Numbered.{Numbered}
use Rattle.zb_basis.specs.Looking.{asks_of}
use Rattle.zb_basis.specs.Operations.{OpsAre as OpsMean, unchanged}
use Rattle.zb_basis.specs.Runs.{run_of}
use Rattle.zb_basis.proofs.Each.{each-weaker}
use Rattle.zb_forming_laws.specs.Flushing.{contents_with}
use Rattle.zb_forming_laws.specs.Resting.{pairs_of}
use Rattle.zb_forming_laws.proofs.Finding.{blocks-stand, pieces-ahead}
use Rattle.zb_forming_laws.proofs.Passing.{all-grown}
use Rattle.zb_forming_laws.proofs.Standing.{contents-stand}
use Rattle.zb_forming_laws.proofs.UpdateKinds.{batch-kinds}
use Rattle.zb_work.specs.Blocks.{there}
use Rattle.zb_work.specs.declared.work.Step.{Step}
use Rattle.zb_work.specs.declared.work.Step.TheVariants as step
use Rattle.zb_work.specs.Steps.{first_members, step_of}
use Rattle.zb_client.specs.Seen.{SeenClient}
use Rattle.zb_client_laws.specs.Around.{Around, IsAround, at_rest}
use Rattle.zb_client_laws.specs.Effects.{founds}
use Rattle.zb_client_laws.specs.Known.{IsKnown}
use Rattle.zb_client_laws.specs.Sound.{ClientIsSound}
use Rattle.zb_client_laws.proofs.Blocks.{all_there}
use Rattle.zb_client_laws.proofs.Lasting.{short_run}
use Rattle.zb_client_laws.proofs.Moving.{founds_same}
use Rattle.zb_client_laws.proofs.Delivered.{Former, Given, Is, Are, Stored, Whole, current, delivered, log_is, standing}
use Rattle.zb_progress.specs.Fresh.{IsStale, MayRise, is_fresh, is_fresh_at, same_numbers, versions_of}
use Rattle.zb_progress.proofs.Rising.{company-few, none-wears, room-most, number-low}
use Rattle.zb_progress.proofs.Versions.{IsDone, batch-done}

-- pieces that don't lie below a mark
not-below : (n m : ℕ) → m ≤ n → nat_lt n m ≡ false
not-below n m le = grind (arith, nat_tests)

skipped : (t : Bool) (fault : CommitFault) (rest : Option CommitFault) → t ≡ false → rest ≡ None → (if t then Some fault else rest) ≡ None
skipped true fault rest e f = absurd (false≢true (sym e))
skipped false fault rest e f = f

none-below : (mark : ℕ) (pieces : List Piece) → AllByRecursion (λ (p : Piece). mark ≤ p.stripe) pieces → below_mark mark pieces ≡ None
none-below mark [] all = refl
none-below mark (p ∷ ps) all = skipped (nat_lt p.stripe mark) (Regen p.stripe mark) (below_mark mark ps) (not-below p.stripe mark all.0) (none-below mark ps all.1)

-- numbers that may rise
not-worn : (n m : ℕ) (worn : Bool) → n < last_value → m ≤ last_value → worn ≡ false
    → ◌≡◌ {A = Option CommitFault} (if nat_le last_value n then Some (Worn 2) else (if nat_lt last_value m then Some (Worn 3) else (if worn then Some (Worn 4) else None))) None
not-worn n m worn low most e =
    skipped (nat_le last_value n) (Worn 2) (if nat_lt last_value m then Some (Worn 3) else (if worn then Some (Worn 4) else None)) (is-low n low)
    (skipped (nat_lt last_value m) (Worn 3) (if worn then Some (Worn 4) else None) (not-below last_value m most) (skipped worn (Worn 4) None e refl)) where
      is-low : (n : ℕ) → n < last_value → nat_le last_value n ≡ false
      is-low n l = grind (arith, nat_tests)

-- a batch has an operation
pub some-op : (os : List Op) → IsTrue (is_company os) → 1 ≤ length os
some-op [] t = absurd (false≢true t)
some-op (o ∷ os) t = omega arith

module _ (w : Around) (seen : Tree) (c : SeenClient) (s : ClientIsSound w seen c) (basis : Basis) (sealed : Sealed) (e : step_of c.task ≡ step.Commit basis sealed)
    (slots : ℕ) (a : IsAround slots w) (known : IsKnown c) where
  abbrev F : SeenLog
  F = Former w seen c s basis sealed e

  abbrev G : List ℕ
  G = Given w seen c s basis sealed e

  abbrev New : Contents
  New = contents_with w.contents F G (Whole w seen c s basis sealed e) (Is w seen c s basis sealed e).blocks

  abbrev Made : Batch
  Made = (Whole w seen c s basis sealed e).sealed.batch

  abbrev Pieces : List Piece
  Pieces = (Whole w seen c s basis sealed e).sealed.placed.pieces

  differ : StripesDiffer (Stored w seen c s basis sealed e).parts
  differ = rise_differ (Stored w seen c s basis sealed e).parts (standing w seen c s basis sealed e).stands.rise

  same : SameIn w.tables.held w.contents New
  same = parts_same w.contents F.log w.z w.tables.held (Stored w seen c s basis sealed e).parts (standing w seen c s basis sealed e).stands.works.fits differ

  fetched : AreFetched New (pairs_of basis.fetched)
  fetched =
      subst (AreFetched New) (all_there basis.fetched (current w seen c s basis sealed e).1)
      (each-weaker (λ e. (e.1 ≡ bytes_at New e.0) × LiesIn w.tables.held e.0) (λ e. e.1 ≡ bytes_at New e.0) (there basis.fetched) (λ e h. h.0)
      (copies_grown w.contents New w.tables.held (there basis.fetched) same (current w seen c s basis sealed e).0.rests.fetched))

  -- the operations are those of the calls
  means : OpsMean w.z.block (bytes_at New) unchanged (run_of c.kept) basis.found Made.ops
  means =
      let is = Is w seen c s basis sealed e in
      is.is_batch.of_calls (bytes_at New)
      (contents-stand New basis.fetched (Whole w seen c s basis sealed e).sealed.placed.ptrs is.blocks fetched
      (blocks-stand w.z.servers w.z.fragment w.z.block F c.batch (first_members basis.found) (run_of c.kept) basis (Whole w seen c s basis sealed e) is G (Are w seen c s basis sealed e) w.contents))

  -- the log has a next batch
  next : IsSomeAnd (look c.log.log.0 w.tables.logs) (λ (l : LogState). (l.live ≡ true) × (c.batch ≡ l.batch + 1))
  next =
      let some = known.numbered in
      let number : c.batch - 1 + 1 ≡ c.batch = omega arith in
      subst (λ (n : ℕ). IsSomeAnd (look c.log.log.0 w.tables.logs) (λ (l : LogState). (l.live ≡ true) × (n ≡ l.batch + 1))) number
      (next_taken w.tables c.log.log c.client (c.batch - 1) s.log.last s.log.generation s.log.at s.log.front s.log.current)

  number : MayRise w.tables → c.batch ≤ last_value
  number may = number-low c.batch w.tables.logs c.log.log.0 may.batches next

  -- each is an update's
  updates : AllByRecursion IsOfUpdate Made.ops
  updates =
      let is = Is w seen c s basis sealed e in
      let now = current w seen c s basis sealed e in
      batch-kinds w.z.block New w.tables (run_of c.kept) basis F.log c.batch Made (Whole w seen c s basis sealed e).sealed.placed.ptrs is.blocks is.is_batch
      (record {
        short = short_run c.kept s.short;
        current = all-grown w.z.block (run_of c.kept) basis.found w.contents New w.tables (founds_same w.contents New w.tables.held basis.found same now.0.rests.lie) same a.stands.says.points now.0.current;
        fetched = fetched;
        stand = blocks-stand w.z.servers w.z.fragment w.z.block F c.batch (first_members basis.found) (run_of c.kept) basis (Whole w seen c s basis sealed e) is G (Are w seen c s basis sealed e) w.contents;
      })

  -- ---- it isn't behind the members

  not-regen : regen_of w.tables Made.log Pieces (Whole w seen c s basis sealed e).sealed.members.generation ≡ None
  not-regen =
      let is = Is w seen c s basis sealed e in
      let d = delivered w seen c s basis sealed e in
      let generation : (Whole w seen c s basis sealed e).sealed.members.generation ≡ w.tables.members.generation =
      ap (λ m. m.generation) is.seen ∙ ap (λ m. m.generation) (current w seen c s basis sealed e).0.rests.members in
      let own : s.log.generation ≡ w.tables.members.generation = d.generation_is ∙ ap (λ m. m.generation) (current w seen c s basis sealed e).0.rests.members in
      let mark : mark_of (look c.log.log.0 w.tables.logs) ≤ s.log.at = s.log.current.unmarked own in
      let log : c.log.log ≡ Made.log = log_is w seen c s basis sealed e ∙ sym is.is_batch.of_log in
      let mark_here : mark_of (look Made.log.0 w.tables.logs) ≤ s.log.at = subst (λ (l : LogId). mark_of (look l.0 w.tables.logs) ≤ s.log.at) log mark in
      let above = d.above in
      let ahead = pieces-ahead w.z.servers w.z.fragment w.z.block F c.batch (first_members basis.found) (run_of c.kept) basis (Whole w seen c s basis sealed e) is G (Are w seen c s basis sealed e) in
      let low = each-weaker (λ (p : Piece). F.next.stripe ≤ p.stripe) (λ (p : Piece). mark_of (look Made.log.0 w.tables.logs) ≤ p.stripe) Pieces (λ p le. omega (arith, le, above, mark_here)) ahead in
      ap (λ (t : Bool). if t then below_mark (mark_of (look Made.log.0 w.tables.logs)) Pieces else Some (Regen (Whole w seen c s basis sealed e).sealed.members.generation w.tables.members.generation))
      (same-number (Whole w seen c s basis sealed e).sealed.members.generation w.tables.members.generation generation)
      ∙ none-below (mark_of (look Made.log.0 w.tables.logs)) Pieces low where
        same-number : (n m : ℕ) → n ≡ m → (n == m) ≡ true
        same-number n m e = grind (arith, nat_tests)

  -- ---- it isn't stale, and wears nothing out

  module _ (may : MayRise w.tables) (fresh : is_fresh w.tables c ≡ true) where
    some-batch : (kept : List Numbered) → c.kept ≡ kept → is_fresh_at w.tables w.z.block kept (step.Commit basis sealed) ≡ true
        → same_numbers (versions_of basis.found) (versions_of (founds w.tables (asks_of w.z.block (run_of kept)))) ≡ true
    some-batch [] k t =
        let is = Is w seen c s basis sealed e in
        let some = some-op Made.ops is.spelled.company in
        let count : length Made.ops ≡ 0 = is.is_batch.count ∙ ap (λ (ks : List Numbered). length (run_of ks)) k in
        absurd (omega arith)
    some-batch (first ∷ others) k t = t

    fresh_here : is_fresh_at w.tables w.z.block c.kept (step.Commit basis sealed) ≡ true
    fresh_here = subst (λ (b : ℕ). is_fresh_at w.tables b c.kept (step.Commit basis sealed) ≡ true) s.sizes.block (subst (λ (st : Step). is_fresh_at w.tables c.block c.kept st ≡ true) e fresh)

    done : IsDone w.z w.tables (bytes_at New) c.kept basis Made.ops (said_tables w.z w.contents (at_rest w.tables) w.tables w.tree a.stands.says) may means (some-batch c.kept refl fresh_here)
    done = batch-done w.z w.tables (bytes_at New) c.kept basis Made.ops (said_tables w.z w.contents (at_rest w.tables) w.tables w.tree a.stands.says) may means (some-batch c.kept refl fresh_here)

    not-refused : commit_refusal w.z.block w.tables Made Pieces (Whole w seen c s basis sealed e).sealed.members.generation ≡ None
    not-refused =
        ap (λ (o : Option CommitFault). or_else o (or_else (stale_of (done_ops w.z.block Made.ops (shelf_of w.tables))) (worn_of w.z.block w.tables Made))) not-regen
        ∙ ap (λ (d : Result Shelf Stale). or_else (stale_of d) (worn_of w.z.block w.tables Made)) done.0.1
        ∙ not-worn w.tables.next_entry Made.number (any_wears w.z.block Made.ops (shelf_of w.tables)) may.entry
        (subst (λ (n : ℕ). n ≤ last_value) (sym (Is w seen c s basis sealed e).is_batch.numbered) (number may)) done.1

    pub fresh-committed : commit_refusal w.z.block w.tables sealed.batch sealed.placed.pieces sealed.members.generation ≡ None
    fresh-committed =
        subst (λ (x : Sealed). commit_refusal w.z.block w.tables x.batch x.placed.pieces x.members.generation ≡ None) (sym (delivered w seen c s basis sealed e).sealed_is) not-refused

  module _ (may : MayRise w.tables) where
    worn-none : worn_of w.z.block w.tables Made ≡ None
    worn-none =
        let few = company-few Made.ops (Is w seen c s basis sealed e).spelled.company in
        not-worn w.tables.next_entry Made.number (any_wears w.z.block Made.ops (shelf_of w.tables)) may.entry
        (subst (λ (n : ℕ). n ≤ last_value) (sym (Is w seen c s basis sealed e).is_batch.numbered) (number may))
        (none-wears w.z.block Made.ops (last_value - most_kept) (shelf_of w.tables) updates (room-most w.tables may) (omega (arith, few)))

    stale-by : (fault : CommitFault) (d : Result Shelf Stale) → or_else (stale_of d) (worn_of w.z.block w.tables Made) ≡ Some fault → IsStale fault
    stale-by fault (Ok after) is = absurd (none-some fault (sym worn-none ∙ is))
    stale-by fault (Err stale) is = subst IsStale (same_Some (StaleFault stale.fid stale.seen stale.now) fault is) tt

    pub refused-stale : (fault : CommitFault) → commit_refusal w.z.block w.tables sealed.batch sealed.placed.pieces sealed.members.generation ≡ Some fault
        → IsStale fault × (is_fresh w.tables c ≡ false)
    refused-stale fault is = (
      stale-by fault (done_ops w.z.block Made.ops (shelf_of w.tables))
          (sym (ap (λ (o : Option CommitFault). or_else o (or_else (stale_of (done_ops w.z.block Made.ops (shelf_of w.tables))) (worn_of w.z.block w.tables Made))) not-regen)
          ∙ subst (λ (x : Sealed). commit_refusal w.z.block w.tables x.batch x.placed.pieces x.members.generation ≡ Some fault) (delivered w seen c s basis sealed e).sealed_is is),
      old (is_fresh w.tables c) (λ t. none-some fault (sym (fresh-committed may t) ∙ is)),
    ) where
      old : (t : Bool) → (t ≡ true → ⊥) → t ≡ false
      old true none = absurd (none refl)
      old false none = refl
