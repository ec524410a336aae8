-- Entries that the tables could take.
use Rattle.std.proofs.Common.{◌≡◌, List, [], ◌∷◌, ◌++◌, Some, refl, sym, ap, ◌∙◌, subst, append_assoc}
use Rattle.std.proofs.lemmas.List.{append-nil}
use Rattle.zb_types.specs.declared.tables.HeldUse.{HeldUse}
use Rattle.zb_batch.specs.declared.batch.Batch.{Batch}
use Rattle.zb_entries.specs.declared.entry.Entry.{Entry}
use Rattle.zb_entries.specs.declared.entry.Entry.TheVariants.{Attach, Commit, Mark, Retire}
use Rattle.zb_tables.specs.Tables.{Tables, Contents, SameIn}
use Rattle.zb_tables.specs.Fold.{folded, held_after, held_with_all}
use Rattle.zb_tables.specs.Replay.{EntriesIn, IsBatchOf, Replays}
use Rattle.zb_tables.specs.Taking.{Sizes, IsTaken, AreTaken}
use Rattle.zb_tables.proofs.Growing.{same_batch}
use Rattle.zb_tables.proofs.Holding.{folded_held, with_all_on, with_all_in, entries_on, entries_in-append}
use Rattle.zb_tables.proofs.Retiring.{Less, entries_less}

-- entries that are taken are replayed
pub taken_replays : (z : Sizes) (contents : Contents) (before es : List Entry) (tables after : Tables) → AreTaken z contents before tables es after → Replays z.block contents tables es after
taken_replays z contents before [] tables after t = t
taken_replays z contents before (e ∷ es) tables after t =
    (t.0, t.1, (t.3.0, t.3.1, taken_replays z contents (before ++ e ∷ []) es t.3.0 after t.3.2))

-- an entry that is taken leaves that the entries so far name held stripes
step_in : (z : Sizes) (before : List Entry) (t : Tables) (e : Entry) (batch : Batch) → EntriesIn t.held before → IsTaken z before t e batch → EntriesIn (held_after t.next_entry e t.held) (before ++ e ∷ [])
step_in z before t (Commit log number generation pieces) batch within taken =
    let held = held_with_all log t.next_entry pieces t.held in
    entries_in-append held before (Commit log number generation pieces ∷ []) (entries_on t.held held before (with_all_on log t.next_entry pieces t.held) within) (with_all_in log t.next_entry pieces t.held, tt)
step_in z before t (Attach owner log) batch within taken = entries_in-append t.held before (Attach owner log ∷ []) within (tt, tt)
step_in z before t (Mark members) batch within taken = entries_in-append t.held before (Mark members ∷ []) within (tt, tt)
step_in z before t (Retire log stripe) batch within taken =
    entries_in-append (Less t.held log stripe) before (Retire log stripe ∷ []) (entries_less t.held log stripe before taken.1 within) (tt, tt)

taken_in : (z : Sizes) (contents : Contents) (before es : List Entry) (tables after : Tables) → EntriesIn tables.held before → AreTaken z contents before tables es after → EntriesIn after.held (before ++ es)
taken_in z contents before [] tables after within t =
    subst (λ (u : Tables). EntriesIn u.held (before ++ [])) t (subst (EntriesIn tables.held) (sym (append-nil before)) within)
taken_in z contents before (e ∷ es) tables after within t =
    let step = subst (λ (held : List HeldUse). EntriesIn held (before ++ e ∷ [])) (sym (folded_held z.block tables e t.0 t.3.0 t.3.1).held) (step_in z before tables e t.0 within t.2) in
    subst (EntriesIn after.held) (append_assoc before (e ∷ []) es) (taken_in z contents (before ++ e ∷ []) es t.3.0 after step t.3.2)

-- entries that are taken name held stripes
pub taken_entries : (z : Sizes) (contents : Contents) (es : List Entry) (tables after : Tables) → AreTaken z contents [] tables es after → EntriesIn after.held es
taken_entries z contents es tables after t = taken_in z contents [] es tables after tt t

-- they are taken with each contents that have the same committed bytes
pub same_taken : (z : Sizes) (held : List HeldUse) (one other : Contents) → SameIn held one other → (before es : List Entry) (tables after : Tables) → EntriesIn held es
    → AreTaken z one before tables es after → AreTaken z other before tables es after
same_taken z held one other same before [] tables after within t = t
same_taken z held one other same before (e ∷ es) tables after within t =
    (t.0, same_batch held one other same e t.0 within.0 t.1, t.2, (t.3.0, t.3.1, same_taken z held one other same (before ++ e ∷ []) es t.3.0 after within.1 t.3.2))

-- one more entry
taken_behind : (z : Sizes) (contents : Contents) (es before all : List Entry) (tables mid after : Tables) (e : Entry) (batch : Batch) → before ++ es ≡ all → AreTaken z contents before tables es mid
    → IsBatchOf contents e batch → IsTaken z all mid e batch → folded z.block mid e batch ≡ Some after → AreTaken z contents before tables (es ++ e ∷ []) after
taken_behind z contents [] before all tables mid after e batch is_all t is may f = (
  batch,
  is,
  subst (λ (u : Tables). IsTaken z before u e batch) (sym t) (subst (λ (ds : List Entry). IsTaken z ds mid e batch) (sym (sym (append-nil before) ∙ is_all)) may),
  (after, ap (λ (u : Tables). folded z.block u e batch) t ∙ f, refl),
)
taken_behind z contents (d ∷ ds) before all tables mid after e batch is_all t is may f =
    (t.0, t.1, t.2, (t.3.0, t.3.1, taken_behind z contents ds (before ++ d ∷ []) all t.3.0 mid after e batch (append_assoc before (d ∷ []) ds ∙ is_all) t.3.2 is may f))

pub taken_then : (z : Sizes) (contents : Contents) (es : List Entry) (tables mid after : Tables) (e : Entry) (batch : Batch) → AreTaken z contents [] tables es mid
    → IsBatchOf contents e batch → IsTaken z es mid e batch → folded z.block mid e batch ≡ Some after → AreTaken z contents [] tables (es ++ e ∷ []) after
taken_then z contents es tables mid after e batch t is may f = taken_behind z contents es [] es tables mid after e batch refl t is may f
