-- What platter 0 still says while it changes.
use Rattle.std.proofs.Common.{◌≡◌, ◌⊎◌, inl, inr, ℕ, ◌+◌, ◌<◌, ◌≤◌, ◌^◌, if◌then◌else◌, List, [], ◌∷◌, ◌++◌, length, slice_index, refl, sym, ◌∙◌, ap, subst, arith}
use Rattle.std.proofs.lemmas.Bool.{lt-ltb}
use Rattle.zb_types.specs.declared.geometry.Geometry.{Geometry}
use Rattle.zb_entries.specs.declared.entry.Entry.{Entry}
use Rattle.zb_outside.specs.Ranges.{SameBeside}
use Rattle.zb_ckpt.specs.declared.root.Root.{Root}
use Rattle.zb_ckpt.specs.Says.{Holds}
use Rattle.zb_ckpt.specs.Write.{FormerOrNew, KeepsFormer}
use Rattle.zb_ckpt.proofs.Once.{depends}
use Rattle.zb_journal.specs.Journal.{Says}
use Rattle.zb_journal.proofs.Standing.{depends_on_its_bytes}
use Rattle.zb_journal.proofs.Once.{cut_says}
use Rattle.zb_tables.specs.Tables.{Tables, Contents, last_value, risen}
use Rattle.zb_tables.specs.Replay.{Platter}
use Rattle.zb_tables.specs.Taking.{AreTaken, Sizes}
use Rattle.zb_tables.specs.Checkpoint.{AreTables, CountsFit}
use Rattle.zb_tables.proofs.Holding.{folded_held}
use Rattle.zb_tables.proofs.TablesForm.{entries_tables}
use Rattle.zb_spelling.specs.Spelling.{spelling_of_tables}
use Rattle.zb_spelling.specs.Unspelling.{sizes_of}
use Rattle.zb_platter.specs.Says.{HasPlatter}

-- Numbers.

risen_below : (n : ℕ) → n < last_value → risen n ≡ n + 1
risen_below n lt = ap (λ b. if b then n + 1 else n) (lt-ltb n last_value lt)

-- entries raise the number of the next by their count, where that has room
pub taken_number : (z : Sizes) (contents : Contents) (before es : List Entry) (t after : Tables) → t.next_entry + length es ≤ last_value → AreTaken z contents before t es after → after.next_entry ≡ t.next_entry + length es
taken_number z contents before [] t after le taken = sym (ap (λ (u : Tables). u.next_entry) taken) ∙ omega arith
taken_number z contents before (e ∷ es) t after le taken =
    let mid = taken.3.0 in
    let next : mid.next_entry ≡ t.next_entry + 1 = (folded_held z.block t e taken.0 mid taken.3.1).next ∙ risen_below t.next_entry (omega (arith, le)) in
    taken_number z contents (before ++ e ∷ []) es mid after (omega (arith, le, next)) taken.3.2 ∙ omega (arith, next)

-- The journal.

-- where bytes between the root cell and the pages stay, so do the entries
pub journal_kept : (old new : List ℕ) (first : ℕ) (entries : List Entry) (place : ℕ) → 4096 + 65536 ≤ length old
    → ((i : ℕ) → 128 ≤ i → i < 1048576 → i < length old → slice_index new i ≡ slice_index old i) → Says old first entries place → Says new first entries place
journal_kept old new first entries place within between says =
    depends_on_its_bytes old new first entries place (λ i lt. between (4096 + i) (omega arith) (omega (arith, lt)) (omega (arith, lt, within))) says

-- A checkpoint.

module _ (old new : List ℕ) (root : Root) (p : Platter) (place : ℕ) (had : HasPlatter old root p place) where
  -- the former platter is still there
  pub former_kept : (next : Root) (bytes : List ℕ) → FormerOrNew root.slot next bytes old new → KeepsFormer root.slot old new → HasPlatter new root p place
  former_kept next bytes f keeps = record {
    within = omega (arith, had.within, f.no_shorter);
    is = had.is;
    checkpoint = keeps.holds root (spelling_of_tables p.tables) refl had.checkpoint;
    first = had.first;
    journal = journal_kept old new root.first p.entries place had.within f.between had.journal;
  }

  -- the new one is there, and no entry behind it
  pub next_stands : (contents : Contents) (t : Tables) (next : Root) (bytes : List ℕ) → next.geo ≡ root.geo → next.first ≡ root.first + length p.entries → next.first ≤ 2 ^ 48
      → AreTaken (sizes_of root.geo) contents [] p.tables p.entries t → CountsFit t → spelling_of_tables t ≡ bytes
      → FormerOrNew root.slot next bytes old new → Holds new next bytes → HasPlatter new next (record { tables = t; entries = [] }) 0
  next_stands contents t next bytes geo first few taken counts text f holds = record {
    within = omega (arith, had.within, f.no_shorter);
    is = record {
      tables = subst (λ (g : Geometry). AreTables (sizes_of g) t) (sym geo) (entries_tables (sizes_of root.geo) contents [] p.entries p.tables t had.is.tables taken);
      counts = counts;
    };
    checkpoint = subst (Holds new next) (sym text) holds;
    first = first ∙ ap (λ n. n + length p.entries) had.first ∙ sym (taken_number (sizes_of root.geo) contents [] p.entries p.tables t (omega (arith, few, first, had.first)) taken);
    journal = subst (λ n. Says new n [] 0) (sym first) (cut_says new root.first p.entries place (omega (arith, few, first)) (journal_kept old new root.first p.entries place had.within f.between had.journal));
  }

  -- An entry.

  -- what stands beside the journal's bytes stays
  beside_kept : SameBeside 4096 65536 old new → Holds new root (spelling_of_tables p.tables)
  beside_kept beside = depends old new root (spelling_of_tables p.tables) beside.same_length (λ i side. beside.same i (wider i side)) had.checkpoint where
    wider : (i : ℕ) → (i < 128) ⊎ (1048576 ≤ i) → (i < 4096) ⊎ (4096 + 65536 ≤ i)
    wider i (inl below) = inl (omega (arith, below))
    wider i (inr above) = inr (omega (arith, above))

  -- the same checkpoint, with whichever entries are there
  pub entries_stand : (entries : List Entry) (stop : ℕ) → SameBeside 4096 65536 old new → Says new root.first entries stop → HasPlatter new root (record { tables = p.tables; entries = entries }) stop
  entries_stand entries stop beside says = record {
    within = omega (arith, had.within, beside.same_length);
    is = had.is;
    checkpoint = beside_kept beside;
    first = had.first;
    journal = says;
  }
