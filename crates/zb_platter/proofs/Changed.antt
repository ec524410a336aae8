-- How the platter of the tables changes.
use Rattle.std.proofs.Common.{◌≡◌, inl, inr, ⊎_elim, ℕ, ◌+◌, ◌≤◌, ◌^◌, List, [], ◌∷◌, ◌++◌, slice_index, Result, Ok, Err, IsErr, IsErrOf, true, refl, sym, ◌∙◌, subst, arith}
use Rattle.zb_types.specs.declared.geometry.Geometry.{Geometry}
use Rattle.zb_batch.specs.declared.batch.Batch.{Batch}
use Rattle.zb_entries.specs.declared.entry.Entry.{Entry}
use Rattle.zb_outside.specs.Meaning.{Meaning, Standing}
use Rattle.zb_outside.specs.Runs.{Run}
use Rattle.zb_outside.proofs.Runs.{started, weaker_run}
use Rattle.zb_ckpt.specs.declared.faults.CkptFault.{CkptFault}
use Rattle.zb_ckpt.specs.declared.faults.CkptFault.TheVariants.{Foreign, NoMemory, Stopped}
use Rattle.zb_ckpt.specs.Faults.{is_stopped}
use Rattle.zb_ckpt.specs.declared.root.Root.{Root}
use Rattle.zb_ckpt.specs.Says.{Holds}
use Rattle.zb_ckpt.specs.Write.{FormerOrNew, WriteTold, next_root}
use Rattle.zb_journal.specs.Spelling.{size_of}
use Rattle.zb_journal.specs.Journal.{Says, Begins}
use Rattle.zb_journal.specs.Append.{AppendReady, AppendTold, FormerOrLonger}
use Rattle.zb_tables.specs.Tables.{Tables, Contents}
use Rattle.zb_tables.specs.Checkpoint.{CountsFit}
use Rattle.zb_tables.proofs.Taken.{taken_then}
use Rattle.zb_spelling.specs.Spelling.{spelling_of_tables}
use Rattle.zb_spelling.specs.Unspelling.{IsCheckpoint, sizes_of}
use Rattle.zb_platter.specs.Says.{HasPlatter, SaysTables, SaysEither}
use Rattle.zb_platter.specs.Standing.{SeenPlatter, AreNumbered, Stands}
use Rattle.zb_platter.specs.Changing.{ChangeTold, Leads, with_checkpoint, with_entry}
use Rattle.zb_platter.specs.Formatting.{AreZeros, BeginsTold, first_platter}
use Rattle.zb_platter.proofs.Keeping.{entries_stand, former_kept, next_stands}

-- what stands is said
pub says_now : (p : SeenPlatter) (contents : Contents) (t : Tables) (s : Standing) → Stands p contents t s → SaysTables p.root.geo contents (s.seen 0) t
says_now p contents t s st = record {
  root = p.root;
  platter = record { tables = st.start; entries = p.entries };
  place = p.journal.place;
  system = refl;
  has = st.has;
  taken = st.taken;
}

-- before the first call the platter says the tables
pub run_none : (p : SeenPlatter) (contents : Contents) (before after : Tables) (a : Meaning) → Stands p contents before a.now → Run 0 (SaysEither p.root.geo contents before after) a a
run_none p contents before after a st =
    started 0 (SaysEither p.root.geo contents before after) a
    (λ image left. inl (subst (λ (i : List ℕ). SaysTables p.root.geo contents i before) (sym (st.settled.only image left)) (says_now p contents before a.now st)))

pub told_err : {T E : Type 0} (q : SeenPlatter) (contents : Contents) (before after : Tables) {a b : Meaning} (r : Result T E) → IsErr r → Run 0 (SaysEither q.root.geo contents before after) a b → ChangeTold q contents before after r a b
told_err q contents before after (Ok x) err run = absurd (cc err)
told_err q contents before after (Err e) err run = record { run = run; stands = tt }

-- An entry.

module _ (p : SeenPlatter) (numbered : AreNumbered p.root p.journal p.entries) (contents : Contents) (before after : Tables) (entry : Entry) (batch : Batch) (a b : Meaning)
    (st : Stands p contents before a.now) (leads : Leads p contents before entry batch after) where
  pub add_ready : AppendReady p.journal p.root.first p.entries a.now
  add_ready = record { settled = st.settled; within = st.has.within; says = st.has.journal; number = numbered.next }

  with_these : (entries : List Entry) (stop : ℕ) (image : List ℕ) → FormerOrLonger p.journal.place p.root.first p.entries entry (a.now.seen 0) image → Says image p.root.first entries stop
      → HasPlatter image p.root (record { tables = st.start; entries = entries }) stop
  with_these entries stop image f says = entries_stand (a.now.seen 0) image p.root (record { tables = st.start; entries = p.entries }) p.journal.place st.has entries stop f.outside says

  either_of : (image : List ℕ) → FormerOrLonger p.journal.place p.root.first p.entries entry (a.now.seen 0) image → SaysEither p.root.geo contents before after image
  either_of image f = ⊎_elim
      (λ same. inl (record {
        root = p.root;
        platter = record { tables = st.start; entries = p.entries };
        place = p.journal.place;
        system = refl;
        has = with_these p.entries p.journal.place image f same;
        taken = st.taken;
      }))
      (λ longer. inr (record {
        root = p.root;
        platter = record { tables = st.start; entries = p.entries ++ entry ∷ [] };
        place = p.journal.place + size_of entry;
        system = refl;
        has = with_these (p.entries ++ entry ∷ []) (p.journal.place + size_of entry) image f longer;
        taken = taken_then (sizes_of p.root.geo) contents p.entries st.start before after entry batch st.taken leads.batch_is leads.taken leads.folds;
      }))
      f.either

  pub add_run : Run 0 (FormerOrLonger p.journal.place p.root.first p.entries entry (a.now.seen 0)) a b → Run 0 (SaysEither p.root.geo contents before after) a b
  add_run run = weaker_run run either_of

  pub added : {T E F G : Type 0} {x : T} {y : F} → AppendTold {T = T} {E = E} p.journal p.root.first p.entries entry (Ok x) a b → ChangeTold {T = F} {E = G} (with_entry p entry) contents before after (Ok y) a b
  added told = record {
    run = add_run told.run;
    stands = record {
      settled = told.settled;
      start = st.start;
      has = with_these (p.entries ++ entry ∷ []) (p.journal.place + size_of entry) (b.now.seen 0) (told.run.here (b.now.seen 0) (b.seen_now 0)) told.says;
      taken = taken_then (sizes_of p.root.geo) contents p.entries st.start before after entry batch st.taken leads.batch_is leads.taken leads.folds;
    };
  }

-- A checkpoint.

-- the root that a checkpoint makes
abbrev pub root_behind : SeenPlatter → List ℕ → Root
root_behind p bytes = next_root (record p.root { first = p.journal.number }) bytes

module _ (p : SeenPlatter) (numbered : AreNumbered p.root p.journal p.entries) (contents : Contents) (t : Tables) (bytes : List ℕ) (a b : Meaning)
    (st : Stands p contents t a.now) (few : p.journal.number ≤ 2 ^ 48) (counts : CountsFit t) (text : spelling_of_tables t ≡ bytes) where
  behind : (image : List ℕ) → FormerOrNew p.root.slot (root_behind p bytes) bytes (a.now.seen 0) image → Holds image (root_behind p bytes) bytes → HasPlatter image (root_behind p bytes) (record { tables = t; entries = [] }) 0
  behind image f holds =
      next_stands (a.now.seen 0) image p.root (record { tables = st.start; entries = p.entries }) p.journal.place st.has contents t (root_behind p bytes) bytes refl numbered.next few st.taken counts text f holds

  one_of : (image : List ℕ) → FormerOrNew p.root.slot (root_behind p bytes) bytes (a.now.seen 0) image → SaysEither p.root.geo contents t t image
  one_of image f = ⊎_elim
      (λ keeps. inl (record {
        root = p.root;
        platter = record { tables = st.start; entries = p.entries };
        place = p.journal.place;
        system = refl;
        has = former_kept (a.now.seen 0) image p.root (record { tables = st.start; entries = p.entries }) p.journal.place st.has (root_behind p bytes) bytes f keeps;
        taken = st.taken;
      }))
      (λ holds. inr (record {
        root = root_behind p bytes;
        platter = record { tables = t; entries = [] };
        place = 0;
        system = refl;
        has = behind image f holds;
        taken = refl;
      }))
      f.either

  pub cut_run : Run 0 (FormerOrNew p.root.slot (root_behind p bytes) bytes (a.now.seen 0)) a b → Run 0 (SaysEither p.root.geo contents t t) a b
  cut_run run = weaker_run run one_of

  pub cut_told : {T E F G : Type 0} {x : T} {y : F} → WriteTold {T = T} {E = E} p.root.slot (root_behind p bytes) bytes (Ok x) a b → ChangeTold {T = F} {E = G} (with_checkpoint p bytes) contents t t (Ok y) a b
  cut_told told = record {
    run = cut_run told.run;
    stands = record {
      settled = told.settled;
      start = t;
      has = behind (b.now.seen 0) (told.run.here (b.now.seen 0) (b.seen_now 0)) told.holds;
      taken = refl;
    };
  }

-- A platter made anew.

module _ (geo : Geometry) (t : Tables) (bytes front : List ℕ) (is : IsCheckpoint (sizes_of geo) t) (first : t.next_entry ≡ 1) (text : spelling_of_tables t ≡ bytes) (zeros : AreZeros 69632 front) where
  -- the root that isn't there yet
  abbrev pub no_root : Root
  no_root = record { slot = 1; geo = geo; length = 0; first = 1 }

  closed : (image : List ℕ) → slice_index image 4096 ≡ 0 → Begins (λ i. slice_index image (4096 + i)) 0 (1 + 0) → ⊥
  closed image is_zero begins = absurd (omega (arith, is_zero, begins.gate))

  pub made : {S T E F : Type 0} {w : S} {x : T} {a b c : Meaning} → BeginsTold {T = S} {E = E} front (Ok w) a b → WriteTold {T = T} {E = F} 1 (next_root no_root bytes) bytes (Ok x) b c → (contents : Contents) → Stands (first_platter geo bytes) contents t c.now
  made {b = b} {c = c} begins told contents =
      let f = told.run.here (c.now.seen 0) (c.seen_now 0) in
      let gate : slice_index (c.now.seen 0) 4096 ≡ 0 =
      f.between 4096 (omega arith) (omega arith) (omega (arith, begins.size, zeros.size)) ∙ begins.same 4096 ∙ zeros.each 4096 in
      record {
        settled = told.settled;
        start = t;
        has = record {
          within = omega (arith, f.no_shorter, begins.size, zeros.size);
          is = is;
          checkpoint = subst (Holds (c.now.seen 0) (next_root no_root bytes)) (sym text) told.holds;
          first = sym first;
          journal = record { stand = refl; ends = closed (c.now.seen 0) gate };
        };
        taken = refl;
      }

-- a write of a checkpoint fails by the platter alone
pub only_stops : {T : Type 0} (r : Result T CkptFault) (e : CkptFault) → r ≡ Err e → ((field : ℕ) → IsErrOf r (Foreign field) → ⊥) → (IsErrOf r NoMemory → ⊥) → is_stopped {T = T} (Err e) ≡ true
only_stops r (Foreign field) is foreign memory = absurd (foreign field is)
only_stops r NoMemory is foreign memory = absurd (memory is)
only_stops r Stopped is foreign memory = refl
