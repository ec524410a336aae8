-- Tables with room for their numbers are a checkpoint's where they are within their limits and their parts agree.
use Rattle.std.proofs.Common.{◌≡◌, ◌⊎◌, ℕ, ◌^◌, ◌≤◌, ◌<◌, Bool, true, false, eqb, List, [], ◌∷◌, length, Some, refl, sym, ap, ◌∙◌, subst, inl, inr, arith}
use Rattle.std.specs.Prelude.{◌&&◌, ◌||◌, if◌then◌else◌, IsSome}
use Rattle.std.specs.List.{AllByRecursion}
use Rattle.std.proofs.lemmas.Bool.{cond_both, eq-eqb, false≢true, or_cases, cases_Bool}
use Rattle.zb_types.specs.declared.ids.Ptr.{Ptr}
use Rattle.zb_types.specs.declared.tables.HeldUse.{HeldUse}
use Rattle.zb_types.specs.Keyed.{look}
use Rattle.zb_types.proofs.KeyedLists.{IsRising-from_ordered}
use Rattle.zb_log_tables.specs.HeldStripes.{holds_any}
use Rattle.zb_tables.specs.Tables.{FileState, LogState, Tables, is_of, held_at}
use Rattle.zb_tables.specs.Taking.{IsPointer, Sizes}
use Rattle.zb_tables.specs.Checkpoint.{AreTables, IsFile, IsHeld, IsLog, IsPlace}
use Rattle.zb_tables.proofs.Alls.{all_map, all_two}
use Rattle.zb_spelling.specs.Unspelling.{IsCheckpoint}
use Rattle.zb_spelling.specs.Limits.{Agree, AreWithin, FileFits, HeldFits, LogFits, keeps}
use Rattle.zb_spelling.specs.Reading.{HasRoom, IsBlock, IsFileRow, IsHeldRow, IsLogRow}
use Rattle.zb_spelling.proofs.Living.{once_from, one_live_from}

-- A log that holds a stripe.

holds_from : (k stripe : ℕ) (hs : List HeldUse) → IsSome (held_at (record { 0 = k }) stripe hs) → holds_any k hs ≡ true
holds_from k stripe [] some = absurd (false≢true some)
holds_from k stripe (h ∷ hs) some = elim (cases_Bool (eqb h.log.0 k)) as (λ _. holds_any k (h ∷ hs) ≡ true) [
  | inl t ↦ ap (λ (b : Bool). b || holds_any k hs) t
  | inr f ↦
      let later : held_at (record { 0 = k }) stripe (h ∷ hs) ≡ held_at (record { 0 = k }) stripe hs = ap (λ (b : Bool). if b && eqb h.stripe stripe then Some h else held_at (record { 0 = k }) stripe hs) f in
      ap (λ (b : Bool). b || holds_any k hs) f ∙ holds_from k stripe hs (subst IsSome later some)
]

found_from : (k : ℕ) (hs : List HeldUse) → holds_any k hs ≡ true → (stripe : ℕ) × IsSome (held_at (record { 0 = k }) stripe hs)
found_from k [] any = absurd (false≢true any)
found_from k (h ∷ hs) any = elim (or_cases (eqb h.log.0 k) (holds_any k hs) any) as (λ _. (stripe : ℕ) × IsSome (held_at (record { 0 = k }) stripe (h ∷ hs))) [
  | inl here ↦ (h.stripe, subst IsSome (sym (ap (λ (b : Bool). if b then Some h else held_at (record { 0 = k }) h.stripe hs) (ap (λ (b : Bool). b && eqb h.stripe h.stripe) here ∙ eq-eqb h.stripe h.stripe refl))) refl)
  | inr there ↦
      let rest = found_from k hs there in
      (rest.0, cond_both (is_of (record { 0 = k }) rest.0 h) (Some h) (held_at (record { 0 = k }) rest.0 hs) IsSome (λ _. refl) (λ _. rest.1))
]

or_true : (a b : Bool) → b ≡ true → (a || b) ≡ true
or_true true b e = refl
or_true false b e = e

keeps_from : (z : Sizes) (next : ℕ) (held : List HeldUse) (e : ℕ × LogState) → IsLog z next held e → keeps held e ≡ true
keeps_from z next held e f = elim f.kept as (λ _. keeps held e ≡ true) [
  | inl live ↦ ap (λ (b : Bool). b || holds_any e.0 held) live
  | inr some ↦ or_true (e.1).live (holds_any e.0 held) (holds_from e.0 some.0 held some.1)
]

kept_from : (held : List HeldUse) (e : ℕ × LogState) → keeps held e ≡ true → ((e.1).live ≡ true) ⊎ ((stripe : ℕ) × IsSome (held_at (record { 0 = e.0 }) stripe held))
kept_from held e t = elim (or_cases (e.1).live (holds_any e.0 held) t) as (λ _. ((e.1).live ≡ true) ⊎ ((stripe : ℕ) × IsSome (held_at (record { 0 = e.0 }) stripe held))) [
  | inl live ↦ inl live
  | inr any ↦ inr (found_from e.0 held any)
]

-- From the tables to what is looked at.

pub within_from : (z : Sizes) (t : Tables) → AreTables z t → AreWithin z t
within_from z t a = record {
  head = record { state = a.state; generation = a.generation; log = a.next_log.0; entry = a.next_entry };
  few = a.few;
  files = record {
    rising = a.files_rise;
    each = all_map (IsFile z t.names.next) (FileFits z t.names.next) (λ e f. record {
      numbered = f.numbered;
      version = f.version;
      short = f.short;
      rising = f.rising;
      pointers = all_map (λ (k : ℕ × Ptr). IsPointer z k.1 × IsPlace k.1) (λ k. IsPointer z k.1) (λ k h. h.0) (e.1).blocks f.pointers;
    }) t.files a.files;
  };
  logs = record {
    rising = a.logs_rise;
    each = all_map (IsLog z t.next_log t.held) (LogFits z t.next_log) (λ e f. record { numbered = f.numbered; owner = f.owner; batch = f.batch }) t.logs a.logs;
    once = once_from z.clients t.logs (IsRising-from_ordered t.logs a.logs_rise) a.one_live;
  };
  held = record {
    rising = a.held_rise;
    each = all_map (IsHeld z t.logs) (HeldFits z) (λ h f. record { end = f.end; born = f.born }) t.held a.held;
  };
}

pub agree_from : (z : Sizes) (t : Tables) → AreTables z t → Agree t
agree_from z t a = record {
  tree = a.names;
  named = a.named;
  kept = all_map (IsLog z t.next_log t.held) (λ e. keeps t.held e ≡ true) (λ e f. keeps_from z t.next_log t.held e f) t.logs a.logs;
  there = all_map (IsHeld z t.logs) (λ h. IsSome (look h.log.0 t.logs)) (λ h f. f.log) t.held a.held;
}

-- And back.

file_from : (z : Sizes) (next : ℕ) (e : ℕ × FileState) → FileFits z next e → IsFileRow e → IsFile z next e
file_from z next e f r = record {
  numbered = f.numbered;
  version = f.version;
  short = f.short;
  numbers = all_map IsBlock (λ k. k.0 < 2 ^ 32) (λ k b. let number = b.0 in omega (arith, number)) (e.1).blocks (r.blocks).0;
  rising = f.rising;
  pointers = all_two (λ (k : ℕ × Ptr). IsPointer z k.1) IsBlock (λ k. IsPointer z k.1 × IsPlace k.1)
      (λ k p b. (p, record { log = (let log = (b.1).log in omega (arith, log)); stripe = (let stripe = (b.1).stripe in omega (arith, stripe)) })) (e.1).blocks f.pointers (r.blocks).0;
}

log_from : (z : Sizes) (next : ℕ) (held : List HeldUse) (e : ℕ × LogState) → LogFits z next e → IsLogRow e → keeps held e ≡ true → IsLog z next held e
log_from z next held e f r kept = record {
  numbered = f.numbered;
  owner = f.owner;
  batch = f.batch;
  last = r.last;
  mark = (let mark = r.mark in omega (arith, mark));
  replies = (r.replies).0;
  kept = kept_from held e kept;
}

held_from : (z : Sizes) (logs : List (ℕ × LogState)) (h : HeldUse) → HeldFits z h → IsHeldRow h → IsSome (look h.log.0 logs) → IsHeld z logs h
held_from z logs h f r there = record { log = there; stripe = (let stripe = r.stripe in omega (arith, stripe)); end = f.end; born = f.born }

both : {A : Type 0} (P Q : A → Type 0) (xs : List A) → AllByRecursion P xs → AllByRecursion Q xs → AllByRecursion (λ x. P x × Q x) xs
both P Q xs ps qs = all_two P Q (λ x. P x × Q x) (λ x p q. (p, q)) xs ps qs

pub tables_from : (z : Sizes) (t : Tables) → HasRoom t → AreWithin z t → Agree t → AreTables z t
tables_from z t room within agree =
    let file = (room.head).file in
    let log = (room.head).log in
    record {
      names = agree.tree;
      next_file = omega (arith, file);
      few = within.few;
      named = agree.named;
      files_rise = (within.files).rising;
      files = all_two (FileFits z t.names.next) IsFileRow (IsFile z t.names.next) (λ e f r. file_from z t.names.next e f r) t.files (within.files).each (room.files).0;
      logs_rise = (within.logs).rising;
      logs = all_two (λ e. LogFits z t.next_log e × IsLogRow e) (λ e. keeps t.held e ≡ true) (IsLog z t.next_log t.held) (λ e f k. log_from z t.next_log t.held e f.0 f.1 k) t.logs
          (both (LogFits z t.next_log) IsLogRow t.logs (within.logs).each (room.logs).0) agree.kept;
      one_live = one_live_from z.clients t.logs (all_map (LogFits z t.next_log) (λ e. (e.1).owner ≤ z.clients) (λ e f. f.owner) t.logs (within.logs).each) (within.logs).once;
      held_rise = (within.held).rising;
      held = all_two (λ h. HeldFits z h × IsHeldRow h) (λ h. IsSome (look h.log.0 t.logs)) (IsHeld z t.logs) (λ h f k. held_from z t.logs h f.0 f.1 k) t.held
          (both (HeldFits z) IsHeldRow t.held (within.held).each (room.held).0) agree.there;
      state = (within.head).state;
      generation = (within.head).generation;
      next_log = ((within.head).log, omega (arith, log));
      next_entry = (within.head).entry;
    }

pub checkpoint_from : (z : Sizes) (t : Tables) → HasRoom t → AreWithin z t → Agree t → IsCheckpoint z t
checkpoint_from z t room within agree = record {
  tables = tables_from z t room within agree;
  counts = record {
    blocks = all_map IsFileRow (λ e. length (e.1).blocks < 2 ^ 32) (λ e r. let count = (r.blocks).1 in omega (arith, count)) t.files (room.files).0;
    replies = all_map IsLogRow (λ e. length (e.1).replies < 2 ^ 32) (λ e r. let count = (r.replies).1 in omega (arith, count)) t.logs (room.logs).0;
    held = (let count = (room.held).1 in omega (arith, count));
  };
}
