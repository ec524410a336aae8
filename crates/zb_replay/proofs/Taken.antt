-- Entries that are taken when the node is opened, or refused.
use Rattle.std.proofs.Common.{◌≡◌, inl, inr, ℕ, ◌+◌, ◌==◌, ◌&&◌, ◌||◌, Bool, true, false, if◌then◌else◌, List, [], ◌∷◌, length, drop, not, option_map, Option, None, Some, refl, sym, ◌∙◌, ap, subst, arith}
use Rattle.std.specs.List.{AllByRecursion, list_any}
use Rattle.std.specs.Option.{is_some}
use Rattle.std.proofs.lemmas.Bool.{eqb-true}
use Rattle.zb_types.specs.declared.ids.LogId.{LogId}
use Rattle.zb_types.specs.declared.ids.Piece.{Piece}
use Rattle.zb_batch.specs.declared.batch.Batch.{Batch}
use Rattle.zb_batch.proofs.Whole.{batch_once}
use Rattle.zb_batch.specs.Batches.{IsBatch}
use Rattle.zb_batch.specs.Spelling.{meta_length, spelling_of_batch}
use Rattle.zb_numbers.specs.Fronts.{ReadsFront}
use Rattle.zb_entries.specs.declared.entry.Entry.{Entry}
use Rattle.zb_entries.specs.declared.entry.Entry.TheVariants.{Attach, Commit, Mark, Retire}
use Rattle.zb_tables.specs.Tables.{Contents}
use Rattle.zb_tables.specs.Fold.{folded}
use Rattle.zb_tables.specs.Replay.{IsBatchIn, joined}
use Rattle.zb_tables.specs.Taking.{IsElsewhere, IsOther}
use Rattle.zb_manager.specs.Managers.{SeenManager}
use Rattle.zb_platter.specs.Naming.{first_naming, names_stripe}
use Rattle.zb_replay.specs.Opening.{NoneTakes, Takes}
use Rattle.zb_replay.specs.Taking.{MayTake, TakesBatch}

-- Entries that name other stripes.

stripe_differs : (log : LogId) (stripe : ℕ) (l : LogId) (p : Piece) (b : Bool) → b ≡ (p.stripe == stripe) → l.0 ≡ log.0 → IsOther log stripe l p.stripe → b ≡ false
stripe_differs log stripe l p false is same other = refl
stripe_differs log stripe l p true is same (inl ne) = absurd (ne same)
stripe_differs log stripe l p true is same (inr ne) = absurd (ne (eqb-true p.stripe stripe (sym is)))

none_here : (log : LogId) (stripe : ℕ) (l : LogId) (pieces : List Piece) → l.0 ≡ log.0 → AllByRecursion (λ p. IsOther log stripe l p.stripe) pieces → list_any (λ p. p.stripe == stripe) pieces ≡ false
none_here log stripe l [] same others = refl
none_here log stripe l (p ∷ ps) same others =
    ap (λ (b : Bool). b || list_any (λ q. q.stripe == stripe) ps) (stripe_differs log stripe l p (p.stripe == stripe) refl same others.0) ∙ none_here log stripe l ps same others.1

not_named : (log : LogId) (stripe : ℕ) (l : LogId) (pieces : List Piece) (b : Bool) → b ≡ (l.0 == log.0) → AllByRecursion (λ p. IsOther log stripe l p.stripe) pieces → (b && list_any (λ p. p.stripe == stripe) pieces) ≡ false
not_named log stripe l pieces false is others = refl
not_named log stripe l pieces true is others = none_here log stripe l pieces (eqb-true l.0 log.0 (sym is)) others

names_none : (log : LogId) (stripe : ℕ) (e : Entry) → IsElsewhere log stripe e → names_stripe log stripe e ≡ false
names_none log stripe (Commit l batch generation pieces) others = not_named log stripe l pieces (l.0 == log.0) refl others
names_none log stripe (Attach owner l) others = refl
names_none log stripe (Mark members) others = refl
names_none log stripe (Retire l s) others = refl

pub none_is_named : (number : ℕ) (log : LogId) (stripe : ℕ) (entries : List Entry) → AllByRecursion (IsElsewhere log stripe) entries → first_naming number log stripe entries ≡ None
none_is_named number log stripe [] all = refl
none_is_named number log stripe (e ∷ es) all =
    ap (λ (b : Bool). if b then Some number else first_naming (number + 1) log stripe es) (names_none log stripe e all.0) ∙ none_is_named (number + 1) log stripe es all.1

pub empty_list : {A : Type 0} (xs : List A) → length xs ≡ 0 → xs ≡ []
empty_list [] e = refl
empty_list (x ∷ xs) e = absurd (omega (arith, e))

-- what was looked for isn't there
pub not_some : {A : Type 0} {o : Option A} (found : Option A) → o ≡ found → is_some found ≡ false → o ≡ None
not_some None is none = is
not_some (Some x) is none = absurd cc

-- Batches.

pub takes_batch : (old new : SeenManager) (contents : Contents) (before : List Entry) (batch : Batch) (log : LogId) (number generation : ℕ) (pieces : List Piece) → IsBatchIn (joined contents log pieces) log number batch → TakesBatch old batch pieces generation new
    → Takes old.sizes contents before old.tables (Commit log number generation pieces) new.tables
takes_batch old new contents before batch log number generation pieces is takes = record {
  batch = batch;
  is = is;
  taken = (takes.may.may, takes.may.free);
  folds = (λ i. folded old.sizes.block old.tables (Commit (sym is.log_is i) (sym is.number_is i) generation pieces) batch) ∙ takes.folds;
}

pub no_batch_taken : (m : SeenManager) (contents : Contents) (before : List Entry) (log : LogId) (number generation : ℕ) (pieces : List Piece) → ((batch : Batch) → IsBatchIn (joined contents log pieces) log number batch → ⊥)
    → NoneTakes m.sizes contents before m.tables (Commit log number generation pieces)
no_batch_taken m contents before log number generation pieces none batch is taken = none batch is

pub batch_not_taken : (m : SeenManager) (contents : Contents) (before : List Entry) (batch : Batch) (log : LogId) (number generation : ℕ) (pieces : List Piece) → IsBatchIn (joined contents log pieces) log number batch → (MayTake m batch pieces generation → ⊥)
    → NoneTakes m.sizes contents before m.tables (Commit log number generation pieces)
batch_not_taken m contents before batch log number generation pieces is refused other found taken =
    let same : other ≡ batch = (batch_once other batch found.rest is.rest found.valid is.valid (found.begins ∙ sym is.begins)).0 in
    refused (subst (λ (b : Batch). MayTake m b pieces generation) same (record { may = taken.0; free = taken.1 }))

-- the batch that was read has this log and number
pub batch_found : (found : Option Batch) (batch : Batch) (bytes : List ℕ) (log : LogId) (number : ℕ) → found ≡ Some batch
    → ReadsFront IsBatch spelling_of_batch bytes (option_map (λ b. (b, drop (meta_length b) bytes)) found) → (differs : Bool) → differs ≡ not (batch.log.0 == log.0) → differs ≡ false → batch.number ≡ number
    → IsBatchIn bytes log number batch
batch_found found batch bytes log number is reads differs test same numbers =
    let front = subst (λ (o : Option Batch). ReadsFront IsBatch spelling_of_batch bytes (option_map (λ b. (b, drop (meta_length b) bytes)) o)) is reads in
    let log_is : batch.log.0 ≡ log.0 = eqb-true batch.log.0 log.0 (not_false (batch.log.0 == log.0) (sym test ∙ same)) in
    record {
      log_is = λ i. record { 0 = log_is i };
      number_is = numbers;
      valid = front.0;
      rest = drop (meta_length batch) bytes;
      begins = front.1;
    } where
      not_false : (b : Bool) → not b ≡ false → b ≡ true
      not_false true e = refl
      not_false false e = absurd cc
