-- The last part of a flush, what is new of one, the calls of a run, and the number of a batch.
use Rattle.std.proofs.Common.{◌≡◌, ℕ, zero, suc, ◌-◌, ◌≤◌, Bool, true, false, List, [], ◌∷◌, ◌++◌, length, length-append, get_or, take, drop, Option, Some, None, refl, sym, ap, ◌∙◌, arith, drop_at}
use Rattle.std.specs.Prelude.{if◌then◌else◌, nat_le, nat_lt, slice_get}
use Rattle.std.specs.List.{AllZip}
use Rattle.std.proofs.lemmas.Bool.{cond_both, ltb-false}
use Rattle.std.proofs.lemmas.Option.{none-some}
use Rattle.zb_types.specs.declared.ids.Piece.{Piece}
use Rattle.zb_types.specs.declared.tables.CommitFault.{CommitFault}
use Rattle.zb_types.specs.declared.tables.CommitFault.TheVariants.{Worn}
use Rattle.zb_stripe.specs.declared.flush.Fresh.{Fresh}
use Rattle.zb_stripe.specs.declared.flush.Part.{Part}
use Rattle.zb_stripe.specs.Fresh.{AreFresh}
use Rattle.zb_log.specs.Logs.{last_of}
use Rattle.zb_log.specs.Sealing.{given_of, part_of, parts_of}
use Rattle.zb_batch.specs.declared.batch.Batch.{Batch}
use Rattle.zb_tables.specs.Fold.{done_ops, shelf_of}
use Rattle.zb_tables.specs.Tables.{Tables, last_value}
use Rattle.zb_tables.specs.Taking.{any_wears, commit_refusal, or_else, regen_of, stale_of, worn_of}
use Rattle.zb_sound.specs.LastFlush.{IsLastOf}
use Rattle.zb_basis.specs.declared.calls.Numbered.{Numbered}
use Rattle.zb_basis.specs.Runs.{company, is_alone, run_of}
use Rattle.zb_forming_laws.specs.Resting.{AreShort}
use Rattle.zb_work.specs.declared.work.Aim.{Aim}
use Rattle.zb_work.specs.declared.work.Aim.TheVariants.{Update, Read, Finish}
use Rattle.zb_work.specs.declared.work.Step.TheVariants as step
use Rattle.zb_work.specs.declared.work.Task.{Task}
use Rattle.zb_work.specs.Steps.{next_task, step_of, with_step}

-- ---- parts

-- the last of some parts
pub record LastPart (parts : List Part) : Type 0 where
  pub part : Part
  pub is : IsLastOf part parts
  pub found : last_of parts ≡ Some part

pub last_part : (parts : List Part) → 1 ≤ length parts → LastPart parts
last_part [] some = absurd (omega arith)
last_part (p ∷ []) some = record { part = p; is = ([], refl); found = refl }
last_part (p ∷ (q ∷ rest)) some =
    let more = last_part (q ∷ rest) (omega arith) in
    let at : length (p ∷ (q ∷ rest)) - 1 ≡ suc (length (q ∷ rest) - 1) = omega arith in
    record {
      part = more.part;
      is = (p ∷ more.is.0, ap (λ (ps : List Part). p ∷ ps) more.is.1);
      found = ap (slice_get (p ∷ (q ∷ rest))) at ∙ more.found;
    }

-- the last of one part
pub only_last : (part other : Part) → IsLastOf other (part ∷ []) → part.stripe ≡ other.stripe
only_last part other one = only one.0 one.1 where
  only : (before : List Part) → part ∷ [] ≡ before ++ other ∷ [] → part.stripe ≡ other.stripe
  only [] e = ap (λ (ps : List Part). (get_or ps 0 part).stripe) e
  only (q ∷ before) e =
      let long : 1 ≡ suc (length (before ++ other ∷ [])) = ap length e in
      let more = length-append before (other ∷ []) in
      absurd (omega (arith, long, more))

-- as many as others are some where those are
pub zip_some : {A B : Type 0} (R : A → B → Type 0) (xs : List A) (ys : List B) → AllZip R xs ys → 1 ≤ length xs → 1 ≤ length ys
zip_some R [] ys zip some = absurd (omega arith)
zip_some R (x ∷ xs) [] zip some = absurd zip
zip_some R (x ∷ xs) (y ∷ ys) zip some = omega arith

-- what is new of parts tells the parts
pub same_parts : (n f m g w : ℕ) (given : List ℕ) (pieces : List Piece) (new other : List ℕ) (fresh : List Fresh) → AreFresh n f (parts_of w given pieces new) fresh → AreFresh m g (parts_of w given pieces other) fresh
    → parts_of w given pieces other ≡ parts_of w given pieces new
same_parts n f m g w given [] new other fresh a b = refl
same_parts n f m g w given (piece ∷ pieces) new other [] a b = absurd a
same_parts n f m g w given (piece ∷ pieces) new other (one ∷ fresh) a b =
    let before = given_of w given piece.stripe in
    let own : take piece.len other ≡ take piece.len new =
    sym (drop_at before (take piece.len other) (length before) refl) ∙ sym b.0.bytes ∙ a.0.bytes ∙ drop_at before (take piece.len new) (length before) refl in
    ap (λ (bytes : List ℕ). part_of before piece bytes ∷ parts_of w given pieces (drop piece.len other)) own
    ∙ ap (λ (ps : List Part). part_of before piece (take piece.len new) ∷ ps) (same_parts n f m g w given pieces (drop piece.len new) (drop piece.len other) fresh a.1 b.1)

-- ---- calls

pub short_drop : (n : ℕ) (calls : List Numbered) → AreShort calls → AreShort (drop n calls)
short_drop zero calls short = short
short_drop (suc n) [] short = tt
short_drop (suc n) (call ∷ calls) short = short_drop n calls short.1

short_company : (most : ℕ) (calls : List Numbered) → AreShort calls → AreShort (company most calls)
short_company zero [] short = tt
short_company (suc most) [] short = tt
short_company zero (call ∷ calls) short = tt
short_company (suc most) (call ∷ calls) short =
    cond_both (is_alone call.call) [] (call ∷ company most calls) AreShort (λ _. tt) (λ _. (short.0, short_company most calls short.1))

pub short_run : (kept : List Numbered) → AreShort kept → AreShort (run_of kept)
short_run [] short = tt
short_run (call ∷ calls) short = cond_both (is_alone call.call) (call ∷ []) (company 8 (call ∷ calls)) AreShort (λ _. (short.0, tt)) (λ _. short_company 8 (call ∷ calls) short)

-- ---- work

-- what is left behind a batch begins with a lookup
pub next_looks : (aim : Option Aim) (keeps : Bool) → step_of (next_task aim keeps) ≡ step.Lookup
next_looks None true = refl
next_looks None false = refl
next_looks (Some Read) true = refl
next_looks (Some Read) false = refl
next_looks (Some (Update number)) true = refl
next_looks (Some (Update number)) false = refl
next_looks (Some Finish) true = refl
next_looks (Some Finish) false = refl

pub looks_again : (task : Option Task) → step_of (with_step step.Lookup task) ≡ step.Lookup
looks_again None = refl
looks_again (Some task) = refl

-- ---- a batch's number

or_none : (x y : Option CommitFault) → or_else x y ≡ None → y ≡ None
or_none None y e = e
or_none (Some fault) y e = absurd (none-some fault (sym e))

number_most : (p q r : Bool) → (if p then Some (Worn 2) else (if q then Some (Worn 3) else (if r then Some (Worn 4) else None))) ≡ None → q ≡ false
number_most true q r e = absurd (none-some (Worn 2) (sym e))
number_most false true r e = absurd (none-some (Worn 3) (sym e))
number_most false false r e = refl

-- a batch that isn't refused has no number above the last
pub number_below : (b : ℕ) (t : Tables) (batch : Batch) (pieces : List Piece) (generation : ℕ) → commit_refusal b t batch pieces generation ≡ None → batch.number ≤ last_value
number_below b t batch pieces generation taken =
    let behind = or_none (regen_of t batch.log pieces generation) (or_else (stale_of (done_ops b batch.ops (shelf_of t))) (worn_of b t batch)) taken in
    let worn = or_none (stale_of (done_ops b batch.ops (shelf_of t))) (worn_of b t batch) behind in
    ltb-false last_value batch.number (number_most (nat_le last_value t.next_entry) (nat_lt last_value batch.number) (any_wears b batch.ops (shelf_of t)) worn)
