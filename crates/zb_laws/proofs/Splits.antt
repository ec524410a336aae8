-- The rows of a script are split at their line ends.
use Rattle.std.proofs.Common.{◌≡◌, ℕ, true, false, not, ◌&&◌, ◌||◌, eqb, List, [], ◌∷◌, ◌++◌, length, Some, None, refl, sym, ap, ◌∙◌, append_assoc, arith, inl, inr}
use Rattle.std.specs.Prelude.{IsTrue, nat_le, ◌⊎◌}
use Rattle.std.specs.List.{list_any}
use Rattle.zb_types.specs.declared.geometry.Geometry.{Geometry}
use Rattle.zb_types.specs.declared.calls.Call.{Call}
use Rattle.zb_types.specs.declared.calls.Call.TheVariants.{Create, Mkdir, Remove, Rename, Write, Truncate, Sync, Read, List as ListOf, Stat, Find}
use Rattle.zb_types.specs.declared.nodes.Event.TheVariants.{Crash as CrashOf, Arm as ArmOf, Up as UpOf, Lose as LoseOf, Checkpoint as CheckpointOf}
use Rattle.zb_types.specs.declared.lines.Kind.{Kind}
use Rattle.zb_types.specs.declared.lines.Kind.TheVariants.{Idle, Call as CallKind, Lookup, Fetch, Store, Mark, Commit, Pick, Retire, Sweep, Delete, Begin, Fence, Wipe, Finish}
use Rattle.zb_types.specs.declared.lines.Job.TheVariants.{Clean, Rebuild}
use Rattle.zb_types.specs.declared.lines.Line.{Line}
use Rattle.zb_types.specs.declared.lines.Line.TheVariants.{Call as CallLine, Job as JobLine, Steps, StepTo, Event as EventLine}
use Rattle.zb_claims.specs.Text.{newline, call_text, kind_text, words, IsCall, IsLine}
use Rattle.zb_claims.specs.Script.{Row, skipped, said, row_text, is_comment, IsRow, rows_text}
use Rattle.zb_laws.specs.Readings.{IsRowFront, RowsAgree}
use Rattle.std.proofs.lemmas.Bool.Decides.{nat_tests}
use Rattle.zb_types.specs.Paths.{is_path}
use Rattle.zb_laws.proofs.Tests.{both, first_true, last_true, high}
use Rattle.zb_laws.proofs.Bytes.{cut, path_free}
use Rattle.zb_laws.proofs.Clean.{clean, clean-append, clean-decimal, clean-quoted, clean-node, disk_is_node, small_client, small_server}
use Rattle.zb_laws.proofs.Script.{one_spelling, actor_is_node, small_count}

clean-path : (path : List ℕ) → IsTrue (is_path path) → clean path ≡ true
clean-path path h = path_free 10 path (omega arith) h

pub clean-call : (call : Call) → IsCall call → clean (call_text call) ≡ true
clean-call (Create path) h = clean-path path h
clean-call (Mkdir path) h = clean-path path h
clean-call (Remove path) h = clean-path path h
clean-call (Rename path to) h = simp (clean-append, clean-path path h.0, clean-path to h.1) refl
clean-call (Write fid offset bytes) h = simp (clean-append, clean-decimal fid.0 (omega (arith, h.0)), clean-decimal offset (omega (arith, h.1)), clean-quoted bytes) refl
clean-call (Truncate fid size) h = simp (clean-append, clean-decimal fid.0 (omega (arith, h.0)), clean-decimal size (omega (arith, h.1))) refl
clean-call Sync h = refl
clean-call (Read fid offset len) h = simp (clean-append, clean-decimal fid.0 (omega (arith, h.0)), clean-decimal offset (omega (arith, h.1)), clean-decimal len (omega (arith, high 1 4096 len h.2))) refl
clean-call (ListOf None) h = refl
clean-call (ListOf (Some path)) h = clean-path path h
clean-call (Stat path) h = clean-path path h
clean-call (Find path) h = clean-path path h

clean-kind : (kind : Kind) → clean (kind_text kind) ≡ true
clean-kind Idle = refl
clean-kind CallKind = refl
clean-kind Lookup = refl
clean-kind Fetch = refl
clean-kind Store = refl
clean-kind Mark = refl
clean-kind Commit = refl
clean-kind Pick = refl
clean-kind Retire = refl
clean-kind Sweep = refl
clean-kind Delete = refl
clean-kind Begin = refl
clean-kind Fence = refl
clean-kind Wipe = refl
clean-kind Finish = refl

clean-words : (geo : Geometry) (line : Line) → IsLine geo line → clean (words line) ≡ true
clean-words geo (CallLine true client call) h = simp (clean-append, clean-decimal client (small_client geo client h.0), clean-call call h.1) refl
clean-words geo (CallLine false client call) h = simp (clean-append, clean-decimal client (small_client geo client h.0), clean-call call h.1) refl
clean-words geo (JobLine true Clean) h = refl
clean-words geo (JobLine false Clean) h = refl
clean-words geo (JobLine true (Rebuild server)) h = clean-decimal server.0 (small_server geo server.0 h)
clean-words geo (JobLine false (Rebuild server)) h = clean-decimal server.0 (small_server geo server.0 h)
clean-words geo (Steps actor count) h = simp (clean-append, clean-node geo actor (actor_is_node geo actor h.0), clean-decimal count (small_count count h.1)) refl
clean-words geo (StepTo actor kind) h = simp (clean-append, clean-node geo actor (actor_is_node geo actor h), clean-kind kind) refl
clean-words geo (EventLine (CrashOf node)) h = clean-node geo node h
clean-words geo (EventLine (ArmOf disk count)) h = simp (clean-append, clean-node geo disk (disk_is_node geo disk h.0), clean-decimal count (small_count count h.1)) refl
clean-words geo (EventLine (UpOf node)) h = clean-node geo node h
clean-words geo (EventLine (LoseOf server)) h = clean-decimal server.0 (small_server geo server.0 h)
clean-words geo (EventLine CheckpointOf) h = refl

no_end : (bytes : List ℕ) → not (list_any (λ b. eqb b 10) bytes) ≡ true → clean bytes ≡ true
no_end [] h = refl
no_end (b ∷ bytes) h = elim (eqb b 10) as (λ t. not (t || list_any (λ c. eqb c 10) bytes) ≡ true → (not t && clean bytes) ≡ true) [ true ↦ λ e. absurd cc | false ↦ λ e. no_end bytes e ] h

hash_clean : (b : ℕ) → eqb b 35 ≡ true → not (eqb b 10) ≡ true
hash_clean b h = grind (arith, nat_tests)

pub clean-comment : (bytes : List ℕ) → IsTrue (is_comment bytes) → clean bytes ≡ true
clean-comment [] h = refl
clean-comment (b ∷ bytes) h =
    let start : (eqb b 35 && not (list_any (λ c. eqb c 10) bytes)) ≡ true = first_true (eqb b 35 && not (list_any (λ c. eqb c 10) bytes)) (nat_le (length bytes) 16999) h in
    both (not (eqb b 10)) (clean bytes) (hash_clean b (first_true (eqb b 35) (not (list_any (λ c. eqb c 10) bytes)) start)) (no_end bytes (last_true (eqb b 35) (not (list_any (λ c. eqb c 10) bytes)) start))

-- Rows.

abbrev row_words : Row → List ℕ
row_words (skipped bytes) = bytes
row_words (said line) = words line

row_ends : (row : Row) → row_text row ≡ row_words row ++ newline
row_ends (skipped bytes) = refl
row_ends (said line) = refl

clean-row : (geo : Geometry) (row : Row) → IsRow geo row → clean (row_words row) ≡ true
clean-row geo (skipped bytes) h = clean-comment bytes h
clean-row geo (said line) h = clean-words geo line h

no_comment : (line : Line) → is_comment (words line) ≡ false
no_comment (CallLine true client call) = refl
no_comment (CallLine false client call) = refl
no_comment (JobLine true Clean) = refl
no_comment (JobLine false Clean) = refl
no_comment (JobLine true (Rebuild server)) = refl
no_comment (JobLine false (Rebuild server)) = refl
no_comment (Steps actor count) = refl
no_comment (StepTo actor kind) = refl
no_comment (EventLine (CrashOf node)) = refl
no_comment (EventLine (ArmOf disk count)) = refl
no_comment (EventLine (UpOf node)) = refl
no_comment (EventLine (LoseOf server)) = refl
no_comment (EventLine CheckpointOf) = refl

never_comment : {X : Type 0} (line : Line) (bytes : List ℕ) → IsTrue (is_comment bytes) → bytes ≡ words line → X
never_comment line bytes h e = let f : true ≡ false = sym h ∙ ap is_comment e ∙ no_comment line in absurd cc

row_injective : (geo : Geometry) (a b : Row) → IsRow geo a → IsRow geo b → row_words a ≡ row_words b → a ≡ b
row_injective geo (skipped a) (skipped b) p q e = ap skipped e
row_injective geo (skipped a) (said b) p q e = never_comment b a p e
row_injective geo (said a) (skipped b) p q e = never_comment a b q (sym e)
row_injective geo (said a) (said b) p q e = ap said (one_spelling geo a b p q e)

row_cut : (geo : Geometry) (a b : Row) (more rest : List ℕ) → IsRow geo a → IsRow geo b → row_text a ++ more ≡ row_text b ++ rest → (a ≡ b) × (more ≡ rest)
row_cut geo a b more rest p q e =
    let f : row_words a ++ 10 ∷ more ≡ row_words b ++ 10 ∷ rest = sym (append_assoc (row_words a) newline more) ∙ sym (ap (λ (l : List ℕ). l ++ more) (row_ends a)) ∙ e ∙ ap (λ (l : List ℕ). l ++ rest) (row_ends b) ∙ append_assoc (row_words b) newline rest in
    let parts = cut 10 (row_words a) (row_words b) more rest (clean-row geo a p) (clean-row geo b q) f in
    (row_injective geo a b p q parts.0, parts.1)

more_front : (a b : Row) (xs ys : List Row) (rest more : List ℕ) → a ≡ b → IsRowFront xs ys rest more → IsRowFront (a ∷ xs) (b ∷ ys) rest more
more_front a b xs ys rest more same h = record { others = h.others; split = ap (λ (r : Row). r ∷ ys) (sym same) ∙ ap (λ (l : List Row). a ∷ l) h.split; text = h.text }

pub rows_agree : RowsAgree
rows_agree geo [] ys rest more p q e = inl (record { others = ys; split = refl; text = e })
rows_agree geo (x ∷ xs) [] rest more p q e = inr (record { others = x ∷ xs; split = refl; text = sym e })
rows_agree geo (x ∷ xs) (y ∷ ys) rest more p q e =
    let parts = row_cut geo x y (rows_text xs ++ rest) (rows_text ys ++ more) p.0 q.0 (sym (append_assoc (row_text x) (rows_text xs) rest) ∙ e ∙ append_assoc (row_text y) (rows_text ys) more) in
    elim (rows_agree geo xs ys rest more p.1 q.1 parts.1) as (λ _. IsRowFront (x ∷ xs) (y ∷ ys) rest more ⊎ IsRowFront (y ∷ ys) (x ∷ xs) more rest) [
      | inl h ↦ inl (more_front x y xs ys rest more parts.0 h)
      | inr h ↦ inr (more_front y x ys xs more rest (sym parts.0) h)
    ]
