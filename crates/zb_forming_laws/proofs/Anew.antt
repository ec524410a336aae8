-- Where the new pointers of a run of deltas stand: each block of a range has one, and no other has.
use Rattle.std.proofs.Common.{◌≡◌, ℕ, zero, suc, ◌+◌, ◌<◌, ◌≤◌, List, [], ◌∷◌, length, Option, Some, None, refl, sym, ap, ◌∙◌, subst, inl, inr, arith}
use Rattle.std.specs.Prelude.{IsSome, if◌then◌else◌, ◌==◌}
use Rattle.std.specs.List.{AllByRecursion, AllZip, range_with_len}
use Rattle.std.proofs.lemmas.Bool.{cases_eq}
use Rattle.std.proofs.lemmas.Bool.Decides.{nat_tests}
use Rattle.std.proofs.lemmas.Option.{none-some, same_Some}
use Rattle.zb_types.specs.declared.ids.Fid.{Fid}
use Rattle.zb_types.specs.declared.ids.Ptr.{Ptr}
use Rattle.zb_types.specs.Keyed.{look, put}
use Rattle.zb_types.proofs.KeyedLists.{look-put}
use Rattle.zb_delta.specs.declared.delta.Body.{Body}
use Rattle.zb_delta.specs.declared.delta.Delta.{Delta}
use Rattle.zb_delta.specs.Spelling.{body_of}
use Rattle.zb_tables.specs.Spelled.{new_blocks}
use Rattle.zb_tables.proofs.Blocks.{look-set_all, or_else}
use Rattle.zb_basis.specs.Operations.{Bytes, IsDelta, new_of}

-- a new pointer has the bytes that were merged for its block, and names so many
pub record IsNew (bytes : Bytes) (merged : ℕ → List ℕ) (k : ℕ) (p : Ptr) : Type 0 where
  pub bytes_are : bytes p ≡ merged k
  pub len_is : p.len ≡ length (merged k)

-- a pointer names as many bytes as stand there
abbrev pub IsWhole : Bytes → Ptr → Type 0
IsWhole bytes p = p.len ≡ length (bytes p)

-- each block of a range has a new pointer, and no other block has
pub record AreNew (P : ℕ → Ptr → Type 0) (first n : ℕ) (deltas : List Delta) : Type 0 where
  pub each : (k : ℕ) (p : Ptr) → look k (new_blocks deltas) ≡ Some p → P k p
  pub low : (k : ℕ) (p : Ptr) → look k (new_blocks deltas) ≡ Some p → first ≤ k
  pub high : (k : ℕ) (p : Ptr) → look k (new_blocks deltas) ≡ Some p → k < first + n
  pub all : (k : ℕ) → first ≤ k → k < first + n → IsSome (look k (new_blocks deltas))
  pub same : (k : ℕ) → new_of k deltas ≡ look k (new_blocks deltas)

-- block k's new pointer is that of the first delta, or of a later one
first-or : (d : Delta) (ds : List Delta) (k : ℕ) → look k (new_blocks (d ∷ ds)) ≡ or_else (look k (new_blocks ds)) (if (body_of d).block == k then Some (body_of d).now else None)
first-or d ds k = look-set_all ds k (put (body_of d).block (body_of d).now []) ∙ ap (or_else (look k (new_blocks ds))) (look-put k (body_of d).block (body_of d).now [])

is-some : (o : Option Ptr) (p : Ptr) → o ≡ Some p → IsSome o
is-some None p e = absurd (none-some p e)
is-some (Some q) p e = refl

module _ (P : ℕ → Ptr → Type 0) (first n : ℕ) (d : Delta) (ds : List Delta) (here : (body_of d).block ≡ first) (this : P first (body_of d).now) (rest : AreNew P (suc first) n ds) where
  -- what is found is this delta's pointer, or a later one's
  found-by : (k : ℕ) (p : Ptr) (Q : Type 0) → look k (new_blocks (d ∷ ds)) ≡ Some p → (look k (new_blocks ds) ≡ Some p → Q) → (first ≡ k → (body_of d).now ≡ p → Q) → Q
  found-by k p Q e later now = by (look k (new_blocks ds)) refl (sym (first-or d ds k) ∙ e) where
    by : (o : Option Ptr) → look k (new_blocks ds) ≡ o → or_else (look k (new_blocks ds)) (if (body_of d).block == k then Some (body_of d).now else None) ≡ Some p → Q
    by (Some q) is f = later (is ∙ (sym (ap (λ (o : Option Ptr). or_else o (if (body_of d).block == k then Some (body_of d).now else None)) is) ∙ f))
    by None is f = only (sym (ap (λ (o : Option Ptr). or_else o (if (body_of d).block == k then Some (body_of d).now else None)) is) ∙ f) where
      only : (if (body_of d).block == k then Some (body_of d).now else None) ≡ Some p → Q
      only g = elim (cases_eq (body_of d).block k) as (λ _. Q) [
        | inl same ↦ now (sym here ∙ same) (same_Some (body_of d).now p (grind (arith, nat_tests)))
        | inr other ↦ absurd (none-some p (grind (arith, nat_tests)))
      ]

  -- no later delta is of this block
  none-later : look first (new_blocks ds) ≡ None
  none-later = by (look first (new_blocks ds)) refl where
    by : (o : Option Ptr) → look first (new_blocks ds) ≡ o → look first (new_blocks ds) ≡ None
    by None is = is
    by (Some p) is = absurd (let l = rest.low first p is in omega arith)

  first-found : look first (new_blocks (d ∷ ds)) ≡ Some (body_of d).now
  first-found = first-or d ds first ∙ ap (λ (o : Option Ptr). or_else o (if (body_of d).block == first then Some (body_of d).now else None)) none-later ∙ grind (arith, nat_tests)

  later-found : (k : ℕ) → (first ≡ k → ⊥) → look k (new_blocks (d ∷ ds)) ≡ look k (new_blocks ds)
  later-found k other = first-or d ds k ∙ by (look k (new_blocks ds)) where
    by : (o : Option Ptr) → or_else o (if (body_of d).block == k then Some (body_of d).now else None) ≡ o
    by (Some p) = refl
    by None = grind (arith, nat_tests)

  one-more : AreNew P first (suc n) (d ∷ ds)
  one-more = record {
    each = λ k p e. found-by k p (P k p) e (rest.each k p) (λ at is. subst (λ (j : ℕ). P j p) at (subst (P first) is this));
    low = λ k p e. found-by k p (first ≤ k) e (λ f. let l = rest.low k p f in omega arith) (λ at is. omega arith);
    high = λ k p e. found-by k p (k < first + suc n) e (λ f. let l = rest.high k p f in omega arith) (λ at is. omega arith);
    all = λ k low high. elim (cases_eq first k) as (λ _. IsSome (look k (new_blocks (d ∷ ds)))) [
      | inl at ↦ is-some (look k (new_blocks (d ∷ ds))) (body_of d).now (subst (λ (j : ℕ). look j (new_blocks (d ∷ ds)) ≡ Some (body_of d).now) at first-found)
      | inr other ↦ subst IsSome (sym (later-found k other)) (rest.all k (omega arith) (omega arith))
    ];
    same = λ k. elim (cases_eq first k) as (λ _. new_of k (d ∷ ds) ≡ look k (new_blocks (d ∷ ds))) [
      | inl at ↦ subst (λ (j : ℕ). new_of j (d ∷ ds) ≡ look j (new_blocks (d ∷ ds))) at (grind (arith, nat_tests) ∙ sym first-found)
      | inr other ↦ grind (arith, nat_tests, rest.same k) ∙ (rest.same k ∙ sym (later-found k other))
    ];
  }

pub none-new : (P : ℕ → Ptr → Type 0) (first : ℕ) → AreNew P first 0 []
none-new P first = record {
  each = λ k p e. absurd (none-some p e);
  low = λ k p e. absurd (none-some p e);
  high = λ k p e. absurd (none-some p e);
  all = λ k low high. absurd (omega arith);
  same = λ k. refl;
}

module _ (bytes : Bytes) (fid : Fid) (version : ℕ) (was : ℕ → Option Ptr) (merged : ℕ → List ℕ) where
  -- deltas of a range of blocks
  pub zip-new : (first n : ℕ) (ds : List Delta) → AllZip (λ k d. IsDelta bytes fid version k (was k) (merged k) d) (range_with_len first n) ds
      → AllByRecursion (λ (d : Delta). IsWhole bytes (body_of d).now) ds → AreNew (IsNew bytes merged) first n ds
  zip-new first zero [] zip whole = none-new (IsNew bytes merged) first
  zip-new first zero (d ∷ ds) zip whole = absurd zip
  zip-new first (suc n) [] zip whole = absurd zip
  zip-new first (suc n) (d ∷ ds) zip whole =
      let is = zip.0 in
      let body = ap body_of is.is in
      let now : (body_of d).now ≡ is.now = ap (λ (x : Body). x.now) body in
      one-more (IsNew bytes merged) first n d ds (ap (λ (x : Body). x.block) body)
      (record { bytes_are = ap bytes now ∙ is.merged; len_is = whole.0 ∙ ap length (ap bytes now ∙ is.merged) })
      (zip-new (suc first) n ds (subst (λ (j : ℕ). AllZip (λ k d. IsDelta bytes fid version k (was k) (merged k) d) (range_with_len j n) ds) (omega arith) zip.1) whole.1)
