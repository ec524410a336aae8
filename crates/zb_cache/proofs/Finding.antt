-- What is found in a cache after a use or a put.
use Rattle.std.proofs.Common.{◌≡◌, ℕ, zero, suc, ◌-◌, false, cond, ◌⊎◌, List, [], ◌∷◌, take, Option, Some, None, refl, sym, ap, ◌∙◌, inl, inr}
use Rattle.std.specs.Option.{option_map_or}
use Rattle.std.proofs.lemmas.Bool.{cases_Bool, cond-true, cond-false}
use Rattle.zb_types.specs.declared.ids.Ptr.{Ptr}
use Rattle.zb_cache.specs.Entries.{same_ptr, bytes_under, others, after_use, after_put}
use Rattle.zb_cache.proofs.Using.{same_ptr-is, same_ptr-self}

under_first : (q p : Ptr) (bytes : List ℕ) (es : List (Ptr × List ℕ)) → bytes_under q ((p, bytes) ∷ es) ≡ cond (same_ptr q p) (Some bytes) (bytes_under q es)
under_first q p bytes es = refl

-- another pointer has the bytes that it had, without this one
under_others : (q p : Ptr) (es : List (Ptr × List ℕ)) → same_ptr q p ≡ false → bytes_under q (others p es) ≡ bytes_under q es
under_others q p [] apart = refl
under_others q p (e ∷ es) apart = elim (cases_Bool (same_ptr p e.0)) [
  | inl same ↦
      ap (bytes_under q) (cond-true (same_ptr p e.0) es (e ∷ others p es) same)
      ∙ sym (cond-false (same_ptr q e.0) (Some e.1) (bytes_under q es) (ap (same_ptr q) (sym (same_ptr-is p e.0 same)) ∙ apart))
  | inr other ↦
      ap (bytes_under q) (cond-false (same_ptr p e.0) es (e ∷ others p es) other)
      ∙ ap (λ o. cond (same_ptr q e.0) (Some e.1) o) (under_others q p es apart)
]

use_by : (q p : Ptr) (es : List (Ptr × List ℕ)) (o : Option (List ℕ)) → bytes_under p es ≡ o
    → bytes_under q (option_map_or (λ bytes. (p, bytes) ∷ others p es) o es) ≡ bytes_under q es
use_by q p es None found = refl
use_by q p es (Some bytes) found = elim (cases_Bool (same_ptr q p)) [
  | inl same ↦
      cond-true (same_ptr q p) (Some bytes) (bytes_under q (others p es)) same
      ∙ sym found ∙ ap (λ r. bytes_under r es) (sym (same_ptr-is q p same))
  | inr apart ↦ cond-false (same_ptr q p) (Some bytes) (bytes_under q (others p es)) apart ∙ under_others q p es apart
]

-- a use changes what is found under no pointer
pub under-after_use : (q p : Ptr) (es : List (Ptr × List ℕ)) → bytes_under q (after_use p es) ≡ bytes_under q es
under-after_use q p es = use_by q p es (bytes_under p es) refl

-- after a put its bytes are found under its pointer
pub under-after_put_same : (n : ℕ) (p : Ptr) (bytes : List ℕ) (es : List (Ptr × List ℕ)) → bytes_under p (after_put n p bytes es) ≡ Some bytes
under-after_put_same n p bytes es =
    cond-true (same_ptr p p) (Some bytes) (bytes_under p (option_map_or (λ _. others p es) (bytes_under p es) (take (n - 1) es))) (same_ptr-self p)

-- a front of the blocks has the same bytes under a pointer, or none
under_take : (q : Ptr) (n : ℕ) (es : List (Ptr × List ℕ)) → (bytes_under q (take n es) ≡ None) ⊎ (bytes_under q (take n es) ≡ bytes_under q es)
under_take q zero es = inl refl
under_take q (suc n) [] = inl refl
under_take q (suc n) (e ∷ es) = elim (cases_Bool (same_ptr q e.0)) [
  | inl same ↦ inr (cond-true (same_ptr q e.0) (Some e.1) (bytes_under q (take n es)) same ∙ sym (cond-true (same_ptr q e.0) (Some e.1) (bytes_under q es) same))
  | inr other ↦ elim (under_take q n es) [
    | inl none ↦ inl (cond-false (same_ptr q e.0) (Some e.1) (bytes_under q (take n es)) other ∙ none)
    | inr as_was ↦ inr (ap (λ o. cond (same_ptr q e.0) (Some e.1) o) as_was)
  ]
]

behind_put : (q p : Ptr) (n : ℕ) (es : List (Ptr × List ℕ)) (o : Option (List ℕ)) → same_ptr q p ≡ false
    → (bytes_under q (option_map_or (λ _. others p es) o (take n es)) ≡ None) ⊎ (bytes_under q (option_map_or (λ _. others p es) o (take n es)) ≡ bytes_under q es)
behind_put q p n es None apart = under_take q n es
behind_put q p n es (Some was) apart = inr (under_others q p es apart)

-- after a put another pointer has the bytes that it had, or none
pub under-after_put_other : (n : ℕ) (q p : Ptr) (bytes : List ℕ) (es : List (Ptr × List ℕ)) → same_ptr q p ≡ false
    → (bytes_under q (after_put n p bytes es) ≡ None) ⊎ (bytes_under q (after_put n p bytes es) ≡ bytes_under q es)
under-after_put_other n q p bytes es apart =
    let rest = option_map_or (λ _. others p es) (bytes_under p es) (take (n - 1) es) in
    let past = cond-false (same_ptr q p) (Some bytes) (bytes_under q rest) apart in
    elim (behind_put q p (n - 1) es (bytes_under p es) apart) [
      | inl none ↦ inl (past ∙ none)
      | inr as_was ↦ inr (past ∙ as_was)
    ]
