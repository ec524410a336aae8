-- Pointers as keys: when two of them are one, and what the kit's cache holds after a use or a put.
use Rattle.std.proofs.Common.{◌≡◌, ℕ, ◌-◌, ◌&&◌, true, eqb, List, [], ◌∷◌, take, Option, Some, None, refl, sym, ap, ◌∙◌, inl, inr}
use Rattle.std.specs.Prelude.{option_map}
use Rattle.std.specs.Option.{option_map_or}
use Rattle.std.specs.Map.{lookup_entry}
use Rattle.std.proofs.lemmas.Bool.{cases_Bool, cond-true, cond-false, eqb-true, eq-eqb, and_parts, and_from}
use Rattle.zb_types.specs.declared.ids.Ptr.{Ptr}
use Rattle.zb_cache.specs.Entries.{same_ptr, bytes_under, others, after_use, after_put}

-- pointers that are the same are equal
pub same_ptr-is : (p q : Ptr) → same_ptr p q ≡ true → p ≡ q
same_ptr-is p q same =
    let first = and_parts (eqb p.log.0 q.log.0) (eqb p.stripe q.stripe && (eqb p.offset q.offset && eqb p.len q.len)) same in
    let second = and_parts (eqb p.stripe q.stripe) (eqb p.offset q.offset && eqb p.len q.len) first.1 in
    let third = and_parts (eqb p.offset q.offset) (eqb p.len q.len) second.1 in
    let log = eqb-true p.log.0 q.log.0 first.0 in
    let stripe = eqb-true p.stripe q.stripe second.0 in
    let offset = eqb-true p.offset q.offset third.0 in
    let len = eqb-true p.len q.len third.1 in
    (λ i. record { log = record { 0 = log i }; stripe = stripe i; offset = offset i; len = len i })

-- a pointer is the same as itself
pub same_ptr-self : (p : Ptr) → same_ptr p p ≡ true
same_ptr-self p =
    and_from (eqb p.log.0 p.log.0) (eqb p.stripe p.stripe && (eqb p.offset p.offset && eqb p.len p.len)) (eq-eqb p.log.0 p.log.0 refl)
    (and_from (eqb p.stripe p.stripe) (eqb p.offset p.offset && eqb p.len p.len) (eq-eqb p.stripe p.stripe refl)
    (and_from (eqb p.offset p.offset) (eqb p.len p.len) (eq-eqb p.offset p.offset refl) (eq-eqb p.len p.len refl)))

-- the entry that the kit's cache finds has the pointer that was asked for
entry_under : (p : Ptr) (es : List (Ptr × List ℕ)) → lookup_entry (same_ptr p) es ≡ option_map (λ bytes. (p, bytes)) (bytes_under p es)
entry_under p [] = refl
entry_under p (e ∷ es) = elim (cases_Bool (same_ptr p e.0)) [
  | inl same ↦
      cond-true (same_ptr p e.0) (Some e) (lookup_entry (same_ptr p) es) same
      ∙ ap (λ k. Some (k, e.1)) (sym (same_ptr-is p e.0 same))
      ∙ ap (option_map (λ bytes. (p, bytes))) (sym (cond-true (same_ptr p e.0) (Some e.1) (bytes_under p es) same))
  | inr other ↦
      cond-false (same_ptr p e.0) (Some e) (lookup_entry (same_ptr p) es) other
      ∙ entry_under p es
      ∙ ap (option_map (λ bytes. (p, bytes))) (sym (cond-false (same_ptr p e.0) (Some e.1) (bytes_under p es) other))
]

used_by : (p : Ptr) (rest es : List (Ptr × List ℕ)) (o : Option (List ℕ))
    → option_map_or (λ (e : Ptr × List ℕ). e ∷ rest) (option_map (λ bytes. (p, bytes)) o) es ≡ option_map_or (λ bytes. (p, bytes) ∷ rest) o es
used_by p rest es None = refl
used_by p rest es (Some bytes) = refl

-- what the kit's cache holds after a use
pub use_is : (p : Ptr) (es : List (Ptr × List ℕ)) → option_map_or (λ (e : Ptr × List ℕ). e ∷ others p es) (lookup_entry (same_ptr p) es) es ≡ after_use p es
use_is p es = ap (λ o. option_map_or (λ (e : Ptr × List ℕ). e ∷ others p es) o es) (entry_under p es) ∙ used_by p (others p es) es (bytes_under p es)

put_by : (p : Ptr) (bytes : List ℕ) (rest less : List (Ptr × List ℕ)) (o : Option (List ℕ))
    → option_map_or (λ (e : Ptr × List ℕ). (e.0, bytes) ∷ rest) (option_map (λ was. (p, was)) o) ((p, bytes) ∷ less) ≡ (p, bytes) ∷ option_map_or (λ _. rest) o less
put_by p bytes rest less None = refl
put_by p bytes rest less (Some was) = refl

-- what the kit's cache holds after a put
pub put_is : (n : ℕ) (p : Ptr) (bytes : List ℕ) (es : List (Ptr × List ℕ))
    → option_map_or (λ (e : Ptr × List ℕ). (e.0, bytes) ∷ others p es) (lookup_entry (same_ptr p) es) ((p, bytes) ∷ take (n - 1) es) ≡ after_put n p bytes es
put_is n p bytes es =
    ap (λ o. option_map_or (λ (e : Ptr × List ℕ). (e.0, bytes) ∷ others p es) o ((p, bytes) ∷ take (n - 1) es)) (entry_under p es)
    ∙ put_by p bytes (others p es) (take (n - 1) es) (bytes_under p es)
