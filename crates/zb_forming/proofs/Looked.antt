-- What a search by halves finds in a list under rising numbers.
use Rattle.std.proofs.Common.{◌≡◌, ℕ, zero, suc, ◌<◌, ◌≤◌, true, false, List, [], ◌∷◌, length, Option, Some, None, refl, sym, ap, subst, ◌∙◌, inl, inr, arith}
use Rattle.std.specs.Prelude.{if◌then◌else◌, ◌==◌, nat_lt, slice_get, slice_index_or, AllPairs}
use Rattle.std.specs.List.{AllWithin}
use Rattle.std.specs.List.Sorted.{IsPartitionedBy}
use Rattle.std.proofs.lemmas.Bool.{cases_eq}
use Rattle.std.proofs.lemmas.Bool.Decides.{nat_tests}
use Rattle.zb_types.specs.Keyed.{look}

-- the entry at this place, where it has this number
abbrev pub entry_at : {A : Type 0} → ℕ → Option (ℕ × A) → Option A
entry_at k None = None
entry_at k (Some e) = if e.0 == k then Some e.1 else None

look-above : {A : Type 0} (k : ℕ) (es : List (ℕ × A)) → ((i : ℕ) (d : ℕ × A) → i < length es → k < (slice_index_or es i d).0) → look k es ≡ None
look-above k [] above = refl
look-above k (e ∷ es) above = grind (arith, nat_tests, above 0 e (omega arith), look-above k es (λ i d l. above (suc i) d (omega arith)))

look-first : {A : Type 0} (k : ℕ) (e : ℕ × A) (es : List (ℕ × A)) → k ≤ e.0 → ((i : ℕ) (d : ℕ × A) → i < length es → e.0 < (slice_index_or es i d).0) → look k (e ∷ es) ≡ entry_at k (Some e)
look-first k e es le above = grind (arith, nat_tests, look-above k es (λ i d l. omega (arith, above i d l)))

look-later : {A : Type 0} (k : ℕ) (e : ℕ × A) (es : List (ℕ × A)) → e.0 < k → look k (e ∷ es) ≡ look k es
look-later k e es l = grind (arith, nat_tests)

-- the first so many numbers are below k, the others aren't
pub look-at : {A : Type 0} (k : ℕ) (es : List (ℕ × A)) (at : ℕ) → AllPairs (λ one other. one.0 < other.0) es
    → AllWithin (λ entry. entry.0 < k) es 0 at
    → AllWithin (λ entry. k ≤ entry.0) es at (length es)
    → look k es ≡ entry_at k (slice_get es at)
look-at k [] at rise low high = refl
look-at k (e ∷ es) zero rise low high = look-first k e es (high 0 e (omega arith) (omega arith)) (λ i d l. rise 0 (suc i) d (omega arith) (omega arith))
look-at k (e ∷ es) (suc at) rise low high =
    look-later k e es (low 0 e (omega arith) (omega arith))
    ∙ look-at k es at (λ i j d l m. rise (suc i) (suc j) d (omega arith) (omega arith)) (λ i d l m. low (suc i) d (omega arith) (omega arith)) (λ i d l m. high (suc i) d (omega arith) (omega arith))

pub not_below : (a k : ℕ) → nat_lt a k ≡ false → k ≤ a
not_below a k e = grind (arith, nat_tests)

stays_below : {A : Type 0} (k : ℕ) (es : List (ℕ × A)) (i j : ℕ) (d : ℕ × A) → AllPairs (λ one other. one.0 < other.0) es → i < j → j < length es
    → nat_lt (slice_index_or es j d).0 k ≡ true → nat_lt (slice_index_or es i d).0 k ≡ true
stays_below k es i j d rise less l below = grind (arith, nat_tests, rise i j d less l)

-- numbers that rise are parted by a test whether they are below another
pub parted : {A : Type 0} (k : ℕ) (es : List (ℕ × A)) → AllPairs (λ one other. one.0 < other.0) es → IsPartitionedBy (λ (e : ℕ × A). nat_lt e.0 k) es
parted k es rise i j d le l below = elim (cases_eq i j) [
  | inl e ↦ subst (λ (n : ℕ). nat_lt (slice_index_or es n d).0 k ≡ true) (sym e) below
  | inr other ↦ stays_below k es i j d rise (omega (arith, other)) l below
]

-- what stands at the place behind those below k
pub found-some : {A : Type 0} (k : ℕ) (o : Option (ℕ × A)) (e : ℕ × A) → o ≡ Some e → e.0 ≡ k → Some e.1 ≡ entry_at k o
found-some k o e is here = sym (ap (entry_at k) is ∙ grind (arith, nat_tests))

pub found-other : {A : Type 0} (k : ℕ) (o : Option (ℕ × A)) (e : ℕ × A) → o ≡ Some e → (e.0 ≡ k → ⊥) → None ≡ entry_at k o
found-other k o e is other = sym (ap (entry_at k) is ∙ grind (arith, nat_tests))

pub found-none : {A : Type 0} (k : ℕ) (o : Option (ℕ × A)) → o ≡ None → None ≡ entry_at k o
found-none k o is = sym (ap (entry_at k) is)
