-- Values one behind the other, each with a spelling that is no front of another's.
use Rattle.std.proofs.Common.{◌≡◌, ℕ, ◌<◌, List, [], ◌∷◌, ◌++◌, length, None, refl, sym, ◌∙◌, append_assoc, arith}
use Rattle.std.specs.List.{flat_map, AllByRecursion}
use Rattle.zb_numbers.specs.Fronts.{ReadsFront, IsPrefixFree}

-- the first value and what stands behind it
heads : {V : Type 0} (Is : V → Type 0) (spell : V → List ℕ) → IsPrefixFree Is spell → (x y : V) (a b r s : List ℕ) → Is x → Is y
    → (spell x ++ a) ++ r ≡ (spell y ++ b) ++ s → (x ≡ y) × (a ++ r ≡ b ++ s)
heads Is spell free x y a b r s h g e = free x y (a ++ r) (b ++ s) h g (sym (append_assoc (spell x) a r) ∙ e ∙ append_assoc (spell y) b s)

-- as many values are the same where the same bytes stand first
pub many_once : {V : Type 0} (Is : V → Type 0) (spell : V → List ℕ) → IsPrefixFree Is spell → (xs ys : List V) (r s : List ℕ)
    → AllByRecursion Is xs → AllByRecursion Is ys → length xs ≡ length ys → flat_map spell xs ++ r ≡ flat_map spell ys ++ s → (xs ≡ ys) × (r ≡ s)
many_once Is spell free [] [] r s h g n e = (refl, e)
many_once Is spell free [] (y ∷ ys) r s h g n e = absurd (omega arith)
many_once Is spell free (x ∷ xs) [] r s h g n e = absurd (omega arith)
many_once Is spell free (x ∷ xs) (y ∷ ys) r s h g n e =
    let first = heads Is spell free x y (flat_map spell xs) (flat_map spell ys) r s h.0 g.0 e in
    let others = many_once Is spell free xs ys r s h.1 g.1 (omega arith) first.1 in
    (λ i. first.0 i ∷ others.0 i, others.1)

-- no more values stand there than were found, where none stands behind them
pub none_more : {V : Type 0} (Is : V → Type 0) (spell : V → List ℕ) → IsPrefixFree Is spell → (found xs : List V) (rest r : List ℕ)
    → AllByRecursion Is found → AllByRecursion Is xs → length found < length xs → flat_map spell xs ++ r ≡ flat_map spell found ++ rest → ReadsFront Is spell rest None → ⊥
none_more Is spell free found [] rest r h g n e none = omega arith
none_more Is spell free [] (x ∷ xs) rest r h g n e none = none x (flat_map spell xs ++ r) g.0 (sym (append_assoc (spell x) (flat_map spell xs) r) ∙ e)
none_more Is spell free (y ∷ found) (x ∷ xs) rest r h g n e none =
    none_more Is spell free found xs rest r h.1 g.1 (omega arith) (heads Is spell free x y (flat_map spell xs) (flat_map spell found) r rest g.0 h.0 e).1 none
