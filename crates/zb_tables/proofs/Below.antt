-- What is found below a number.
use Rattle.std.proofs.Common.{◌≡◌, ℕ, ◌<◌, ◌≤◌, List, [], ◌∷◌, None, refl, arith}
use Rattle.std.proofs.lemmas.Bool.Decides.{nat_tests}
use Rattle.zb_types.specs.declared.ids.Ptr.{Ptr}
use Rattle.zb_types.specs.Keyed.{look}
use Rattle.zb_tables.specs.Fold.{below}

pub look-kept : (n k : ℕ) (es : List (ℕ × Ptr)) → k < n → look k (below n es) ≡ look k es
look-kept n k [] lt = refl
look-kept n k (e ∷ es) lt = grind (arith, nat_tests, look-kept n k es lt)

pub look-cut : (n k : ℕ) (es : List (ℕ × Ptr)) → n ≤ k → look k (below n es) ≡ None
look-cut n k [] le = refl
look-cut n k (e ∷ es) le = grind (arith, nat_tests, look-cut n k es le)
