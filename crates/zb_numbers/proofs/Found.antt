-- What a reader finds is what was spelled.
use Rattle.std.proofs.Common.{◌≡◌, ℕ, List, ◌++◌, Option, Some, None, sym, ◌∙◌}
use Rattle.zb_numbers.specs.Fronts.{ReadsFront, IsPrefixFree}

-- what is spelled is found, whatever follows
pub found_again : {V : Type 0} (Is : V → Type 0) (spell : V → List ℕ) → IsPrefixFree Is spell → (v : V) (rest bytes : List ℕ) (found : Option (V × List ℕ)) → Is v → spell v ++ rest ≡ bytes → ReadsFront Is spell bytes found → found ≡ Some (v, rest)
found_again Is spell free v rest bytes (Some found) is e h =
    let same = free found.0 v found.1 rest h.0 is (h.1 ∙ sym e) in
    λ i. Some (same.0 i, same.1 i)
found_again Is spell free v rest bytes None is e h = absurd (h v rest is e)
