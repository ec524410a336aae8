-- The greatest number of a first entry.
use Rattle.std.proofs.Common.{ℕ, zero, suc, ◌<◌, ◌≤◌, List, [], ◌∷◌, length, get_or, arith}
use Rattle.zb_usage.specs.declared.stripe_use.StripeUse.{StripeUse}
use Rattle.zb_usage.specs.Choosing.{newest}

-- no stripe of a list has a greater one
pub born_within : (list : List StripeUse) (i : ℕ) (d : StripeUse) → i < length list → (get_or list i d).born ≤ newest list
born_within [] i d lt = absurd (omega (arith, lt))
born_within (u ∷ us) zero d lt = omega arith
born_within (u ∷ us) (suc i) d lt = omega (arith, born_within us i d (omega (arith, lt)))
