-- What is true of each element of a list once one of them is another.
use Rattle.std.proofs.Common.{◌≡◌, ◌≢◌, ℕ, zero, suc, List, [], ◌∷◌, Some, refl, subst, arith}
use Rattle.std.specs.Prelude.{slice_get, slice_set}
use Rattle.std.proofs.lemmas.Option.{none-some, same_Some}

pub each_place : {A : Type 0} (P : ℕ → A → Type 0) (xs : List A) (i : ℕ) (after : A) → ((x : A) → slice_get xs i ≡ Some x → P i after)
    → ((j : ℕ) (x : A) → j ≢ i → slice_get xs j ≡ Some x → P j x) → (j : ℕ) (x : A) → slice_get (slice_set xs i after) j ≡ Some x → P j x
each_place P [] i after own others j x e = absurd (none-some x e)
each_place P (y ∷ ys) zero after own others zero x e = subst (P 0) (same_Some after x e) (own y refl)
each_place P (y ∷ ys) zero after own others (suc j) x e = others (suc j) x (λ z. absurd (omega (arith, z))) e
each_place P (y ∷ ys) (suc i) after own others zero x e = others 0 x (λ z. absurd (omega (arith, z))) e
each_place P (y ∷ ys) (suc i) after own others (suc j) x e =
    each_place (λ k. P (suc k)) ys i after (λ z is. own z is) (λ k z ne at. others (suc k) z (λ same. ne (omega (arith, same))) at) j x e
