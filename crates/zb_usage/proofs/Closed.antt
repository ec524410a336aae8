-- A log that ended goes on in no stripe.
use Rattle.std.proofs.Common.{◌≡◌, List, [], ◌∷◌, refl, arith, inl, inr}
use Rattle.std.specs.Prelude.{not, filter}
use Rattle.std.specs.List.{list_any}
use Rattle.std.proofs.lemmas.Bool.{cases_Bool}
use Rattle.zb_types.specs.declared.tables.HeldUse.{HeldUse}
use Rattle.zb_types.specs.declared.tables.LogUse.{LogUse}
use Rattle.zb_usage.specs.Uses.{closed, goes_on_in}

any_live : (h : HeldUse) (logs : List LogUse) → list_any (goes_on_in h) (filter (λ l. l.live) logs) ≡ list_any (goes_on_in h) logs
any_live h [] = refl
any_live h (l ∷ ls) = elim (cases_Bool l.live) as (λ _. list_any (goes_on_in h) (filter (λ l. l.live) (l ∷ ls)) ≡ list_any (goes_on_in h) (l ∷ ls)) [
  | inl t ↦ grind (arith, any_live h ls)
  | inr f ↦ grind (arith, any_live h ls)
]

-- so the live ones decide
pub closed_by_live : (logs : List LogUse) (held : List HeldUse) → closed (filter (λ l. l.live) logs) held ≡ closed logs held
closed_by_live logs held = λ i. filter (λ h. not (any_live h logs i)) held
