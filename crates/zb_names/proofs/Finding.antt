-- What is found at a path, and the order the other way round.
use Rattle.std.proofs.Common.{◌≡◌, ℕ, true, false, cond, ◌||◌, List, [], ◌∷◌, Some, is_some, refl, ap, ◌∙◌}
use Rattle.std.specs.declared.cmp.Ordering.{Ordering}
use Rattle.std.specs.Ordering.{nat_cmp, ordering_reverse}
use Rattle.std.specs.Cmp.Lexicographic.{slice_cmp}
use Rattle.std.specs.Str.{bytes_eq}
use Rattle.std.proofs.lemmas.Cmp.{nat_list_cmp_total}
use Rattle.zb_types.specs.Names.{Entry, find, has}

pub has-find : (path : List ℕ) (es : List (List ℕ × Entry)) → has path es ≡ is_some (find path es)
has-find path [] = refl
has-find path (e ∷ es) = elim (bytes_eq path e.0) as (λ b. (b || has path es) ≡ is_some (cond b (Some e.1) (find path es))) [ true ↦ refl | false ↦ has-find path es ]

-- the order the other way round
pub less_back : (p q : List ℕ) (o : Ordering) → slice_cmp nat_cmp p q ≡ o → slice_cmp nat_cmp q p ≡ ordering_reverse o
less_back p q o e = nat_list_cmp_total.antisymm q p ∙ ap ordering_reverse e
