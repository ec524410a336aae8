-- A path compared with one in two parts.
use Rattle.std.proofs.Common.{◌≡◌, ℕ, ◌<◌, List, [], ◌∷◌, ◌++◌, length, refl, ap, ◌∙◌, arith}
use Rattle.std.specs.declared.cmp.Ordering.{Ordering}
use Rattle.std.specs.declared.cmp.Ordering.TheVariants.{Less, Equal, Greater}
use Rattle.std.specs.Ordering.{nat_cmp, ordering_then}
use Rattle.std.specs.Cmp.Lexicographic.{slice_cmp}

-- where the path is shorter than the first part, that decides
pub cmp_short : (p head tail : List ℕ) → length p < length head → slice_cmp nat_cmp p (head ++ tail) ≡ slice_cmp nat_cmp p head
cmp_short p [] tail short = absurd (omega arith)
cmp_short [] (h ∷ head) tail short = refl
cmp_short (b ∷ p) (h ∷ head) tail short = ap (ordering_then (nat_cmp b h)) (cmp_short p head tail (omega arith))

then_then : (a b c : Ordering) → ordering_then a (ordering_then b c) ≡ ordering_then (ordering_then a b) c
then_then Less b c = refl
then_then Equal b c = refl
then_then Greater b c = refl

-- else its first bytes decide, and what is behind them where these are the same
pub cmp_parts : (front rest head tail : List ℕ) → length front ≡ length head → slice_cmp nat_cmp (front ++ rest) (head ++ tail) ≡ ordering_then (slice_cmp nat_cmp front head) (slice_cmp nat_cmp rest tail)
cmp_parts [] rest [] tail long = refl
cmp_parts [] rest (h ∷ head) tail long = absurd (omega arith)
cmp_parts (b ∷ front) rest [] tail long = absurd (omega arith)
cmp_parts (b ∷ front) rest (h ∷ head) tail long =
    ap (ordering_then (nat_cmp b h)) (cmp_parts front rest head tail (omega arith)) ∙ then_then (nat_cmp b h) (slice_cmp nat_cmp front head) (slice_cmp nat_cmp rest tail)
