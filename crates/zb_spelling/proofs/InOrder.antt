-- Items that rise from one to the next rise as a whole.
use Rattle.std.proofs.Common.{◌≡◌, ℕ, true, List, [], ◌∷◌, refl, ap, arith}
use Rattle.std.specs.Prelude.{map}
use Rattle.std.specs.List.{AllByRecursion}
use Rattle.std.specs.List.Sorted.{IsStrictlySortedBy}
use Rattle.std.specs.Map.{keys_of}
use Rattle.std.specs.Ordering.{nat_cmp, is_lt}
use Rattle.std.specs.declared.cmp.Ordering.{Ordering}
use Rattle.std.specs.declared.cmp.Ordering.TheVariants.{Less, Equal, Greater}
use Rattle.std.proofs.lemmas.Bool.{and_parts, and_from}
use Rattle.std.proofs.lemmas.Bool.Decides.{nat_tests}
use Rattle.zb_tables.specs.Checkpoint.{held_cmp}
use Rattle.zb_spelling.specs.Limits.{IsTransitive, rise}

is_less : (o : Ordering) → is_lt o ≡ true → o ≡ Less
is_less Less h = refl
is_less Equal h = absurd cc
is_less Greater h = absurd cc

all_behind : {K : Type 0} (order : K → K → Ordering) → IsTransitive order → (key next : K) (more : List K) → order key next ≡ Less
    → AllByRecursion (λ k. order next k ≡ Less) more → AllByRecursion (λ k. order key k ≡ Less) more
all_behind order trans key next [] less all = tt
all_behind order trans key next (k ∷ more) less all = (trans key next k less all.0, all_behind order trans key next more less all.1)

pub sorted_from_rise : {K : Type 0} (order : K → K → Ordering) → IsTransitive order → (keys : List K) → rise order keys ≡ true → IsStrictlySortedBy order keys
unfolding IsStrictlySortedBy
sorted_from_rise order trans [] h = tt
sorted_from_rise order trans (key ∷ []) h = (tt, tt)
sorted_from_rise order trans (key ∷ (next ∷ more)) h =
    let parts = and_parts (is_lt (order key next)) (rise order (next ∷ more)) h in
    let less = is_less (order key next) parts.0 in
    let rest = sorted_from_rise order trans (next ∷ more) parts.1 in
    ((less, all_behind order trans key next more less rest.0), rest)

pub rise_from_sorted : {K : Type 0} (order : K → K → Ordering) (keys : List K) → IsStrictlySortedBy order keys → rise order keys ≡ true
unfolding IsStrictlySortedBy
rise_from_sorted order [] sorted = refl
rise_from_sorted order (key ∷ []) sorted = refl
rise_from_sorted order (key ∷ (next ∷ more)) sorted = and_from (is_lt (order key next)) (rise order (next ∷ more)) (ap is_lt sorted.0.0) (rise_from_sorted order (next ∷ more) sorted.1)

pub numbers_transitive : IsTransitive nat_cmp
numbers_transitive a b c p q = grind (arith, nat_tests)

pub held_transitive : IsTransitive held_cmp
held_transitive a b c p q = grind (arith, nat_tests)

-- the keys of what is shown
pub keys-shown : {A B : Type 0} (show : A → ℕ × B) (xs : List A) → keys_of (map show xs) ≡ map (λ x. (show x).0) xs
keys-shown show [] = refl
keys-shown show (x ∷ xs) = ap (λ (ks : List ℕ). (show x).0 ∷ ks) (keys-shown show xs)

pub keys-map : {B : Type 0} (xs : List (ℕ × B)) → keys_of xs ≡ map (λ x. x.0) xs
keys-map [] = refl
keys-map (x ∷ xs) = ap (λ (ks : List ℕ). x.0 ∷ ks) (keys-map xs)
