-- Counts by log and stripe in an ordered map, and how they wrap.
use Rattle.std.proofs.Common.{◌≡◌, ℕ, ◌%◌, ◌^◌, cond, eqb, ◌&&◌, List, Option, Some, None, refl, sym, ap, ◌∙◌, arith}
use Rattle.std.specs.Prelude.{if◌then◌else◌, IsSome}
use Rattle.std.specs.Map.{lookup}
use Rattle.std.specs.BTreeMap.{is_at}
use Rattle.std.specs.Ordering.{nat_cmp, ordering_then, is_eq}
use Rattle.std.specs.Cmp.{tied_then}
use Rattle.std.proofs.lemmas.Bool.{false≢true}
use Rattle.std.proofs.lemmas.Option.{none-some}
use Rattle.std.proofs.lemmas.Bool.Decides.{nat_tests}
use Rattle.zb_types.specs.declared.tables.HeldUse.{HeldUse}
use Rattle.zb_usage.specs.Seen.{is_key, found_at, count_of, count_at}

abbrev Entries : Type 0
Entries = List ((ℕ × ℕ) × ℕ)

-- ---- a log and a stripe as a key

nat_is_eq : (x y : ℕ) → eqb x y ≡ is_eq (nat_cmp x y)
nat_is_eq x y = grind (arith, nat_tests)

key_at : (a b : ℕ × ℕ) → is_at (λ (q : ℕ × ℕ). ordering_then (nat_cmp a.0 q.0) (nat_cmp a.1 q.1)) b ≡ is_key a b
key_at a b = sym (tied_then (nat_cmp a.0 b.0) (nat_cmp a.1 b.1)) ∙ (λ i. sym (nat_is_eq a.0 b.0) i && sym (nat_is_eq a.1 b.1) i)

-- what stands under a key is what the ordered map has there
pub found_by : (counts : Entries) (a : ℕ × ℕ) → lookup (is_at (λ (q : ℕ × ℕ). ordering_then (nat_cmp a.0 q.0) (nat_cmp a.1 q.1))) counts ≡ found_at counts a
found_by counts a = ap (λ test. lookup test counts) (λ i q. key_at a q i)

-- the ordered map has a count under a key
pub put_at : (old new : Entries) (a : ℕ × ℕ) (value : Option ℕ)
    → ((q : ℕ × ℕ) → lookup (is_at (λ (r : ℕ × ℕ). ordering_then (nat_cmp q.0 r.0) (nat_cmp q.1 r.1))) new
    ≡ cond (is_at (λ (r : ℕ × ℕ). ordering_then (nat_cmp a.0 r.0) (nat_cmp a.1 r.1)) q) value (lookup (is_at (λ (r : ℕ × ℕ). ordering_then (nat_cmp q.0 r.0) (nat_cmp q.1 r.1))) old))
    → (q : ℕ × ℕ) → found_at new q ≡ (if is_key a q then value else found_at old q)
put_at old new a value at q = sym (found_by new q) ∙ at q ∙ (λ i. cond (key_at a q i) value (found_by old q i))

-- what isn't there isn't found
pub none_kept : (o : Option ℕ) → o ≡ None → IsSome o → ⊥
none_kept None e has = false≢true has
none_kept (Some n) e has = none-some n (sym e)

-- ---- counts

-- a count has 32 bits
pub count_mod : (counts : Entries) (q : ℕ × ℕ) → count_at counts q % 2 ^ 32 ≡ count_at counts q
count_mod counts q = of_found (found_at counts q)
  where
    of_found : (o : Option ℕ) → count_of o % 2 ^ 32 ≡ count_of o
    of_found None = refl
    of_found (Some n) = omega arith

-- ---- held stripes

-- of a stripe that is held the one count, of another the other
abbrev pub held_or : Option HeldUse → ℕ → ℕ → ℕ
held_or None one other = other
held_or (Some h) one other = one
