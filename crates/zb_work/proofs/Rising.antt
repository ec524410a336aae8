-- Blocks by rising numbers, pair by pair.
use Rattle.std.proofs.Common.{ℕ, zero, suc, ◌+◌, ◌<◌, ◌≤◌, List, [], ◌∷◌, length, get_or, arith}
use Rattle.std.specs.Prelude.{AllPairs}
use Rattle.zb_types.specs.declared.ids.Ptr.{Ptr}
use Rattle.zb_work.specs.Finding.{RisesFrom}

above : (least : ℕ) (bs : List (ℕ × Ptr)) (k : ℕ) (d : ℕ × Ptr) → RisesFrom least bs → k < length bs → least ≤ (get_or bs k d).0
above least [] k d r h = absurd (omega arith)
above least (b ∷ bs) zero d r h = r.0
above least (b ∷ bs) (suc k) d r h = let w = above (b.0 + 1) bs k d r.1 (omega arith) in let v = r.0 in omega arith

pair : (least : ℕ) (bs : List (ℕ × Ptr)) (i j : ℕ) (d : ℕ × Ptr) → RisesFrom least bs → i < j → j < length bs → (get_or bs i d).0 < (get_or bs j d).0
pair least [] i j d r f h = absurd (omega arith)
pair least (b ∷ bs) zero zero d r f h = absurd (omega arith)
pair least (b ∷ bs) (suc i) zero d r f h = absurd (omega arith)
pair least (b ∷ bs) zero (suc j) d r f h = let w = above (b.0 + 1) bs j d r.1 (omega arith) in omega arith
pair least (b ∷ bs) (suc i) (suc j) d r f h = pair (b.0 + 1) bs i j d r.1 (omega arith) (omega arith)

-- each number is less than those behind it
pub rise_pairs : (least : ℕ) (bs : List (ℕ × Ptr)) → RisesFrom least bs → AllPairs (λ (one other : ℕ × Ptr). one.0 < other.0) bs
rise_pairs least bs r = λ i j d f h. pair least bs i j d r f h

rises_from : (least : ℕ) (bs : List (ℕ × Ptr)) → ((k : ℕ) (d : ℕ × Ptr) → k < length bs → least ≤ (get_or bs k d).0) → ((i j : ℕ) (d : ℕ × Ptr) → i < j → j < length bs → (get_or bs i d).0 < (get_or bs j d).0) → RisesFrom least bs
rises_from least [] low pairs = tt
rises_from least (b ∷ bs) low pairs = (
  low 0 b (omega arith),
  rises_from (b.0 + 1) bs (λ k d below. let w : b.0 < (get_or bs k d).0 = pairs 0 (suc k) d (omega arith) (omega arith) in omega arith)
      (λ i j d f h. pairs (suc i) (suc j) d (omega arith) (omega arith)),
)

-- where each number is less than those behind it, they rise
pub pairs_rise : (bs : List (ℕ × Ptr)) → AllPairs (λ (one other : ℕ × Ptr). one.0 < other.0) bs → RisesFrom 0 bs
pairs_rise bs p = rises_from 0 bs (λ k d below. omega arith) (λ i j d f h. p i j d f h)
