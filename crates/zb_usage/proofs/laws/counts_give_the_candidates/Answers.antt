use Rattle.std.proofs.Common.{◌≡◌, ℕ, ◌%◌, ◌^◌, ◌<◌, ap, ◌∙◌, arith}
use Rattle.zb_types.specs.declared.ids.LogId.{LogId}
use Rattle.zb_usage.specs.Uses.{candidates_of, closed, stripe_use}
use Rattle.zb_tables.specs.Finding.{status}
use Rattle.zb_usage.specs.Seen.{counted}
use Rattle.zb_usage.proofs.laws.counts_give_the_candidates.Goals as goal

small : (n m : ℕ) → n ≡ m % 2 ^ 32 → m < 2 ^ 32 → n ≡ m
small n m e below = omega arith

pub returns : goal.returns
returns c t usage counts below stripes =
    ap (candidates_of (counted usage)) stripes
    ∙ (λ i. candidates_of (λ (log : LogId) (stripe : ℕ). small (counted usage log stripe) (stripe_use t log stripe) (counts log stripe) (below log stripe) i) (closed (status t).logs t.held))
