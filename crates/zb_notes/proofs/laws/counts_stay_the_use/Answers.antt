use Rattle.std.proofs.Common.{◌≡◌, ℕ, ◌+◌, ◌%◌, ◌^◌, sym, ◌∙◌, arith}
use Rattle.zb_usage.proofs.Counted.{count_mod}
use Rattle.zb_usage.specs.Seen.{counted}
use Rattle.zb_notes.specs.Notable.{all_come, all_gone}
use Rattle.zb_usage.specs.Uses.{stripe_use}
use Rattle.zb_notes.proofs.laws.counts_stay_the_use.Goals as goal

stays : (was after came went old new : ℕ) → old ≡ was % 2 ^ 32 → after + went ≡ was + came → (new + went) % 2 ^ 32 ≡ (old + came) % 2 ^ 32 → new % 2 ^ 32 ≡ after % 2 ^ 32
stays was after came went old new e sum wraps = omega arith

pub returns : goal.returns
returns c t after old new notes counts sum wraps log stripe =
    sym (count_mod new.counts (log.0, stripe))
    ∙ stays (stripe_use t log stripe) (stripe_use after log stripe) (all_come log stripe notes) (all_gone log stripe notes) (counted old log stripe) (counted new log stripe) (counts log stripe) (sum log stripe) (wraps log stripe)
