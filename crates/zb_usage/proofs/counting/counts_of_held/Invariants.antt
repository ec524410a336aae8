use Rattle.std.proofs.Common.{◌≡◌, ℕ, drop}
use Rattle.zb_types.specs.declared.ids.LogId.{LogId}
use Rattle.zb_tables.specs.Tables.{held_at}
use Rattle.zb_usage.specs.Seen.{count_at, if_held}
use Rattle.zb_usage.proofs.Counted.{held_or}
use Rattle.zb_usage.proofs.counting.counts_of_held.Given as goal

abbrev pub invariant-loop-stripe : goal.invariant-loop-stripe
invariant-loop-stripe l =
    (log : LogId) (stripe : ℕ) → held_or (held_at log stripe (drop l.stripe-index l.held)) (count_at l.counts.entries (log.0, stripe)) (count_at l.kept.entries (log.0, stripe))
    ≡ if_held (held_at log stripe l.held) (count_at l.counts.entries (log.0, stripe))
