use Rattle.std.proofs.Common.{◌≡◌, ℕ, ◌+◌, ◌%◌, ◌^◌, drop}
use Rattle.zb_types.specs.declared.ids.LogId.{LogId}
use Rattle.zb_usage.specs.Uses.{named_bytes}
use Rattle.zb_usage.specs.Seen.{count_at}
use Rattle.zb_usage.proofs.counting.count_live.Given as goal

abbrev pub invariant-loop-body : goal.invariant-loop-body
invariant-loop-body l =
    (log : LogId) (stripe : ℕ) → (count_at l.counts.entries (log.0, stripe) + named_bytes log stripe (drop l.body-index l.live)) % 2 ^ 32 ≡ named_bytes log stripe l.live % 2 ^ 32
