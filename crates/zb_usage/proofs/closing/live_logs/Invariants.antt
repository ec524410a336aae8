use Rattle.std.proofs.Common.{◌≡◌, ◌++◌, drop}
use Rattle.std.specs.Prelude.{filter}
use Rattle.zb_usage.proofs.closing.live_logs.Given as goal

abbrev pub invariant-loop-log : goal.invariant-loop-log
invariant-loop-log l = l.live.items ++ filter (λ log. log.live) (drop l.log-index l.logs) ≡ filter (λ log. log.live) l.logs
