use Rattle.std.proofs.Common.{◌≡◌, drop}
use Rattle.zb_tables.specs.Tables.{end_at}
use Rattle.zb_fetching.proofs.servers.end_in.Given as goal

abbrev pub invariant-loop-one : goal.invariant-loop-one
invariant-loop-one l = end_at (drop l.one-index l.held) l.log l.stripe ≡ end_at l.held l.log l.stripe
