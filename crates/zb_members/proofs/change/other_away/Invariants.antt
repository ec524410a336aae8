use Rattle.std.proofs.Common.{◌≡◌, ◌+◌, length}
use Rattle.zb_members.specs.Away.{first_away}
use Rattle.zb_members.proofs.change.other_away.Given as goal

abbrev pub invariant-loop-rest : goal.invariant-loop-rest
invariant-loop-rest l = record {
  same : first_away l.state l.server.0 l.other l.rest ≡ first_away l.state l.server.0 1 l.serving;
  count : l.other + length l.rest ≡ 1 + length l.serving;
}

abbrev pub decreases-loop-rest : goal.decreases-loop-rest
decreases-loop-rest l = length l.rest
