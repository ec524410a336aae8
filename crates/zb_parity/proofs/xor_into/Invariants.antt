use Rattle.std.proofs.Common.{length, ◌-◌, ◌≡◌, ◌≤◌, take}
use Rattle.zb_holding.specs.Exclusive.{xored}
use Rattle.zb_parity.proofs.xor_into.Given as goal

abbrev pub invariant-loop-at : goal.invariant-loop-at
invariant-loop-at l = (l.into ≡ xored l.fn.into (take l.at l.from)) × (l.at ≤ length l.from)

abbrev pub decreases-loop-at : goal.decreases-loop-at
decreases-loop-at l = length l.from - l.at

abbrev pub invariant-loop-at-2 : goal.invariant-loop-at-2
invariant-loop-at-2 l = (l.into ≡ xored l.fn.into (take l.at l.from)) × (l.at ≤ length l.from)

abbrev pub decreases-loop-at-2 : goal.decreases-loop-at-2
decreases-loop-at-2 l = length l.from - l.at
