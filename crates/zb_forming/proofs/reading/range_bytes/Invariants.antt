use Rattle.std.proofs.Common.{◌≡◌, ◌-◌, ◌≤◌, max}
use Rattle.zb_forming.specs.Drafts.{known}
use Rattle.zb_forming.specs.Ranges.{bytes_in}
use Rattle.zb_forming.proofs.reading.range_bytes.Given as goal

abbrev pub invariant-loop-at : goal.invariant-loop-at
invariant-loop-at l = (l.bytes.items ≡ bytes_in l.block (known l.fetched) l.found l.from l.at) × (l.from ≤ l.at) × (l.at ≤ max l.from l.to)

abbrev pub decreases-loop-at : goal.decreases-loop-at
decreases-loop-at l = l.to - l.at
