use Rattle.std.proofs.Common.{◌≡◌, length, map, take}
use Rattle.zb_holding.specs.Exclusive.{greatest}
use Rattle.zb_parity.proofs.longest.Given as goal

abbrev pub invariant-loop-share : goal.invariant-loop-share
invariant-loop-share l = l.longest ≡ greatest (map length (take l.share-index l.shares))
