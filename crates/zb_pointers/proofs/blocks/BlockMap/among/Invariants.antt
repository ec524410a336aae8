use Rattle.std.proofs.Common.{◌≡◌, ◌+◌, drop}
use Rattle.zb_tables.specs.Finding.{among}
use Rattle.zb_pointers.proofs.Places.{AreLeft}
use Rattle.zb_pointers.proofs.blocks.BlockMap.among.Given as goal

abbrev pub invariant-loop-number : goal.invariant-loop-number
invariant-loop-number l = record {
  end : l.end ≡ l.first + l.count;
  left : AreLeft l.first l.count l.list (drop l.number-index l.rest) (among l.first l.count l.self.pairs);
}
