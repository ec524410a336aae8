use Rattle.std.proofs.Common.{◌≡◌, fold, drop}
use Rattle.zb_log.specs.Placing.{with_block}
use Rattle.zb_log.proofs.laying.Laying.add_blocks.Given as goal

abbrev pub invariant-loop-len : goal.invariant-loop-len
invariant-loop-len l = record {
  room : l.self.room ≡ l.fn.self.room;
  rest : fold with_block l.self (drop l.len-index l.blocks) ≡ fold with_block l.fn.self l.blocks;
}
