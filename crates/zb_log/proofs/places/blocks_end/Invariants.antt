use Rattle.std.proofs.Common.{◌≡◌, ◌≤◌, drop}
use Rattle.zb_log.specs.Placing.{blocks_end, last_stripe}
use Rattle.zb_log.proofs.places.blocks_end.Given as goal

abbrev pub invariant-loop-len : goal.invariant-loop-len
invariant-loop-len l = record {
  end : blocks_end l.room l.at (drop l.len-index l.blocks) ≡ blocks_end l.room l.initial.at l.blocks;
  within : l.at.offset ≤ l.room;
  lasting : l.at.stripe ≤ last_stripe;
}
