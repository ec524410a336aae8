use Rattle.std.proofs.Common.{◌≡◌, ◌≤◌}
use Rattle.zb_log.specs.Placing.{meta_end, last_stripe}
use Rattle.zb_log.proofs.places.meta_end.Given as goal

abbrev pub invariant-loop-left : goal.invariant-loop-left
invariant-loop-left l = record {
  end : meta_end l.room l.at l.left ≡ meta_end l.room l.initial.at l.len;
  within : l.at.offset ≤ l.room;
  lasting : l.at.stripe ≤ last_stripe;
}

abbrev pub decreases-loop-left : goal.decreases-loop-left
decreases-loop-left l = l.left
