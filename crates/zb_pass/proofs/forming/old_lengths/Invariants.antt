use Rattle.std.proofs.Common.{◌≡◌, take}
use Rattle.zb_pass.specs.Moving.{old_lengths}
use Rattle.zb_pass.proofs.forming.old_lengths.Given as goal

abbrev pub invariant-loop-body : goal.invariant-loop-body
invariant-loop-body l = l.lens.items ≡ old_lengths (take l.body-index l.live)
