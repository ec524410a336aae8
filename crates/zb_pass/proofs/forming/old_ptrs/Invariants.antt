use Rattle.std.proofs.Common.{◌≡◌, take}
use Rattle.zb_pass.specs.Moving.{old_ptrs}
use Rattle.zb_pass.proofs.forming.old_ptrs.Given as goal

abbrev pub invariant-loop-body : goal.invariant-loop-body
invariant-loop-body l = l.ptrs.items ≡ old_ptrs (take l.body-index l.live)
