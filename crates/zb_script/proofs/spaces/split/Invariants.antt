use Rattle.std.proofs.Common.{◌≡◌, true, take}
use Rattle.zb_script.specs.Spaces.{is_word}
use Rattle.zb_script.proofs.spaces.split.Given as goal

abbrev pub invariant-loop-i : goal.invariant-loop-i
invariant-loop-i l = is_word (take l.i l.bytes) ≡ true
