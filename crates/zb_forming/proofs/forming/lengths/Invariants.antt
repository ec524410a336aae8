use Rattle.std.proofs.Common.{◌≡◌, length, map, take}
use Rattle.zb_basis.specs.Operations.{short_length}
use Rattle.zb_forming.proofs.forming.lengths.Given as goal

abbrev pub invariant-loop-block : goal.invariant-loop-block
invariant-loop-block l = l.lens.items ≡ map (λ block. short_length (length block)) (take l.block-index l.blocks)
