use Rattle.std.proofs.Common.{◌≡◌, take, map}
use Rattle.std.specs.Prelude.{filter}
use Rattle.zb_basis.specs.Wanting.{reaches}
use Rattle.zb_forming.proofs.reading.wanted_in.Given as goal

abbrev pub invariant-loop-entry : goal.invariant-loop-entry
invariant-loop-entry l = l.ptrs.items ≡ map (λ entry. entry.1) (filter (reaches l.block l.from l.to) (take l.entry-index l.found.blocks))
