use Rattle.std.specs.List.Sorted.{IsStrictlySortedBy}
use Rattle.zb_names.proofs.names.Names.new.Goals as goal

pub of-requires : goal.of-requires
unfolding IsStrictlySortedBy
of-requires c = tt
