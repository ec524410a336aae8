use Rattle.zb_names.specs.Shown.{seen}
use Rattle.zb_names.proofs.Together.{lie_alone}
use Rattle.zb_names.proofs.names.Names.prepare_new.Goals as goal

pub invariant_of-result : goal.invariant_of-result
invariant_of-result c = rw c.new.ensures.items (lie_alone (c.in_ok-copy_of.field-0, seen c.args.entry))
