use Rattle.std.proofs.Common.{[], sym, subst}
use Rattle.zb_log_tables.specs.HeldStripes.{IsInOrder}
use Rattle.zb_log_tables.proofs.Stripes.{order_from}
use Rattle.zb_log_tables.proofs.held.HeldTable.new.Goals as goal

pub invariant_of-result : goal.invariant_of-result
invariant_of-result c = subst IsInOrder (sym c.new.ensures.items) (order_from [] tt)
