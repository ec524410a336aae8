use Rattle.std.proofs.Common.{arith}
use Rattle.zb_slot_map.proofs.Fencing.{fenced}
use Rattle.zb_slot_map.proofs.super_cell.fence_at.Goals as goal

pub returns-clause-told : goal.returns-clause-told
returns-clause-told g c told kept = fenced c.args.geo.now kept.tidy (c.set_super.ensures.told told kept.settled (omega (arith, kept.tidy.large)))
