use Rattle.std.proofs.Common.{arith}
use Rattle.zb_slots.proofs.Shares.{freed}
use Rattle.zb_slots.proofs.slot.free.Goals as goal

pub returns-clause-told : goal.returns-clause-told
returns-clause-told g c told ready = freed (omega (arith, c.args.geo.now.limits.servers_high)) (c.set_header.ensures.told told ready.settled (omega (arith, ready.within)))
