use Rattle.std.proofs.Common.{Ok}
use Rattle.zb_replay.proofs.Under.{place_still}
use Rattle.zb_replay.proofs.entering.make_place.Goals as goal

pub returns-then-has_place-clause-told : goal.returns-then-has_place-clause-told
returns-then-has_place-clause-told g c told contents st = place_still (Ok tt) c.args.platter.now contents c.args.manager.now.tables (g.B.Bay.meaning c.args.bay.now) st
