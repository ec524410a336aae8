use Rattle.std.proofs.Common.{refl}
use Rattle.zb_replay.proofs.Under.{node_placed}
use Rattle.zb_replay.proofs.node.ManagerNode.checkpoint.Goals as goal

pub returns-clause-told : goal.returns-clause-told
returns-clause-told g c = rw (← c.self.view_is) (λ told contents st.
    node_placed c.cut.result c.self.inside.platter.root.geo _ contents c.self.inside.manager.tables (g.B.Bay.meaning c.args.bay.now) (g.B.Bay.meaning c.cut.new.bay) (c.cut.ensures.told told contents st) refl)
