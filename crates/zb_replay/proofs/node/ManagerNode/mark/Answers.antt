use Rattle.std.proofs.Common.{arith, ap, refl, subst, sym}
use Rattle.zb_tables.specs.Fold.{with_members}
use Rattle.zb_tables.specs.Taking.{IsState, Sizes, no_batch}
use Rattle.zb_replay.specs.Nodes.{SeenNode}
use Rattle.zb_replay.proofs.Leading.{mark_leads}
use Rattle.zb_replay.proofs.Under.{node_after, node_before}
use Rattle.zb_replay.proofs.node.ManagerNode.mark.Goals as goal

pub returns-in-Err-clause-told : goal.returns-in-Err-clause-told
returns-in-Err-clause-told g c = rw (← c.self.view_is) (λ told contents st.
    let t = c.self.inside.manager.tables in
    let state = subst (λ (z : Sizes). IsState z.servers c.args.members.state) c.self.invariant.system (subst (λ (n : SeenNode). IsState n.manager.sizes.servers c.args.members.state) (sym c.self.view_is) c.requires.state) in
    let leads = mark_leads c.self.inside.platter contents t c.args.members state (omega (arith, c.requires.generation, ap (λ (n : SeenNode). n.manager.tables.members.generation) c.self.view_is)) c.requires.last in
    node_before c.in-Err.fault c.self.inside.platter.root.geo _ c.enter.new.platter contents t (with_members t c.args.members) _ (g.B.Bay.meaning c.args.bay.now) (g.B.Bay.meaning c.enter.new.bay)
    (c.in-Err.ensures.told told contents (with_members t c.args.members) no_batch st leads) (λ fine. fine) refl refl)

pub returns-clause-told : goal.returns-clause-told
returns-clause-told g c = rw (← c.self.view_is) (λ told contents st.
    let t = c.self.inside.manager.tables in
    let state = subst (λ (z : Sizes). IsState z.servers c.args.members.state) c.self.invariant.system (subst (λ (n : SeenNode). IsState n.manager.sizes.servers c.args.members.state) (sym c.self.view_is) c.requires.state) in
    let leads = mark_leads c.self.inside.platter contents t c.args.members state (omega (arith, c.requires.generation, ap (λ (n : SeenNode). n.manager.tables.members.generation) c.self.view_is)) c.requires.last in
    node_after c.self.inside.platter.root.geo _ c.enter.new.platter contents t (with_members t c.args.members) _ (g.B.Bay.meaning c.args.bay.now) (g.B.Bay.meaning c.enter.new.bay)
    (c.in_default.ensures.told told contents (with_members t c.args.members) no_batch st leads) refl c.set_members.ensures.tables)
