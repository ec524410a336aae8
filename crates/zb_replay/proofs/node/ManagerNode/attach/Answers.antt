use Rattle.std.proofs.Common.{Err, Ok, Some, arith, ap, refl, sym, ◌∙◌, ◌≡◌, ◌≤◌}
use Rattle.zb_entries.specs.declared.entry.Entry.TheVariants.{Attach}
use Rattle.zb_tables.specs.Tables.{Tables}
use Rattle.zb_tables.specs.Fold.{attached}
use Rattle.zb_tables.specs.Taking.{Sizes, no_batch}
use Rattle.zb_replay.specs.Nodes.{SeenNode}
use Rattle.zb_replay.proofs.Leading.{attach_leads}
use Rattle.zb_replay.proofs.Under.{entered_as, entered_same, node_after, node_before, node_still, placed_same, same_stop, told_as}
use Rattle.zb_replay.proofs.node.ManagerNode.attach.Goals as goal

pub returns-then-next-ge-LAST_LOG-clause-told : goal.returns-then-next-ge-LAST_LOG-clause-told
returns-then-next-ge-LAST_LOG-clause-told g c told contents st = node_still c.args.self.now c.args.self.now.platter contents c.args.self.now.manager.tables _ _ (g.B.Bay.meaning c.args.bay.now) st refl refl

pub returns-in_err-room-clause-told : goal.returns-in_err-room-clause-told
returns-in_err-room-clause-told g c = rw (← c.self.view_is) (λ told contents st.
    node_still _ c.self.inside.platter contents c.self.inside.manager.tables _ _ (g.B.Bay.meaning c.args.bay.now) st refl c.room.ensures.same.tables)

pub returns-in-Err-clause-told : goal.returns-in-Err-clause-told
returns-in-Err-clause-told g c = rw (← c.self.view_is) (λ told contents st.
    let t = c.self.inside.manager.tables in
    let n = c.next_log-next.result in
    let next : n ≡ t.next_log = c.next_log-next.ensures in
    let after = attached t c.args.owner (record { 0 = n }) in
    let owner : c.args.owner ≤ c.self.inside.platter.root.geo.clients = omega (arith, c.requires.owner, ap (λ (s : SeenNode). s.manager.sizes.clients) c.self.view_is, ap (λ (z : Sizes). z.clients) c.self.invariant.system) in
    let leads = attach_leads c.self.inside.platter contents t c.args.owner n next (omega (arith, c.if-next-ge-LAST_LOG.false)) owner in
    told_as c.self.inside.platter.root.geo _ contents t _ _ _ (g.B.Bay.meaning c.args.bay.now) (g.B.Bay.meaning c.enter.new.bay) (λ i. Some (attached t c.args.owner (record { 0 = sym next i })))
    (node_before c.in-Err.fault c.self.inside.platter.root.geo _ c.enter.new.platter contents t after _ (g.B.Bay.meaning c.args.bay.now) (g.B.Bay.meaning c.enter.new.bay)
    (entered_as (Err c.in-Err.fault) c.self.inside.platter.root.geo c.self.inside.platter c.enter.new.platter contents c.room.new.self.tables t after _ no_batch (g.B.Bay.meaning c.args.bay.now) (g.B.Bay.meaning c.enter.new.bay) c.room.ensures.same.tables
    (c.in-Err.ensures.told told contents after no_batch) st leads)
    (same_stop (Unit {0}) (Unit {0}) c.in-Err.fault) refl c.room.ensures.same.tables))

pub returns-clause-told : goal.returns-clause-told
returns-clause-told g c = rw (← c.self.view_is) (λ told contents st.
    let t = c.self.inside.manager.tables in
    let n = c.next_log-next.result in
    let next : n ≡ t.next_log = c.next_log-next.ensures in
    let after = attached t c.args.owner (record { 0 = n }) in
    let owner : c.args.owner ≤ c.self.inside.platter.root.geo.clients = omega (arith, c.requires.owner, ap (λ (s : SeenNode). s.manager.sizes.clients) c.self.view_is, ap (λ (z : Sizes). z.clients) c.self.invariant.system) in
    let leads = attach_leads c.self.inside.platter contents t c.args.owner n next (omega (arith, c.if-next-ge-LAST_LOG.false)) owner in
    let log : c.attach.result.0 ≡ n = c.attach.ensures.log ∙ ap (λ (u : Tables). u.next_log) c.room.ensures.same.tables ∙ sym next in
    let tables : c.attach.new.self.tables ≡ after = c.attach.ensures.tables ∙ (λ i. attached (c.room.ensures.same.tables i) c.args.owner (record { 0 = log i })) in
    told_as c.self.inside.platter.root.geo _ contents t _ _ _ (g.B.Bay.meaning c.args.bay.now) (g.B.Bay.meaning c.enter.new.bay) (λ i. Some (attached t c.args.owner (record { 0 = sym next i })))
    (node_after c.self.inside.platter.root.geo _ c.enter.new.platter contents t after _ (g.B.Bay.meaning c.args.bay.now) (g.B.Bay.meaning c.enter.new.bay)
    (entered_as (Ok tt) c.self.inside.platter.root.geo c.self.inside.platter c.enter.new.platter contents c.room.new.self.tables t after _ no_batch (g.B.Bay.meaning c.args.bay.now) (g.B.Bay.meaning c.enter.new.bay) c.room.ensures.same.tables
    (c.in_default.ensures.told told contents after no_batch) st leads)
    refl tables))

pub returns-in-Err-clause-placed : goal.returns-in-Err-clause-placed
returns-in-Err-clause-placed g c = rw (← c.self.view_is) (placed_same _ _ _ _ c.room.ensures.same.tables c.in-Err.ensures.placed)

pub returns-clause-entered : goal.returns-clause-entered
returns-clause-entered g c = rw (← c.self.view_is) (entered_same _ _ _ _ _ _ c.room.ensures.same.tables (λ i. Attach c.args.owner (record { 0 = c.next_log-next.ensures i })) c.in_default.ensures.entered)
