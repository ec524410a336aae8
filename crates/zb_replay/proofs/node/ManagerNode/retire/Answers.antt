use Rattle.std.proofs.Common.{refl, subst, sym, ◌≡◌, None}
use Rattle.zb_tables.specs.Fold.{after_retire}
use Rattle.zb_tables.specs.Taking.{no_batch}
use Rattle.zb_replay.specs.Answers.{retire_refusal}
use Rattle.zb_replay.specs.Nodes.{SeenNode}
use Rattle.zb_replay.proofs.Leading.{retire_leads}
use Rattle.zb_replay.proofs.Under.{node_after, node_before, node_still, retire_less}
use Rattle.zb_replay.proofs.node.ManagerNode.retire.Goals as goal

pub returns-in_err-may_retire-clause-told : goal.returns-in_err-may_retire-clause-told
returns-in_err-may_retire-clause-told g c told contents st = node_still c.args.self.now c.args.self.now.platter contents c.args.self.now.manager.tables _ _ (g.B.Bay.meaning c.args.bay.now) st refl refl

pub returns-in-Err-clause-told : goal.returns-in-Err-clause-told
returns-in-Err-clause-told g c = rw (← c.self.view_is) (λ told contents st.
    let t = c.self.inside.manager.tables in
    let after = after_retire t c.args.log c.args.stripe in
    let n : SeenNode = record { manager = c.self.inside.manager; platter = c.self.inside.platter } in
    let leads = retire_leads n contents c.args.log c.args.stripe (subst (λ (n : SeenNode). retire_refusal n c.args.log c.args.stripe ≡ None) (sym c.self.view_is) c.in_ok-may_retire.ensures.refused) in
    node_before c.in-Err.fault c.self.inside.platter.root.geo _ c.enter.new.platter contents t after _ (g.B.Bay.meaning c.args.bay.now) (g.B.Bay.meaning c.enter.new.bay)
    (c.in-Err.ensures.told told contents after no_batch st leads) (retire_less (Unit {0}) (Unit {0}) c.in-Err.fault c.retire_fault.result c.retire_fault.ensures) refl refl)

pub returns-clause-told : goal.returns-clause-told
returns-clause-told g c = rw (← c.self.view_is) (λ told contents st.
    let t = c.self.inside.manager.tables in
    let after = after_retire t c.args.log c.args.stripe in
    let n : SeenNode = record { manager = c.self.inside.manager; platter = c.self.inside.platter } in
    let leads = retire_leads n contents c.args.log c.args.stripe (subst (λ (n : SeenNode). retire_refusal n c.args.log c.args.stripe ≡ None) (sym c.self.view_is) c.in_ok-may_retire.ensures.refused) in
    node_after c.self.inside.platter.root.geo _ c.enter.new.platter contents t after _ (g.B.Bay.meaning c.args.bay.now) (g.B.Bay.meaning c.enter.new.bay)
    (c.in_default.ensures.told told contents after no_batch st leads) refl c.drop_stripe.ensures.tables)
