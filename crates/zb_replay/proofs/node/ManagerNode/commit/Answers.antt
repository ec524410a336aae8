use Rattle.std.proofs.Common.{Err, Ok, None, arith, ap, refl, subst, sym, ◌∙◌, ◌≡◌}
use Rattle.zb_entries.specs.declared.entry.Entry.{Entry}
use Rattle.zb_journal.specs.Spelling.{size_of}
use Rattle.zb_tables.specs.Taking.{MayCommit, commit_refusal}
use Rattle.zb_manager.specs.Seen.{prepared_tables}
use Rattle.zb_manager.proofs.Folding.{is_folded}
use Rattle.zb_platter.specs.Changing.{HasPlace}
use Rattle.zb_replay.specs.Nodes.{SeenNode}
use Rattle.zb_replay.proofs.Leading.{commit_leads, has_number, refused_by, replies_kept}
use Rattle.zb_replay.proofs.Under.{commit_less, entered_as, entered_same, lacked, node_after, node_before, node_still, placed_same, told_as}
use Rattle.zb_replay.proofs.node.ManagerNode.commit.Goals as goal

pub returns-in_err-prepared-clause-told : goal.returns-in_err-prepared-clause-told
returns-in_err-prepared-clause-told g c = rw (← c.self.view_is) (λ told contents st bytes.
    node_still _ c.self.inside.platter contents c.self.inside.manager.tables _ _ (g.B.Bay.meaning c.args.bay.now) st refl c.drafted.ensures.same.tables)

pub returns-in-Err-clause-told : goal.returns-in-Err-clause-told
returns-in-Err-clause-told g c = rw (← c.self.view_is) (λ told contents st bytes.
    let t = c.self.inside.manager.tables in
    let z = c.self.inside.manager.sizes in
    let made = c.in_ok-prepared.field-0.prepared in
    let after = prepared_tables z.block t made in
    let leads = commit_leads c.self.inside.platter z contents t c.args.batch.now c.args.pieces.now c.args.generation made c.in_ok-prepared.field-0.entry c.self.invariant.system c.in_ok-prepared.ensures.entry bytes (subst (λ (s : SeenNode). MayCommit s.manager.sizes s.manager.tables c.args.batch.now c.args.pieces.now) (sym c.self.view_is) c.requires) c.in_ok-prepared.ensures.refused c.in_ok-prepared.ensures.prepared in
    let one = is_folded z.block t c.args.batch.now c.args.pieces.now made c.in_ok-prepared.ensures.prepared c.args.generation in
    let same = c.drafted.ensures.same.tables in
    told_as c.self.inside.platter.root.geo _ contents t _ _ _ (g.B.Bay.meaning c.args.bay.now) (g.B.Bay.meaning c.enter.new.bay) one
    (node_before c.in-Err.fault c.self.inside.platter.root.geo _ c.enter.new.platter contents t after _ (g.B.Bay.meaning c.args.bay.now) (g.B.Bay.meaning c.enter.new.bay)
    (entered_as (Err c.in-Err.fault) c.self.inside.platter.root.geo c.self.inside.platter c.enter.new.platter contents c.drafted.new.manager.tables t after _ c.args.batch.now (g.B.Bay.meaning c.args.bay.now) (g.B.Bay.meaning c.enter.new.bay) same
    (c.in-Err.ensures.told told contents after c.args.batch.now) st leads)
    (commit_less (Unit {0}) (Unit {0}) c.in-Err.fault c.commit_fault.result c.commit_fault.ensures) refl same))

pub returns-in-Err-clause-refused : goal.returns-in-Err-clause-refused
returns-in-Err-clause-refused g c =
    let none = c.in_ok-prepared.ensures.refused in
    let few = has_number c.self.inside.manager.sizes.block c.self.inside.manager.tables c.args.batch.now c.args.pieces.now c.args.generation none in
    refused_by (Unit {0}) _ c.in-Err.fault c.commit_fault.result c.commit_fault.ensures
    (subst (λ (s : SeenNode). commit_refusal s.manager.sizes.block s.manager.tables c.args.batch.now c.args.pieces.now c.args.generation ≡ None) c.self.view_is none)
    (λ field is. let spent = c.enter.ensures.worn field (c.in-Err.is ∙ ap Err is) in absurd (omega (arith, few, spent, c.self.invariant.next)))

pub returns-clause-told : goal.returns-clause-told
returns-clause-told g c = rw (← c.self.view_is) (λ told contents st bytes.
    let t = c.self.inside.manager.tables in
    let z = c.self.inside.manager.sizes in
    let made = c.in_ok-prepared.field-0.prepared in
    let after = prepared_tables z.block t made in
    let leads = commit_leads c.self.inside.platter z contents t c.args.batch.now c.args.pieces.now c.args.generation made c.in_ok-prepared.field-0.entry c.self.invariant.system c.in_ok-prepared.ensures.entry bytes (subst (λ (s : SeenNode). MayCommit s.manager.sizes s.manager.tables c.args.batch.now c.args.pieces.now) (sym c.self.view_is) c.requires) c.in_ok-prepared.ensures.refused c.in_ok-prepared.ensures.prepared in
    let one = is_folded z.block t c.args.batch.now c.args.pieces.now made c.in_ok-prepared.ensures.prepared c.args.generation in
    let same = c.drafted.ensures.same.tables in
    let tables : c.apply.new.self.tables ≡ after = c.apply.ensures.tables ∙ (λ i. prepared_tables (c.drafted.ensures.same.sizes i).block (same i) made) in
    told_as c.self.inside.platter.root.geo _ contents t _ _ _ (g.B.Bay.meaning c.args.bay.now) (g.B.Bay.meaning c.enter.new.bay) one
    (node_after c.self.inside.platter.root.geo _ c.enter.new.platter contents t after _ (g.B.Bay.meaning c.args.bay.now) (g.B.Bay.meaning c.enter.new.bay)
    (entered_as (Ok tt) c.self.inside.platter.root.geo c.self.inside.platter c.enter.new.platter contents c.drafted.new.manager.tables t after _ c.args.batch.now (g.B.Bay.meaning c.args.bay.now) (g.B.Bay.meaning c.enter.new.bay) same
    (c.in_default.ensures.told told contents after c.args.batch.now) st leads)
    refl tables))

pub returns-clause-replies : goal.returns-clause-replies
returns-clause-replies g c =
    let t = c.self.inside.manager.tables in
    let z = c.self.inside.manager.sizes in
    let made = c.in_ok-prepared.field-0.prepared in
    replies_kept z t c.apply.new.self.tables c.args.batch.now c.args.pieces.now made _ (subst (λ (s : SeenNode). MayCommit s.manager.sizes s.manager.tables c.args.batch.now c.args.pieces.now) (sym c.self.view_is) c.requires) c.in_ok-prepared.ensures.prepared
    (c.apply.ensures.tables ∙ (λ i. prepared_tables (c.drafted.ensures.same.sizes i).block (c.drafted.ensures.same.tables i) made)) c.in_ok-prepared.ensures.replies

pub returns-in-Err-clause-placed : goal.returns-in-Err-clause-placed
returns-in-Err-clause-placed g c = rw (← c.self.view_is) (placed_same _ _ _ _ c.drafted.ensures.same.tables c.in-Err.ensures.placed)

pub returns-clause-entered : goal.returns-clause-entered
returns-clause-entered g c = rw (← c.self.view_is) (entered_same _ _ _ _ _ _ c.drafted.ensures.same.tables c.in_ok-prepared.ensures.entry c.in_default.ensures.entered)

pub returns-clause-written : goal.returns-clause-written
returns-clause-written g c = rw (← c.self.view_is) (λ told has. c.in_default.ensures.written told (subst (λ (e : Entry). HasPlace c.self.inside.platter (size_of e)) (sym c.in_ok-prepared.ensures.entry) has))

pub returns-in-Err-clause-lacking : goal.returns-in-Err-clause-lacking
returns-in-Err-clause-lacking g c = rw (← c.self.view_is) (λ is has.
    let fault = lacked c.in-Err.fault c.commit_fault.result c.commit_fault.ensures is in
    c.enter.ensures.lacking (c.in-Err.is ∙ ap Err fault) (subst (λ (e : Entry). HasPlace c.self.inside.platter (size_of e)) (sym c.in_ok-prepared.ensures.entry) has))
