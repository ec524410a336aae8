use Rattle.std.proofs.Common.{List, inr, subst, sym}
use Rattle.zb_types.specs.declared.ids.Piece.{Piece}
use Rattle.zb_entries.specs.declared.entry.Entry.{Entry}
use Rattle.zb_entries.specs.declared.entry.Entry.TheVariants.{Commit}
use Rattle.zb_replay.specs.Opening.{IsRefused}
use Rattle.zb_replay.proofs.taking.take.Goals as goal

pub returns-in-Attach-clause-refused : goal.returns-in-Attach-clause-refused
returns-in-Attach-clause-refused g c told field is =
    let contents = g.S.ReadPieces.contents c.args.servers.now c.args.bay.now in
    let h = c.take_attach.ensures.refused contents c.args.before.now field is in
    (h.0, subst (λ (e : Entry). IsRefused c.args.manager.now.sizes contents c.args.before.now c.args.manager.now.tables e) (sym c.in-Attach.is) (inr h.1))

pub returns-in-Mark-clause-refused : goal.returns-in-Mark-clause-refused
returns-in-Mark-clause-refused g c told field is =
    let contents = g.S.ReadPieces.contents c.args.servers.now c.args.bay.now in
    let h = c.take_mark.ensures.refused contents c.args.before.now field is in
    (h.0, subst (λ (e : Entry). IsRefused c.args.manager.now.sizes contents c.args.before.now c.args.manager.now.tables e) (sym c.in-Mark.is) (inr h.1))

pub returns-in-Retire-clause-refused : goal.returns-in-Retire-clause-refused
returns-in-Retire-clause-refused g c told field is =
    let contents = g.S.ReadPieces.contents c.args.servers.now c.args.bay.now in
    let h = c.take_retire.ensures.refused contents field is in
    (h.0, subst (λ (e : Entry). IsRefused c.args.manager.now.sizes contents c.args.before.now c.args.manager.now.tables e) (sym c.in-Retire.is) (inr h.1))

pub returns-in-Commit-clause-refused : goal.returns-in-Commit-clause-refused
returns-in-Commit-clause-refused g c told field is =
    let contents = g.S.ReadPieces.contents c.args.servers.now c.args.bay.now in
    let h = c.take_commit.ensures.refused told c.args.before.now field is in (
      h.0,
      subst (λ (e : Entry). IsRefused c.args.manager.now.sizes contents c.args.before.now c.args.manager.now.tables e) (sym c.in-Commit.is)
          (subst (λ (ps : List Piece). IsRefused c.args.manager.now.sizes contents c.args.before.now c.args.manager.now.tables (Commit c.in-Commit.log c.in-Commit.batch c.in-Commit.generation ps)) c.slice.ensures h.1),
    )
