use Rattle.std.proofs.Common.{Err, List, ap, inr, subst, sym, ◌∙◌, ◌≡◌, ℕ}
use Rattle.zb_tables.specs.Replay.{IsBatchIn}
use Rattle.zb_replay.specs.declared.pieces.OpenFault.TheVariants.{Foreign}
use Rattle.zb_replay.proofs.Taken.{batch_not_taken, no_batch_taken}
use Rattle.zb_replay.proofs.taking.take_commit.Goals as goal

pub returns-in-Err-clause-refused : goal.returns-in-Err-clause-refused
returns-in-Err-clause-refused g c told before field is =
    let bytes = c.slice.ensures ∙ c.in-Ok.ensures.bytes told in
    let same : c.in-Err.fault ≡ Foreign field = cc in
    let h = c.batch_in.ensures.none field (c.in-Err.is ∙ ap Err same) in (
      h.0,
      inr (no_batch_taken c.args.manager.now (g.S.ReadPieces.contents c.args.servers.now c.args.bay.now) before c.args.log c.args.number c.args.generation c.args.pieces.now
          (λ batch found. h.1 batch (subst (λ (b : List ℕ). IsBatchIn b c.args.log c.args.number batch) (sym bytes) found))),
    )

pub returns-clause-refused : goal.returns-clause-refused
returns-clause-refused g c told before field is =
    let bytes = c.slice.ensures ∙ c.in-Ok.ensures.bytes told in
    let batch = c.in-Ok-batch_in.batch in
    let h = c.take_batch.ensures.refused field is in (
      h.0,
      inr (batch_not_taken c.args.manager.now (g.S.ReadPieces.contents c.args.servers.now c.args.bay.now) before batch c.args.log c.args.number c.args.generation c.args.pieces.now
          (subst (λ (b : List ℕ). IsBatchIn b c.args.log c.args.number batch) bytes c.in-Ok-batch_in.ensures.is) h.1),
    )
