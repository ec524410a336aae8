-- What is applied is what the journal's entry does.
use Rattle.std.proofs.Common.{◌≡◌, ℕ, List, Some, sym, ap, ◌∙◌}
use Rattle.zb_types.specs.declared.ids.LogId.{LogId}
use Rattle.zb_types.specs.declared.ids.Piece.{Piece}
use Rattle.zb_types.specs.Keyed.{look}
use Rattle.zb_batch.specs.declared.batch.Batch.{Batch}
use Rattle.zb_entries.specs.declared.entry.Entry.TheVariants.{Commit}
use Rattle.zb_tables.specs.Tables.{LogState, Tables}
use Rattle.zb_tables.specs.Fold.{after_batch, committed, folded}
use Rattle.zb_tables.proofs.Logs.{commit_log}
use Rattle.zb_manager.specs.declared.prepared.Prepared.{Prepared}
use Rattle.zb_manager.specs.Seen.{IsPrepared, last_in, prepared_shelf, prepared_tables}

module _ (b : ℕ) (t : Tables) (batch : Batch) (pieces : List Piece) (p : Prepared) (is : IsPrepared b t batch pieces p) where
  same_tables : prepared_tables b t p ≡ committed t batch.log batch.number pieces (prepared_shelf b t p)
  same_tables =
      ap (λ (log : LogId). committed t log p.number p.pieces (prepared_shelf b t p)) is.log
      ∙ ap (λ (n : ℕ). committed t batch.log n p.pieces (prepared_shelf b t p)) is.number
      ∙ ap (λ (ps : List Piece). committed t batch.log batch.number ps (prepared_shelf b t p)) is.pieces_are

  pub is_folded : (generation : ℕ) → folded b t (Commit batch.log batch.number generation pieces) batch ≡ Some (prepared_tables b t p)
  is_folded generation = ap (after_batch t batch.log batch.number pieces) is.done ∙ sym (ap Some same_tables)

  pub last_replies : (l : LogState) → look batch.log.0 t.logs ≡ Some l → last_in (look batch.log.0 (prepared_tables b t p).logs) ≡ Some (batch.number, p.replies)
  last_replies l at =
      ap (λ (u : Tables). last_in (look batch.log.0 u.logs)) same_tables
      ∙ ap last_in (commit_log batch.log batch.number pieces p.replies t.logs l at)
