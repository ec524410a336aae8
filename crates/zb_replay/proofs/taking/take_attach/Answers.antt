use Rattle.std.proofs.Common.{Some, ap, arith, sym, ◌∙◌, ◌≡◌}
use Rattle.zb_tables.specs.Tables.{Tables}
use Rattle.zb_tables.specs.Fold.{attached}
use Rattle.zb_tables.specs.Taking.{Sizes, no_batch}
use Rattle.zb_replay.proofs.taking.take_attach.Goals as goal

pub returns-clause-taken : goal.returns-clause-taken
returns-clause-taken c contents before =
    let t = c.args.manager.now.tables in
    let next : c.args.log.0 ≡ t.next_log = c.if-log-next.false ∙ c.next_log-next.ensures in
    let log : c.attach.result.0 ≡ c.args.log.0 = c.attach.ensures.log ∙ ap (λ (u : Tables). u.next_log) c.room.ensures.same.tables ∙ sym next in
    let made : c.attach.new.self.tables ≡ attached t c.args.owner c.args.log = c.attach.ensures.tables ∙ (λ i. attached (c.room.ensures.same.tables i) c.args.owner (record { 0 = log i })) in
    record {
      batch = no_batch;
      is = tt;
      taken = (next, omega (arith, c.if-next-ge-LAST_LOG.false, c.next_log-next.ensures), omega (arith, c.if-from-geo.false, c.from.ensures, ap (λ (z : Sizes). z.clients) c.requires.sizes));
      folds = ap Some (sym made);
    }
