use Rattle.std.proofs.Common.{ap, ◌∙◌}
use Rattle.zb_outside.proofs.Touching.{goes_on_then}
use Rattle.zb_tables.specs.Tables.{risen}
use Rattle.zb_replay.proofs.Opened.{leaves_then, refused_as, replays_on, risen_min, stops_here, takes_as}
use Rattle.zb_replay.proofs.opening.replay.Goals as goal

pub returns-in-Err-clause-refused : goal.returns-in-Err-clause-refused
returns-in-Err-clause-refused g c told field is =
    let inv = c.loop-i.invariant in
    let h = c.in-Err.ensures.refused told field is in (
      h.0,
      stops_here c.args.manager.now.sizes (g.S.ReadPieces.contents c.args.servers.now c.args.bay.now) c.args.entries.now c.loop-i.i c.index-entries-i.result c.args.manager.now.tables c.loop-i.manager.tables c.loop-i-test.true c.index-entries-i.is (inv.taken told)
          (refused_as _ _ _ _ _ _ _ _ inv.same.sizes (inv.contents told) c.split_at.ensures.front h.1),
    )

pub loop-i-preserved : goal.loop-i-preserved
loop-i-preserved g c =
    let inv = c.loop-i.invariant in
    let made = c.in_default.ensures in
    record {
      taken = λ told. replays_on c.args.manager.now.sizes (g.S.ReadPieces.contents c.args.servers.now c.args.bay.now) c.args.entries.now c.loop-i.i c.index-entries-i.result c.args.manager.now.tables c.loop-i.manager.tables c.loop-i-test.true c.index-entries-i.is (inv.taken told)
          c.take.new.manager.tables (takes_as _ _ _ _ _ _ _ _ _ inv.same.sizes (inv.contents told) c.split_at.ensures.front (made.taken told));
      next = λ number first. made.next ∙ ap risen (inv.next number first) ∙ risen_min number c.loop-i.i;
      same = record { sizes = made.same.sizes ∙ inv.same.sizes; holder = made.same.holder ∙ inv.same.holder };
      contents = λ told. made.contents told ∙ inv.contents told;
      alone = λ told. leaves_then (inv.alone told) (made.alone told);
      goes_on = goes_on_then g.B.Bay.counts g.B.Bay.follows g.met.B.Bay.follows_then inv.goes_on made.goes_on;
    }
