use Rattle.std.proofs.Common.{sym}
use Rattle.zb_replay.proofs.Under.{cut_told, place_still}
use Rattle.zb_replay.proofs.entering.cut.Goals as goal

pub returns-in_err-bytes-clause-told : goal.returns-in_err-bytes-clause-told
returns-in_err-bytes-clause-told g c told contents st = place_still c.from_residual.result c.args.platter.now contents c.args.manager.now.tables (g.B.Bay.meaning c.args.bay.now) st

pub returns-clause-told : goal.returns-clause-told
returns-clause-told g c told contents st =
    cut_told g.B.Bay.meaning contents c.args.platter.now c.checkpoint.new.self c.in_ok-bytes.bytes c.args.manager.now.tables c.checkpoint.result c.args.bay.now c.checkpoint.new.bay st
    (c.checkpoint.ensures.told told contents c.args.manager.now.tables st c.in_ok-bytes.ensures.counts (sym c.in_ok-bytes.ensures.text))
    c.checkpoint.ensures.ok c.checkpoint.ensures.err c.checkpoint.ensures.unwritten
