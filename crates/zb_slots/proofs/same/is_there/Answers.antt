use Rattle.std.proofs.Common.{arith}
use Rattle.std.proofs.lemmas.Bool.Decides.{Decides-eqb}
use Rattle.std.proofs.lemmas.Slice.Eq.{slice_eq-Decides}
use Rattle.zb_slots.proofs.Chunks.{chunk_is}
use Rattle.zb_slots.proofs.same.is_there.Goals as goal

pub returns-clause-same : goal.returns-clause-same
returns-clause-same g c told =
    let image = (g.B.Bay.meaning c.args.bay.now).now.seen c.args.platter in
    chunk_is image c.read_at.new.buf c.args.chunk.now c.split_at.result.0.now c.args.place c.eq.result c.split_at.ensures.front (omega (arith, c.read_at.auto.buf, c.requires.chunk)) (c.in_ok-read_at.ensures.told told).read
    (slice_eq-Decides Decides-eqb c.split_at.result.0.now c.args.chunk.now c.eq.result c.eq.ensures)
