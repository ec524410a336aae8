use Rattle.std.proofs.Common.{◌∙◌, ℕ, length, ap, arith}
use Rattle.zb_outside.proofs.Touching.{touches_less}
use Rattle.zb_journal.proofs.Heads.{to_says, to_bad, reads_as, never_stopped}
use Rattle.zb_journal.proofs.reading.entries.Goals as goal

pub returns-clause-says : goal.returns-clause-says
returns-clause-says g c told =
    to_says c.as_slice.result.now ((g.B.Bay.meaning c.args.bay.now).now.seen 0) (ap (length {A = ℕ}) c.as_slice.ensures.value ∙ c.in_ok-bytes.ensures.size)
    (reads_as _ _ _ c.as_slice.ensures.value (c.in_ok-bytes.ensures.read told)) c.args.first c.read_all.result c.read_all.ensures.has

pub returns-clause-bad : goal.returns-clause-bad
returns-clause-bad g c told place is =
    to_bad c.as_slice.result.now ((g.B.Bay.meaning c.args.bay.now).now.seen 0) (ap (length {A = ℕ}) c.as_slice.ensures.value ∙ c.in_ok-bytes.ensures.size)
    (reads_as _ _ _ c.as_slice.ensures.value (c.in_ok-bytes.ensures.read told)) c.args.first place (c.read_all.ensures.bad place is)

pub returns-clause-touches : goal.returns-clause-touches
returns-clause-touches g c =
    touches_less g.B.Bay.counts g.B.Bay.follows (omega arith) (never_stopped c.read_all.result c.read_all.ensures.stopped) c.in_ok-bytes.ensures.touches
