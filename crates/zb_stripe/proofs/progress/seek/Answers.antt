use Rattle.std.proofs.Common.{◌<◌, ◌-◌, ◌∙◌, sym, arith}
use Rattle.zb_stripe.specs.Reading.{Reading, reading}
use Rattle.zb_stripe.proofs.Seeking.{stops_at}
use Rattle.zb_stripe.proofs.progress.seek.Goals as goal

pub returns-clause-sought : goal.returns-clause-sought
returns-clause-sought c =
    let r : Reading = reading c.args.source.now c.args.lost.now c.args.read.now in
    let k = c.next_covered-index.result in
    let within = c.next_covered-index.ensures.within in
    let below : k < c.args.source.now.geo.servers - 1 = omega arith in
    let covered = c.next_covered-index.ensures.covered below in
    rw (c.in_ok-read.ensures, c.in_ok-lengths.ensures)
    (sym (stops_at r c.args.lengths.now c.args.sum k below (record { other = covered.other; reached = covered.reached })) ∙ c.next_covered-index.ensures.skipped c.args.lost.now c.args.sum)
