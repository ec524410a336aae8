use Rattle.std.proofs.Common.{◌-◌, ℕ, List, length, slice_index, ◌∙◌, ap, arith}
use Rattle.zb_cell.specs.Cell.{bytes_at}
use Rattle.zb_slots.proofs.Shares.{numbers_moved}
use Rattle.zb_slots.proofs.Bodies.{length-numbers}
use Rattle.zb_slots.proofs.range.read_lengths.Goals as goal

pub returns-clause-lengths : goal.returns-clause-lengths
returns-clause-lengths g c told =
    let image = (g.B.Bay.meaning c.args.bay.now).now.seen c.args.platter in
    let buf : List ℕ = c.read_at.new.buf in
    let read = (c.in_ok-read_at.ensures.told told).read in
    c.in_ok-numbers_from.ensures
    ∙ numbers_moved (slice_index buf) (bytes_at image c.args.place) 0 128 (c.args.geo.now.servers - 1)
    (λ i lt. ap (slice_index buf) (omega arith) ∙ read i (omega (arith, lt, c.read_at.auto.buf, c.args.geo.now.limits.servers_high)) ∙ ap (slice_index image) (omega arith))

pub returns-clause-count : goal.returns-clause-count
returns-clause-count g c = ap (λ (l : List ℕ). length l) c.in_ok-numbers_from.ensures ∙ length-numbers (slice_index c.read_at.new.buf) 0 (c.args.geo.now.servers - 1)
