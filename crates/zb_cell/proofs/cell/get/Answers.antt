use Rattle.std.proofs.Common.{List, ℕ, Some, sym, ◌∙◌, ap, arith, slice_index}
use Rattle.zb_cell.specs.Cell.{bytes_at}
use Rattle.zb_cell.proofs.Values.{value_ext}
use Rattle.zb_cell.proofs.cell.get.Goals as goal

pub returns-in-Some-clause-value : goal.returns-in-Some-clause-value
returns-in-Some-clause-value g c told =
    sym (value_ext (slice_index c.read_at.new.buf) (bytes_at ((g.B.Bay.meaning c.args.bay.now).now.seen c.args.platter) c.args.place) (λ i lt. (c.in_ok-read_at.ensures.told told).read i (omega (arith, c.read_at.auto.buf))))
    ∙ c.in-Some.ensures.1 ∙ ap (λ (xs : List ℕ). Some xs) (sym c.payload_at.ensures)
