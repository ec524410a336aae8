use Rattle.std.proofs.Common.{◌≡◌, ◌+◌, ◌≤◌, List, ℕ, length, take, drop, ◌∙◌, ap, arith}
use Rattle.zb_holding.specs.Fragments.{share_fragment}
use Rattle.zb_slots.specs.Slots.{Stored}
use Rattle.zb_slots.proofs.Bodies.{read_part}
use Rattle.zb_slots.proofs.share.share_bytes.Goals as goal

pub returns-clause-bytes : goal.returns-clause-bytes
returns-clause-bytes g c told id stands is within =
    let image = (g.B.Bay.meaning c.args.bay.now).now.seen c.args.platter in
    let bytes : List ℕ = c.in_ok-bytes.bytes.items in
    let size : length bytes ≡ c.args.len = c.in_ok-bytes.ensures.size in
    let s : Stored = record { id = id; turn = 0; fragment = share_fragment stands } in
    let fits : c.args.place + length bytes ≤ length stands = omega (arith, size, within) in
    c.of.ensures
    ∙ read_part c.args.geo.now image c.args.slot c.args.place _ s (omega (arith, c.place_of.ensures.place, c.from.ensures)) is bytes fits (c.in_ok-bytes.ensures.read told)
    ∙ ap (λ (k : ℕ). take k (drop c.args.place stands)) size
