use Rattle.std.proofs.Common.{ℕ, List, slice_index, ◌+◌, ◌∙◌, ap, arith}
use Rattle.zb_holding.specs.Fragments.{parity_fragment}
use Rattle.zb_slots.specs.Slots.{Stored}
use Rattle.zb_slots.proofs.Leaving.{left_then}
use Rattle.zb_slots.proofs.Bodies.{lengths_stand, padded_part}
use Rattle.zb_slots.proofs.range.parity_range.Goals as goal

pub returns-in_err-bytes-clause-told : goal.returns-in_err-bytes-clause-told
returns-in_err-bytes-clause-told g c told = left_then (c.in_ok-lengths.ensures.told told) (c.read_padded.ensures.told told)

pub returns-clause-told : goal.returns-clause-told
returns-clause-told g c told = left_then (c.in_ok-lengths.ensures.told told) (c.in_ok-bytes.ensures.told told)

pub returns-clause-lengths : goal.returns-clause-lengths
returns-clause-lengths g c told id turn lengths stands is =
    let image : List ℕ = (g.B.Bay.meaning c.args.bay.now).now.seen c.args.platter in
    c.of.ensures ∙ c.in_ok-lengths.ensures.lengths told ∙ lengths_stand c.args.geo.now image c.args.slot c.place_of-at.result id turn lengths stands c.place_of-at.ensures.place is

pub returns-clause-bytes : goal.returns-clause-bytes
returns-clause-bytes g c told id turn lengths stands is size =
    let image : List ℕ = (g.B.Bay.meaning c.args.bay.now).now.seen c.args.platter in
    let stored : Stored = record { id = id; turn = turn; fragment = parity_fragment lengths stands } in
    let at : ℕ = c.place_of-at.result + 192 + c.from.result in
    let seen = (c.in_ok-lengths.ensures.told told).seen in
    c.of-2.ensures
    ∙ padded_part c.args.geo.now image c.args.slot c.args.place at stored (omega (arith, c.place_of-at.ensures.place, c.from.ensures)) is c.in_ok-bytes.bytes.items c.min-there.result c.args.len
    (omega (arith, c.min-there.ensures, c.saturating_sub.ensures, size)) c.in_ok-bytes.ensures.size
    (λ i lt. c.in_ok-bytes.ensures.read told i lt ∙ ap (λ (s : List ℕ). slice_index s (at + i)) seen) c.in_ok-bytes.ensures.zeros
