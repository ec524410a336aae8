use Rattle.std.proofs.Common.{refl, sym, ap, ◌∙◌}
use Rattle.zb_index.specs.Seen.{SeenIndex, spot_of}
use Rattle.zb_index.proofs.Moves.{follows_grow}
use Rattle.zb_index.proofs.index.Index.grow.Goals as goal

pub returns-in-Some-clause-index : goal.returns-in-Some-clause-index
returns-in-Some-clause-index c =
    let old : SeenIndex = record { entries = c.self.inside.spots.entries; free = c.self.inside.free.slots } in
    let new : SeenIndex = record { entries = c.set_spot.new.spots.entries; free = c.self.inside.free.slots } in
    let is = ap (λ (v : SeenIndex). spot_of v c.args.id) c.self.view_is ∙ sym c.in-Some.ensures in
    let follows = follows_grow old new c.args.id c.in-Some.spot c.args.len is refl c.set_spot.ensures.put in
    rw (← c.self.view_is, is) follows
