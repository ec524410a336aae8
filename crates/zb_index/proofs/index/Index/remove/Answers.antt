use Rattle.std.proofs.Common.{None, sym, ◌∙◌}
use Rattle.zb_index.specs.Seen.{SeenIndex}
use Rattle.zb_holding.proofs.Keys.{put_by, found_is}
use Rattle.zb_index.proofs.Moves.{follows_remove}
use Rattle.zb_index.proofs.index.Index.remove.Goals as goal

pub returns-clause-former : goal.returns-clause-former
returns-clause-former c = rw (← c.self.view_is) (c.in_ok-spot.ensures.value ∙ found_is c.self.inside.spots.entries c.args.id)

pub returns-clause-put : goal.returns-clause-put
returns-clause-put c = rw (← c.self.view_is) (put_by c.self.inside.spots.entries c.remove.new.self.entries c.args.id None c.in_ok-spot.ensures.updates.0)

pub returns-clause-index : goal.returns-clause-index
returns-clause-index c =
    let old : SeenIndex = record { entries = c.self.inside.spots.entries; free = c.self.inside.free.slots } in
    let new : SeenIndex = record { entries = c.remove.new.self.entries; free = c.give.new.self.slots } in
    let former = sym (c.in_ok-spot.ensures.value ∙ found_is old.entries c.args.id) in
    let put = put_by old.entries new.entries c.args.id None c.in_ok-spot.ensures.updates.0 in
    rw (← c.self.view_is) (follows_remove old new c.args.id c.in_ok-spot.spot former c.give.ensures.given put)
