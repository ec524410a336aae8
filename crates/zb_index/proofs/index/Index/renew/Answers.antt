use Rattle.std.proofs.Common.{ℕ, Some, sym, ap, ◌∙◌}
use Rattle.std.specs.Prelude.{if◌then◌else◌}
use Rattle.zb_index.specs.Seen.{SeenIndex, spot_of, spot_in}
use Rattle.zb_holding.specs.Carrying.{same_frag}
use Rattle.zb_index.specs.declared.spot.Spot.{Spot}
use Rattle.zb_index.specs.Changes.{IsPut, next_spot}
use Rattle.zb_index.proofs.Moves.{follows_renew, exchanged_by}
use Rattle.zb_index.proofs.index.Index.renew.Goals as goal

abbrev spot_with : (slot turn len : ℕ) → Spot
spot_with slot turn len = record { slot = slot; turn = turn; len = len }

pub returns-clause-index : goal.returns-clause-index
returns-clause-index c =
    let old : SeenIndex = record { entries = c.self.inside.spots.entries; free = c.self.inside.free.slots } in
    let new : SeenIndex = record { entries = c.set_spot.new.spots.entries; free = c.give.new.self.slots } in
    let exchanged = exchanged_by old.free c.take_least.new.self.slots new.free c.in_ok-slot.slot c.in_ok-former.former.slot c.in_ok-slot.ensures.some c.give.ensures.given in
    let former = ap (λ (v : SeenIndex). spot_of v c.args.id) c.self.view_is ∙ sym c.in_ok-former.ensures in
    let put : IsPut old new c.args.id (Some (next_spot c.in_ok-slot.slot c.args.len c.in_ok-former.former)) = λ q. c.set_spot.ensures.put q
    ∙ ap (λ (t : ℕ). if same_frag c.args.id q then Some (spot_with c.in_ok-slot.slot t c.args.len) else spot_in old.entries q) c.following-turn.ensures in
    rw (← c.self.view_is) (follows_renew old new c.args.id c.in_ok-former.former c.in_ok-slot.slot c.args.len former exchanged put)
