use Rattle.std.proofs.Common.{Some, ap, ◌∙◌}
use Rattle.std.proofs.lemmas.Option.{IfSome_then}
use Rattle.zb_index.specs.Seen.{SeenIndex, spot_of}
use Rattle.zb_index.specs.Changes.{first_spot}
use Rattle.zb_holding.proofs.Keys.{put_by}
use Rattle.zb_index.proofs.Moves.{follows_add, put_taken}
use Rattle.zb_index.proofs.index.Index.add.Goals as goal

pub returns-clause-put : goal.returns-clause-put
returns-clause-put c =
    let old : SeenIndex = record { entries = c.self.inside.spots.entries; free = c.self.inside.free.slots } in
    let new : SeenIndex = record { entries = c.insert.new.self.entries; free = c.take_least.new.self.slots } in
    let put = put_by old.entries new.entries c.args.id (Some (first_spot c.in-Some.slot c.args.len)) c.in_ok-insert.ensures.updates.0 in
    rw (← c.self.view_is) (IfSome_then c.take_least.result c.take_least.ensures.some (λ slot taken. put_taken old new c.in-Some.slot slot c.args.id c.args.len c.in-Some.ensures.some taken put))

pub returns-clause-index : goal.returns-clause-index
returns-clause-index c =
    let old : SeenIndex = record { entries = c.self.inside.spots.entries; free = c.self.inside.free.slots } in
    let new : SeenIndex = record { entries = c.insert.new.self.entries; free = c.take_least.new.self.slots } in
    let put = put_by old.entries new.entries c.args.id (Some (first_spot c.in-Some.slot c.args.len)) c.in_ok-insert.ensures.updates.0 in
    rw (← c.self.view_is) (IfSome_then c.take_least.result c.take_least.ensures.some (λ slot taken.
    follows_add old new slot c.args.id c.args.len (ap (λ (v : SeenIndex). spot_of v c.args.id) c.self.view_is ∙ c.requires) taken (put_taken old new c.in-Some.slot slot c.args.id c.args.len c.in-Some.ensures.some taken put)))
