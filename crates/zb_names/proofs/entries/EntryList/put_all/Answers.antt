use Rattle.std.proofs.Common.{◌+◌, ◌≤◌, length, ap, subst, arith}
use Rattle.zb_names.specs.Shown.{listed}
use Rattle.zb_names.specs.Changing.{LieBelow, fresh_of}
use Rattle.zb_names.proofs.Carrying.{length-with_entries}
use Rattle.zb_names.proofs.entries.EntryList.put_all.Goals as goal

pub put_below-requires-clause-below : goal.put_below-requires-clause-below
put_below-requires-clause-below c = rw c.slice.ensures.same (subst (λ f. LieBelow (fresh_of f c.args.below.items)) c.in-Some.is c.requires.lie).1

pub put-requires-clause-room : goal.put-requires-clause-room
put-requires-clause-room c =
    let es = c.args.self.now.entries in
    let room = subst (λ f. length (fresh_of f c.args.below.items) + length es ≤ c.args.self.now.room) c.in-Some.is c.requires.room in
    omega (arith, room, ap length c.put_below.ensures.entries, length-with_entries (listed c.args.below.items) es, c.put_below.ensures.room)
