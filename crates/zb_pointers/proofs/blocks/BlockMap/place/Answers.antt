use Rattle.std.proofs.Common.{ap}
use Rattle.zb_types.proofs.KeyedLists.{IsRising-from_ordered}
use Rattle.zb_pointers.specs.Blocks.{IsAt}
use Rattle.zb_pointers.proofs.Places.{first_at, first_gap}
use Rattle.zb_pointers.proofs.blocks.BlockMap.place.Goals as goal

pub returns-in-Ok : goal.returns-in-Ok
returns-in-Ok c =
    let pairs = c.self.inside.pairs.items in
    let at : IsAt pairs c.args.number c.in-Ok.i = rw (ap (λ s. s.pairs) c.self.view_is) c.in-Ok.ensures.found in
    rw (← c.self.view_is) (first_at pairs c.args.number c.in-Ok.i (IsRising-from_ordered pairs c.self.invariant) at)

pub returns-in-Err : goal.returns-in-Err
returns-in-Err c = first_gap c.args.self.now.pairs c.args.number c.in-Err.i c.in-Err.ensures.absent
