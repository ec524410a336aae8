use Rattle.zb_fragstore.proofs.Taken.{moved_slot}
use Rattle.zb_fragstore.proofs.store.FragStore.move_slot.Goals as goal

pub returns-clause-moved : goal.returns-clause-moved
returns-clause-moved c = rw (← c.self.view_is) (moved_slot _ _ _ _ _ _ c.self.invariant (rw c.unwrap.ensures at c.renew.ensures.former) (rw c.unwrap.ensures at c.renew.ensures.taken) (rw c.unwrap.ensures at c.renew.ensures.put) (rw c.unwrap.ensures at c.renew.ensures.index))
