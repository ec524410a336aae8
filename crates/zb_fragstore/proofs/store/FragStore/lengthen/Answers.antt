use Rattle.zb_fragstore.proofs.Taken.{longer_slot}
use Rattle.zb_fragstore.proofs.store.FragStore.lengthen.Goals as goal

pub returns-clause-longer : goal.returns-clause-longer
returns-clause-longer c = rw (← c.self.view_is) (longer_slot _ _ _ _ _ (rw (← c.self.view_is) at c.requires.there) c.grow.ensures.free c.grow.ensures.put c.grow.ensures.index)
