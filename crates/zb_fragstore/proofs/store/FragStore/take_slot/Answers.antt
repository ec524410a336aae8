use Rattle.zb_fragstore.proofs.Taken.{taken_slot}
use Rattle.zb_fragstore.proofs.store.FragStore.take_slot.Goals.{in-Ok-Some, in-Ok-None, in-Err}
use Rattle.zb_fragstore.proofs.store.FragStore.take_slot.Goals as goal

pub returns-clause-taken : goal.returns-clause-taken
returns-clause-taken c = rw (← c.self.view_is) (elim c.match-add.branch [
  | in-Ok-Some w ↦ rw w.result-is (taken_slot _ _ _ _ _ c.self.invariant (rw w.in-Ok-Some.field-0-is at w.in-Ok-Some.ensures.taken) (rw w.in-Ok-Some.field-0-is at w.in-Ok-Some.ensures.put) (rw w.in-Ok-Some.field-0-is at w.in-Ok-Some.ensures.index))
  | in-Ok-None w ↦ rw w.result-is tt
  | in-Err w ↦ rw w.result-is tt
])
