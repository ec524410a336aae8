use Rattle.zb_finishing.proofs.Said.{stepped_may}
use Rattle.zb_finishing.proofs.telling.steps_may_tell.Goals as goal

pub returns : goal.returns
returns c given lines old new i told s h = stepped_may new i told s h
