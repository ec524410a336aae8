use Rattle.zb_sound.proofs.Staying.{works_stay, stands_stay, go_on_stays}
use Rattle.zb_sound.proofs.flushes.flush_stays.Goals as goal

pub returns-clause-works : goal.returns-clause-works
returns-clause-works c z contents new_contents st new held later who after out class flush left leaves same w =
    works_stay z st new who after contents new_contents held later out class flush left leaves same w

pub returns-clause-stands : goal.returns-clause-stands
returns-clause-stands c z st new who after log parts leaves stand = stands_stay z log st new who after parts leaves stand

pub returns-clause-goes_on : goal.returns-clause-goes_on
returns-clause-goes_on c z contents new_contents st new held later who after log part leaves same go = go_on_stays z log st new who after contents new_contents held later part leaves same go
