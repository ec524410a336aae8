use Rattle.zb_sound.proofs.Beginning.{first_stands}
use Rattle.zb_sound.proofs.recovery.first_platters_stand.Goals as goal

pub returns : goal.returns
returns c z contents = first_stands z contents
