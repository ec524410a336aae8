use Rattle.zb_sound.proofs.Rebasing.{contents_agree}
use Rattle.zb_sound.proofs.changes.contents_may_grow.Goals as goal

pub returns : goal.returns
returns c z contents new p st tables tree s same = contents_agree z contents new p st tables tree s same
