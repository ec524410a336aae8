use Rattle.zb_sound.proofs.Delivering.{beside_stands}
use Rattle.zb_sound.proofs.flushes.requests_beside_keep.Goals as goal

pub returns : goal.returns
returns c z contents p st tables tree asked s stores others = beside_stands z contents p st tables tree asked s stores others
