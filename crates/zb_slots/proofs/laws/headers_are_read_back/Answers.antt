use Rattle.zb_slots.proofs.Texts.{reads_back}
use Rattle.zb_slots.proofs.laws.headers_are_read_back.Goals as goal

pub returns : goal.returns
returns c = reads_back
