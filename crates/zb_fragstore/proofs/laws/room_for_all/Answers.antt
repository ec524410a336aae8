use Rattle.zb_fragstore.proofs.Rooms.{room_for_all as law}
use Rattle.zb_fragstore.proofs.laws.room_for_all.Goals as goal

pub returns : goal.returns
returns c = law
