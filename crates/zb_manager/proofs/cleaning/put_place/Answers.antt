use Rattle.std.proofs.Common.{Some}
use Rattle.zb_manager.proofs.Carrying.{put_at}
use Rattle.zb_manager.proofs.cleaning.put_place.Goals as goal

pub returns : goal.returns
returns c = put_at c.args.places.now.entries c.insert.new.self.entries c.args.place (Some c.args.ptr) c.in_ok-insert.ensures.updates.0
