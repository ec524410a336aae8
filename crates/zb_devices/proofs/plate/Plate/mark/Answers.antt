use Rattle.std.proofs.Common.{refl}
use Rattle.zb_devices.proofs.Plates.{shows_marked}
use Rattle.zb_devices.proofs.plate.Plate.mark.Goals as goal

pub returns : goal.returns
returns c s shows = shows_marked c.args.self.now _ s c.in_ok-range.range shows c.in_ok-push.ensures.items c.args.place c.args.count (rw (← c.deref.ensures.value) c.in_ok-range.ensures) refl
