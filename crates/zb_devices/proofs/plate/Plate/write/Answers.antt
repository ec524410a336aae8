use Rattle.std.proofs.Common.{List, ◌++◌, ◌∷◌, [], ◌∙◌, ap}
use Rattle.zb_devices.specs.declared.unsynced.Unsynced.{Unsynced}
use Rattle.zb_devices.proofs.Plates.{shows_written}
use Rattle.zb_devices.proofs.plate.Plate.write.Goals as goal

pub returns : goal.returns
returns c s shows = shows_written c.args.self.now _ s c.in_ok-range.range shows
    (c.in_ok-push.ensures.items ∙ ap (λ (us : List Unsynced). us ++ c.in_ok-range.range ∷ []) c.in_ok-reserve.ensures.items)
    c.args.place c.args.bytes.now (rw (← c.deref.ensures.value) c.in_ok-range.ensures) c.in_ok-overlay.ensures.ok
