use Rattle.std.proofs.Common.{refl}
use Rattle.zb_devices.specs.Record.{stands}
use Rattle.zb_devices.specs.Memory.{tally}
use Rattle.zb_devices.specs.declared.device.Change.TheVariants.{Blanked}
use Rattle.zb_devices.proofs.Kept.{kept_set, tallied_quiet}
use Rattle.zb_devices.proofs.device.Device.note_blank.Goals as goal

pub returns-clause-kept : goal.returns-clause-kept
returns-clause-kept c =
    let es = c.args.self.now.events.items in
    kept_set c.args.self.now _ c.args.platter Blanked c.requires.kept c.in_ok-push.ensures.items refl refl refl c.if-self.false
    (tallied_quiet es c.args.platter Blanked (tally c.args.self.now) (c.requires.kept.tallied c.if-self.false) refl refl)
    c.blank.new.self c.requires.platter refl
    (c.blank.ensures (stands es c.args.platter))
