use Rattle.std.proofs.Common.{refl}
use Rattle.zb_devices.specs.Memory.{tally}
use Rattle.zb_devices.specs.declared.device.Change.TheVariants.{Fault}
use Rattle.zb_devices.proofs.Kept.{kept_as, shows_fault, tallied_fault}
use Rattle.zb_devices.proofs.device.Device.note_fault.Goals as goal

pub returns-clause-kept : goal.returns-clause-kept
returns-clause-kept c =
    let es = c.args.self.now.events.items in
    kept_as c.args.self.now _ c.args.platter Fault c.requires.kept c.in_ok-push.ensures.items refl refl refl c.if-self.false
    (tallied_fault es c.args.platter (tally c.args.self.now) _ (c.requires.kept.tallied c.if-self.false) c.raise.ensures (λ q. refl) refl refl)
    c.args.self.now.plates.items refl refl (shows_fault c.args.self.now.plates.items c.args.platter es c.requires.kept.keeps.shown)
