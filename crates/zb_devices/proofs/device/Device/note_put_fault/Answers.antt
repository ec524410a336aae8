use Rattle.std.proofs.Common.{refl, arith, ◌≡◌}
use Rattle.zb_outside.specs.Counts.{raised}
use Rattle.zb_devices.specs.Record.{flows}
use Rattle.zb_devices.specs.Memory.{tally}
use Rattle.zb_devices.specs.declared.device.Event.TheVariants.{PutFault}
use Rattle.zb_devices.proofs.Kept.{kept_on, tallied_on}
use Rattle.zb_devices.proofs.device.Device.note_put_fault.Goals as goal

pub returns-clause-kept : goal.returns-clause-kept
returns-clause-kept c =
    let es = c.args.self.now.events.items in
    let k = c.requires.kept in
    let before = k.tallied c.if-self.false in
    let more : c.saturating_add-self.result ≡ raised (flows es).write_faults = omega (arith, c.saturating_add-self.ensures, before.write_faults) in
    kept_on c.args.self.now _ PutFault k c.in_ok-push.ensures.items (λ q s. refl) refl k.keeps.taken k.keeps.within k.keeps.printed
    (tallied_on es PutFault (tally c.args.self.now) _ before (λ q. refl) (λ q. refl) (λ q. refl) before.read_faults more)
