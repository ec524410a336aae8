use Rattle.std.proofs.Common.{refl, ap, ℕ, ◌+◌, length, arith, length-drop}
use Rattle.zb_devices.specs.Memory.{tally}
use Rattle.zb_devices.specs.declared.device.Event.TheVariants.{Took}
use Rattle.zb_devices.proofs.Kept.{kept_on, tallied_on}
use Rattle.zb_devices.proofs.device.Device.note_take.Goals as goal

pub returns-clause-kept : goal.returns-clause-kept
returns-clause-kept c =
    let es = c.args.self.now.events.items in
    let k = c.requires.kept in
    let n = c.copy_from-n.result in
    let before = k.tallied c.if-self.false in
    kept_on c.args.self.now _ (Took n) k c.in_ok-push.ensures.items (λ q s. refl) refl (ap (λ (m : ℕ). m + n) k.keeps.taken)
    (omega (arith, k.keeps.within, c.copy_from-n.ensures.count, ap length c.deref.ensures.value, length-drop c.args.self.now.taken c.deref.result.now))
    k.keeps.printed
    (tallied_on es (Took n) (tally c.args.self.now) _ before (λ q. refl) (λ q. refl) (λ q. refl) before.read_faults before.write_faults)
