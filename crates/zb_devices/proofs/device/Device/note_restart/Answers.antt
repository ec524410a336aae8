use Rattle.std.proofs.Common.{refl, ◌∙◌, ap, List, ◌++◌, ◌∷◌, []}
use Rattle.zb_devices.specs.Record.{stands}
use Rattle.zb_devices.specs.Memory.{tally}
use Rattle.zb_devices.specs.Plates.{Shows}
use Rattle.zb_devices.specs.declared.device.Event.{Event}
use Rattle.zb_devices.specs.declared.device.Event.TheVariants.{At}
use Rattle.zb_devices.specs.declared.device.Change.TheVariants.{Restarted}
use Rattle.zb_devices.proofs.Kept.{kept_same, kept_set, tallied_quiet, plate_there}
use Rattle.zb_devices.proofs.device.Device.note_restart.Goals as goal

pub returns-in_err-restart-clause-kept : goal.returns-in_err-restart-clause-kept
returns-in_err-restart-clause-kept c =
    let es = c.args.self.now.events.items in
    let here : Shows c.index_mut.result.now (stands es c.args.platter) = plate_there c.args.self.now c.args.platter c.index_mut.result.now c.requires.kept c.requires.platter c.index_mut.ensures.value in
    kept_same c.args.self.now _ c.args.platter c.restart.new.self c.requires.kept c.requires.platter c.in_ok-reserve.ensures.items refl refl refl refl refl refl (c.in_err-restart.ensures (stands es c.args.platter) here)

pub returns-clause-kept : goal.returns-clause-kept
returns-clause-kept c =
    let es = c.args.self.now.events.items in
    let here : Shows c.index_mut.result.now (stands es c.args.platter) = plate_there c.args.self.now c.args.platter c.index_mut.result.now c.requires.kept c.requires.platter c.index_mut.ensures.value in
    kept_set c.args.self.now _ c.args.platter (Restarted c.args.choice) c.requires.kept
    (c.in_ok-push.ensures.items ∙ ap (λ (l : List Event). l ++ At c.args.platter (Restarted c.args.choice) ∷ []) c.in_ok-reserve.ensures.items)
    refl refl refl c.if-self.false
    (tallied_quiet es c.args.platter (Restarted c.args.choice) (tally c.args.self.now) (c.requires.kept.tallied c.if-self.false) refl refl)
    c.restart.new.self c.requires.platter refl (c.in_ok-restart.ensures (stands es c.args.platter) here)
