use Rattle.std.proofs.Common.{refl, ◌∙◌, ap, List, ◌++◌, ◌∷◌, [], ◌≡◌}
use Rattle.zb_devices.specs.Record.{stands}
use Rattle.zb_devices.specs.Memory.{tally}
use Rattle.zb_devices.specs.Plates.{Shows}
use Rattle.zb_devices.specs.declared.device.Event.{Event}
use Rattle.zb_devices.specs.declared.device.Event.TheVariants.{At}
use Rattle.zb_devices.specs.declared.device.Change.TheVariants.{Wrote}
use Rattle.zb_devices.proofs.Kept.{kept_same, kept_set, tallied_write, plate_there}
use Rattle.zb_devices.proofs.device.Device.note_write.Goals as goal

pub returns-in_err-write-clause-kept : goal.returns-in_err-write-clause-kept
returns-in_err-write-clause-kept c =
    let es = c.args.self.now.events.items in
    let here : Shows c.index_mut.result.now (stands es c.args.platter) = plate_there c.args.self.now c.args.platter c.index_mut.result.now c.requires.kept c.requires.platter c.index_mut.ensures.value in
    kept_same c.args.self.now _ c.args.platter c.write.new.self c.requires.kept c.requires.platter c.in_ok-reserve.ensures.items refl refl refl refl refl refl (c.in_err-write.ensures (stands es c.args.platter) here)

pub returns-clause-kept : goal.returns-clause-kept
returns-clause-kept c =
    let es = c.args.self.now.events.items in
    let here : Shows c.index_mut.result.now (stands es c.args.platter) = plate_there c.args.self.now c.args.platter c.index_mut.result.now c.requires.kept c.requires.platter c.index_mut.ensures.value in
    let copied : c.in_ok-copy.copy.items ≡ c.args.bytes.now = c.in_ok-copy.ensures.items in
    kept_set c.args.self.now _ c.args.platter (Wrote c.args.place c.in_ok-copy.copy) c.requires.kept
    (c.in_ok-push.ensures.items ∙ ap (λ (l : List Event). l ++ At c.args.platter (Wrote c.args.place c.in_ok-copy.copy) ∷ []) c.in_ok-reserve.ensures.items)
    refl refl refl c.if-self.false
    (tallied_write es c.args.platter c.args.place c.in_ok-copy.copy (tally c.args.self.now) _ (c.requires.kept.tallied c.if-self.false) c.raise.ensures (λ q. refl) refl refl)
    c.write.new.self c.requires.platter refl (rw copied (c.in_ok-write.ensures (stands es c.args.platter) here))

pub returns-clause-noted : goal.returns-clause-noted
returns-clause-noted c = (
  c.in_ok-copy.copy,
  c.in_ok-copy.ensures.items,
  record {
    events = c.in_ok-push.ensures.items ∙ ap (λ (l : List Event). l ++ At c.args.platter (Wrote c.args.place c.in_ok-copy.copy) ∷ []) c.in_ok-reserve.ensures.items;
    script = refl;
    thawed = c.if-self.false;
    works = c.if-self.false;
    starved = refl;
  },
)
