use Rattle.std.proofs.Common.{refl, ◌∙◌, ap, sym, List, ℕ, ◌++◌, ◌∷◌, [], ◌≡◌}
use Rattle.zb_devices.specs.Record.{flows}
use Rattle.zb_devices.specs.Memory.{tally}
use Rattle.zb_devices.specs.declared.device.Event.{Event}
use Rattle.zb_devices.specs.declared.device.Event.TheVariants.{Printed}
use Rattle.zb_devices.proofs.Kept.{kept_on, tallied_on}
use Rattle.zb_devices.proofs.device.Device.note_put.Goals as goal

pub returns-clause-kept : goal.returns-clause-kept
returns-clause-kept c =
    let es = c.args.self.now.events.items in
    let k = c.requires.kept in
    let before = k.tallied c.if-self.false in
    let copy = c.in_ok-copy.copy in
    let copied : copy.items ≡ c.args.bytes.now = c.in_ok-copy.ensures.items in
    kept_on c.args.self.now _ (Printed copy) k
    (c.in_ok-push.ensures.items ∙ ap (λ (l : List Event). l ++ Printed copy ∷ []) c.in_ok-reserve.ensures.items)
    (λ q s. refl) refl k.keeps.taken k.keeps.within
    (c.in_ok-extend_from_slice.ensures.items ∙ ap (λ (xs : List ℕ). xs ++ c.args.bytes.now) k.keeps.printed ∙ ap (λ (xs : List ℕ). (flows es).printed ++ xs) (sym copied))
    (tallied_on es (Printed copy) (tally c.args.self.now) _ before (λ q. refl) (λ q. refl) (λ q. refl) before.read_faults before.write_faults)

pub returns-clause-noted : goal.returns-clause-noted
returns-clause-noted c = (
  c.in_ok-copy.copy,
  c.in_ok-copy.ensures.items,
  record {
    events = c.in_ok-push.ensures.items ∙ ap (λ (l : List Event). l ++ Printed c.in_ok-copy.copy ∷ []) c.in_ok-reserve.ensures.items;
    script = refl;
    thawed = c.if-self.false;
    works = c.if-self.false;
    starved = refl;
  },
)
