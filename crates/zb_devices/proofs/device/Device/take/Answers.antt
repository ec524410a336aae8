use Rattle.std.proofs.Common.{refl, sym, ◌∙◌}
use Rattle.std.proofs.lemmas.Bool.{false≢true}
use Rattle.zb_devices.specs.declared.device.Event.TheVariants.{Took}
use Rattle.zb_devices.proofs.Streamed.{took, same_states}
use Rattle.zb_devices.proofs.device.Device.take.Goals as goal

pub returns-in-Ok-clause-told : goal.returns-in-Ok-clause-told
returns-in-Ok-clause-told c =
    let e = c.in-Ok.ensures in
    took c.args.self.now c.note_take.new.self c.in-Ok.n c.note_take.new.buf c.requires.kept e.kept e.noted e.count e.copied

pub returns-in-Ok-clause-answers : goal.returns-in-Ok-clause-answers
returns-in-Ok-clause-answers c =
    let e = c.in-Ok.ensures in
    record {
      due = λ yes. absurd (false≢true (sym c.if-fails.false ∙ yes));
      fed = e.noted.starved;
      noted = λ yes _. e.noted.starved;
      starves = tt;
      same = same_states c.args.self.now c.note_take.new.self (Took c.in-Ok.n) e.noted (λ q s. refl);
    }
