use Rattle.std.proofs.Common.{refl, sym, ◌∙◌}
use Rattle.std.proofs.lemmas.Bool.{false≢true}
use Rattle.zb_devices.specs.declared.device.Event.TheVariants.{Printed}
use Rattle.zb_devices.proofs.Streamed.{put, same_states}
use Rattle.zb_devices.proofs.device.Device.put.Goals as goal

pub returns-in-Ok-clause-told : goal.returns-in-Ok-clause-told
returns-in-Ok-clause-told c =
    let e = c.in-Ok.ensures in
    put _ c.args.self.now c.note_put.new.self c.args.bytes.now e.noted.0 e.noted.1 e.noted.2 e.leaves.taken

pub returns-in-Ok-clause-answers : goal.returns-in-Ok-clause-answers
returns-in-Ok-clause-answers c =
    let e = c.in-Ok.ensures in
    record {
      due = λ yes. absurd (false≢true (sym c.if-fails.false ∙ yes));
      fed = e.noted.2.starved;
      noted = λ yes _. e.noted.2.starved;
      starves = tt;
      same = same_states c.args.self.now c.note_put.new.self (Printed e.noted.0) e.noted.2 (λ q s. refl);
    }
