use Rattle.std.proofs.Common.{length}
use Rattle.zb_devices.specs.Memory.{platter_of_device}
use Rattle.zb_devices.specs.Record.{write_failed}
use Rattle.zb_devices.proofs.Called.{wrote, answers_wrote}
use Rattle.zb_devices.proofs.device.Device.write.Goals as goal

pub returns-in-Ok-clause-told : goal.returns-in-Ok-clause-told
returns-in-Ok-clause-told c =
    let n = c.in-Ok.ensures.noted in
    wrote c.args.self.now c.note_write.new.self c.args.platter c.args.place c.args.bytes.now n.0 _ n.1 n.2

pub returns-in-Ok-clause-answers : goal.returns-in-Ok-clause-answers
returns-in-Ok-clause-answers c =
    let n = c.in-Ok.ensures.noted in
    answers_wrote c.args.platter c.args.fails _ c.if-fails.false _ c.args.self.now c.note_write.new.self c.args.place c.args.bytes.now n.0 (write_failed c.args.place (length c.args.bytes.now) (platter_of_device c.args.self.now c.args.platter)) n.1 n.2
