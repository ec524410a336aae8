use Rattle.zb_devices.specs.Memory.{meaning_of_device, platter_of_device}
use Rattle.zb_devices.specs.Record.{failed}
use Rattle.zb_devices.specs.declared.device.Change.TheVariants.{Restarted}
use Rattle.zb_outside.proofs.Blown.{held_restart}
use Rattle.zb_devices.proofs.Called.{restarted, held_after, answers_done}
use Rattle.zb_devices.proofs.device.Device.restart.Goals as goal

pub returns-then-fails-clause-told : goal.returns-then-fails-clause-told
returns-then-fails-clause-told c = held_restart c.args.platter _ (meaning_of_device c.args.self.now) (meaning_of_device c.refuse.new.self) c.refuse.ensures.held

pub returns-in-Ok-clause-told : goal.returns-in-Ok-clause-told
returns-in-Ok-clause-told c = restarted c.args.self.now c.note_restart.new.self c.args.platter c.args.choice _ c.in-Ok.ensures.noted

pub returns-in-Ok-clause-answers : goal.returns-in-Ok-clause-answers
returns-in-Ok-clause-answers c = answers_done c.args.platter c.args.fails _ c.if-fails.false _ c.args.self.now c.note_restart.new.self (Restarted c.args.choice) (failed (platter_of_device c.args.self.now c.args.platter)) c.in-Ok.ensures.noted

pub returns-in-Err-clause-told : goal.returns-in-Err-clause-told
returns-in-Err-clause-told c =
    held_restart c.args.platter _ (meaning_of_device c.args.self.now) (meaning_of_device c.refuse-in-Err.new.self)
    (held_after c.args.platter c.args.self.now c.note_restart.new.self c.refuse-in-Err.new.self c.in-Err.ensures.err c.refuse-in-Err.ensures.held)
