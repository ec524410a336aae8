use Rattle.std.proofs.Common.{length}
use Rattle.zb_devices.specs.declared.device.Change.TheVariants.{WriteFault}
use Rattle.zb_devices.proofs.Called.{spoils, frozen_spoils, state_is, other_states}
use Rattle.zb_devices.proofs.device.Device.fail_write.Goals as goal

pub returns-in-Ok-clause-told : goal.returns-in-Ok-clause-told
returns-in-Ok-clause-told c = spoils c.args.self.now c.note_write_fault.new.self c.args.platter c.args.place c.args.bytes.now c.in-Ok.ensures.noted

pub returns-in-Ok-clause-noted : goal.returns-in-Ok-clause-noted
returns-in-Ok-clause-noted c _ = state_is c.args.self.now c.note_write_fault.new.self c.in-Ok.ensures.noted

pub returns-in-Ok-clause-others : goal.returns-in-Ok-clause-others
returns-in-Ok-clause-others c = other_states c.args.self.now c.note_write_fault.new.self c.args.platter (WriteFault c.args.place (length c.args.bytes.now)) c.in-Ok.ensures.noted

pub returns-clause-told : goal.returns-clause-told
returns-clause-told c =
    let s = c.in-Err.ensures.err in
    frozen_spoils c.args.self.now c.note_write_fault.new.self s c.args.platter c.args.place c.args.bytes.now
