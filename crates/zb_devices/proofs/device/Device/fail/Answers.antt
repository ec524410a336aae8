use Rattle.zb_devices.specs.declared.device.Change.TheVariants.{Fault}
use Rattle.zb_devices.proofs.Called.{held, frozen_held, state_is, other_states}
use Rattle.zb_devices.proofs.device.Device.fail.Goals as goal

pub returns-in-Ok-clause-held : goal.returns-in-Ok-clause-held
returns-in-Ok-clause-held c = held c.args.self.now c.note_fault.new.self c.args.platter c.in-Ok.ensures.noted

pub returns-in-Ok-clause-noted : goal.returns-in-Ok-clause-noted
returns-in-Ok-clause-noted c _ = state_is c.args.self.now c.note_fault.new.self c.in-Ok.ensures.noted

pub returns-in-Ok-clause-others : goal.returns-in-Ok-clause-others
returns-in-Ok-clause-others c = other_states c.args.self.now c.note_fault.new.self c.args.platter Fault c.in-Ok.ensures.noted

pub returns-clause-held : goal.returns-clause-held
returns-clause-held c =
    let s = c.in-Err.ensures.err in
    frozen_held c.args.self.now c.note_fault.new.self s c.args.platter
