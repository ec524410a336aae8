use Rattle.std.proofs.Common.{◌≡◌, rules}
use Rattle.zb_devices.specs.MemOutside.{is_due}
use Rattle.zb_devices.proofs.mem_outside.MemOutsideOutside.put.Goals as goal

pub returns-clause-answers : goal.returns-clause-answers
returns-clause-answers c =
    let due : c.next_fails-fails.result ≡ is_due c.args.self.now = search rules in
    rw (← due) c.put.ensures.answers
