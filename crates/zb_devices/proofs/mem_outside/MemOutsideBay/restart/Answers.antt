use Rattle.std.proofs.Common.{◌≡◌, rules}
use Rattle.zb_devices.specs.MemOutside.{is_due, next_choice}
use Rattle.zb_devices.proofs.mem_outside.MemOutsideBay.restart.Goals as goal

pub returns-else-is_ok-clause-answers : goal.returns-else-is_ok-clause-answers
returns-else-is_ok-clause-answers c =
    let due : c.next_fails-fails.result ≡ is_due c.args.self.now = search rules in
    let left : c.unwrap_or-choice.result ≡ next_choice c.args.self.now = search rules in
    rw (← due, ← left) c.restart-answer.ensures.answers
