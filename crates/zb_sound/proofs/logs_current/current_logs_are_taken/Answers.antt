use Rattle.std.proofs.Common.{inr, arith}
use Rattle.zb_sound.proofs.Currents.{next_taken, not_regen}
use Rattle.zb_sound.proofs.logs_current.current_logs_are_taken.Goals as goal

pub returns-clause-next : goal.returns-clause-next
returns-clause-next c t log owner batch last generation at front w = next_taken t log owner batch last generation at front w

pub returns-clause-old : goal.returns-clause-old
returns-clause-old c t log owner batch last generation at front parts id w low all i d l =
    let le = w.lasting in
    let part = all i d l in
    inr (λ e. absurd (omega (arith, e, le, part, low)))

pub returns-clause-generation : goal.returns-clause-generation
returns-clause-generation c t log owner batch last generation at front pieces w e all = not_regen t log owner batch last generation at front w pieces e all
