use Rattle.zb_steps.proofs.Finding.{run_again, batch_has}
use Rattle.zb_steps.proofs.desk.Desk.formed.Goals as goal

pub form-requires-clause-run : goal.form-requires-clause-run
form-requires-clause-run c = rw c.run_of.ensures.run (run_again _)

pub form-requires-clause-fetched : goal.form-requires-clause-fetched
form-requires-clause-fetched c =
    let h = batch_has _ _ _ _ _ _ _ c.requires.keeps c.requires.rests c.requires.all in
    let fetched = h.fetched in
    rw c.run_of.ensures.run (rw (← c.self.view_is) at fetched)
