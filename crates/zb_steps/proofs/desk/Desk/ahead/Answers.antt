use Rattle.std.proofs.Common.{sym}
use Rattle.zb_work.proofs.Missing.{missing_fits}
use Rattle.zb_steps.proofs.desk.Desk.ahead.Goals as goal

pub reading-requires : goal.reading-requires
reading-requires c =
    let missing = rw c.slice.ensures at c.in-Some.ensures in
    let rests = rw (← c.self.view_is) at c.requires.rests in
    missing_fits _ _ _ c.in-Some.at _ rests.slots (sym missing)
