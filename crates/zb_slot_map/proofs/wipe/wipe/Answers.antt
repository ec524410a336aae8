use Rattle.zb_slot_map.proofs.Wiping.{blanked, wipe_failed, wiped}
use Rattle.zb_outside.proofs.Runs.{then_run}
use Rattle.zb_slot_map.proofs.wipe.wipe.Goals as goal

pub returns-in_err-blank-clause-told : goal.returns-in_err-blank-clause-told
returns-in_err-blank-clause-told g c told = wipe_failed _ c.from_residual.ensures.0 (blanked (c.blank.ensures.told told))

pub returns-in_err-write_zeros-clause-told : goal.returns-in_err-write_zeros-clause-told
returns-in_err-write_zeros-clause-told g c told =
    wipe_failed _ c.from_residual-in_err-write_zeros.ensures.0
    (then_run (blanked (c.in_ok-blank.ensures.told told)) (c.write_zeros.ensures.told told (c.in_ok-blank.ensures.told told).ok.seen).run (λ i h. tt))

pub returns-clause-told : goal.returns-clause-told
returns-clause-told g c told =
    let blank = c.in_ok-blank.ensures.told told in
    let zeros = c.in_ok-write_zeros.ensures.told told blank.ok.seen in
    wiped (then_run (blanked blank) zeros.run (λ i h. tt)) zeros.zeros (c.sync.ensures.told told)
