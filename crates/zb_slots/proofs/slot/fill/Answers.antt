use Rattle.zb_outside.proofs.Runs.{others_then}
use Rattle.zb_slots.proofs.Fills.{to_body, to_header, still_within, fill_failed}
use Rattle.zb_slots.proofs.slot.fill.Goals as goal

pub returns-in_err-write_synced-clause-told : goal.returns-in_err-write_synced-clause-told
returns-in_err-write_synced-clause-told g c told n f ready may =
    fill_failed _ c.from_residual.ensures.0 (to_body may ready (c.write_synced.ensures.told told ready.settled))

pub returns-clause-told : goal.returns-clause-told
returns-clause-told g c told n f ready may =
    let put = c.in_ok-write_synced.ensures.told told ready.settled in
    to_header may ready c.set_header.ensures.room put (c.set_header.ensures.told told put.settled (still_within may ready put))

pub returns-clause-others : goal.returns-clause-others
returns-clause-others g c told = others_then (c.write_synced.ensures.others told) (c.set_header.ensures.others told)
