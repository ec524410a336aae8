use Rattle.zb_outside.proofs.Runs.{put_sync, run_spares, others_then}
use Rattle.zb_outside.proofs.synced.write_synced.Goals as goal

pub returns-clause-told : goal.returns-clause-told
returns-clause-told g c told settled = put_sync settled (c.in_ok-write_at.ensures.told told) (c.sync.ensures.told told)

pub returns-clause-others : goal.returns-clause-others
returns-clause-others g c told = others_then (run_spares (c.in_ok-write_at.ensures.told told).ticks) (run_spares (c.sync.ensures.told told).ticks)
