use Rattle.zb_sound.proofs.Strays.{delete_beside, delete_stands}
use Rattle.zb_sound.proofs.old_stripes.stray_fragments_may_go.Goals as goal

pub returns-clause-stands : goal.returns-clause-stands
returns-clause-stands c z contents p st tables tree server id s stray = delete_stands z contents p st tables tree server id s stray

pub returns-clause-flushes : goal.returns-clause-flushes
returns-clause-flushes c t log owner batch last generation at front parts id w stray all = delete_beside t log owner batch last generation at front parts id w stray all
