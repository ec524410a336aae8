use Rattle.zb_given.proofs.stays.crashes_come_later.Goals as goal
use Rattle.zb_given.proofs.Crashing.{no_crash, call_leaves_crashes, crash_is_later}

pub returns : goal.returns
returns c = record { none = no_crash; call = call_leaves_crashes; later = crash_is_later }
