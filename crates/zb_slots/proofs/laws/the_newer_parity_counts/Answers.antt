use Rattle.zb_slots.proofs.Held.{newer_counts}
use Rattle.zb_slots.proofs.laws.the_newer_parity_counts.Goals as goal

pub returns : goal.returns
returns c = newer_counts
