use Rattle.zb_tables.proofs.Lookups.{clean_left, clean_none}
use Rattle.zb_tables.proofs.lookup_laws.clean_leaves_blocks.Goals as goal

pub returns-clause-there : goal.returns-clause-there
returns-clause-there c contents deltas files n old copies at = clean_left contents deltas files n old copies at

pub returns-clause-gone : goal.returns-clause-gone
returns-clause-gone c deltas files n none = clean_none deltas files n none
