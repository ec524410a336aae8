use Rattle.zb_tables.proofs.Heads.{heads_stay}
use Rattle.zb_tables.proofs.laws.clean_leaves_heads.Goals as goal

pub returns : goal.returns
returns c deltas files = heads_stay deltas files
