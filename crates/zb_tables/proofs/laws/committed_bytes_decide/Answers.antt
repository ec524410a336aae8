use Rattle.zb_tables.proofs.Growing.{same_replay, same_tree}
use Rattle.zb_tables.proofs.laws.committed_bytes_decide.Goals as goal

pub returns-clause-replay : goal.returns-clause-replay
returns-clause-replay c b held one other entries tables after same within r = same_replay held one other same b entries tables after within r

pub returns-clause-tree : goal.returns-clause-tree
returns-clause-tree c b held one other tables same points = same_tree held one other same b tables points
