use Rattle.zb_tables.proofs.Versions.{op_leaves, ops_leave, ops_same, ops_gone}
use Rattle.zb_tables.proofs.lookup_laws.updates_leave_files.Goals as goal

pub returns-clause-op : goal.returns-clause-op
returns-clause-op c b s after o n old new is worn e lt most was now = op_leaves n b s after o old new is worn e lt most was now

pub returns-clause-batch : goal.returns-clause-batch
returns-clause-batch c b s after ops n old new are worn e lt most was now = ops_leave n b s after ops old new are worn e lt most was now

pub returns-clause-same : goal.returns-clause-same
returns-clause-same c b s after ops n old new are worn e lt most was now version = ops_same n b s after ops old new are worn e lt most was now version

pub returns-clause-gone : goal.returns-clause-gone
returns-clause-gone c b s after ops n are worn e lt none = ops_gone n b s after ops are worn e lt none
