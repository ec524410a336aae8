use Rattle.zb_tables.proofs.Versions.{one_kind, commit_keeps}
use Rattle.zb_tables.proofs.lookup_laws.batch_leaves_blocks.Goals as goal

pub returns-clause-kind : goal.returns-clause-kind
returns-clause-kind c ops company = one_kind ops company

pub returns-clause-blocks : goal.returns-clause-blocks
returns-clause-blocks c b contents s after ops n old new company copies worn e lt most was now version = commit_keeps contents b s after ops n old new was now company copies worn e lt most version
