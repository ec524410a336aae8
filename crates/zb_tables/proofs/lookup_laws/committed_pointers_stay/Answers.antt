use Rattle.zb_tables.proofs.Growing.{same_bytes}
use Rattle.zb_tables.proofs.Lookups.{block_grows}
use Rattle.zb_tables.proofs.lookup_laws.committed_pointers_stay.Goals as goal

pub returns-clause-bytes : goal.returns-clause-bytes
returns-clause-bytes c held one other p same committed = same_bytes held one other same p committed

pub returns-clause-block : goal.returns-clause-block
returns-clause-block c held one other p q same first last is = block_grows held one other p q same first last is
