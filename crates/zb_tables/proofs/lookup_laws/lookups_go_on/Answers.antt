use Rattle.zb_tables.specs.Fold.{blocks_in}
use Rattle.zb_tables.proofs.Lookups.{set_same, cut_same, clean_same}
use Rattle.zb_tables.proofs.lookup_laws.lookups_go_on.Goals as goal

pub returns-clause-write : goal.returns-clause-write
returns-clause-write c contents found file end deltas k same = set_same contents k deltas found file.blocks same

pub returns-clause-cut : goal.returns-clause-cut
returns-clause-cut c b contents found file size deltas k same = cut_same contents (blocks_in b size) k deltas found file.blocks same

pub returns-clause-clean : goal.returns-clause-clean
returns-clause-clean c contents found old new k has same = clean_same contents k found old new has same
