use Rattle.zb_forming_laws.proofs.Fewness.{may-commit}
use Rattle.zb_forming_laws.proofs.flushes.formed_batches_may_be_committed.Goals as goal

pub returns : goal.returns
returns c z slots t log number members kept calls basis formed given contents limits is are room size run short fetched next =
    may-commit z slots log number members calls basis formed given contents limits is are room size short fetched kept run t next
