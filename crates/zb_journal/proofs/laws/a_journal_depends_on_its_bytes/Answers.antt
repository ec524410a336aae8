use Rattle.zb_journal.proofs.Standing.{depends_on_its_bytes}
use Rattle.zb_journal.proofs.laws.a_journal_depends_on_its_bytes.Goals as goal

pub returns : goal.returns
returns c = depends_on_its_bytes
