use Rattle.zb_journal.proofs.Once.{cut_says}
use Rattle.zb_journal.proofs.laws.a_cut_journal_is_empty.Goals as goal

pub returns : goal.returns
returns c = cut_says
