use Rattle.zb_journal.proofs.Once.{bad_once, says_no_bad}
use Rattle.zb_journal.proofs.laws.a_bad_entry_stands_in_no_journal.Goals as goal

pub returns-clause-once : goal.returns-clause-once
returns-clause-once c = bad_once

pub returns-clause-none : goal.returns-clause-none
returns-clause-none c = says_no_bad
