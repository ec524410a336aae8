use Rattle.zb_sound.proofs.Owned.{new_owned, commit_owned, other_owned, attach_owned, mark_owned, retire_owned}
use Rattle.zb_sound.proofs.owners.log_of_an_owner.Goals as goal

pub returns-clause-begins : goal.returns-clause-begins
returns-clause-begins c t owner log = new_owned t owner log

pub returns-clause-commits : goal.returns-clause-commits
returns-clause-commits c t log owner batch last number pieces s l = commit_owned t log owner batch last number pieces s l

pub returns-clause-others : goal.returns-clause-others
returns-clause-others c t log owner batch last other number pieces s ne l = other_owned t log owner batch last other number pieces s ne l

pub returns-clause-attach : goal.returns-clause-attach
returns-clause-attach c t log owner batch last new who ne other l = attach_owned t log owner batch last new who ne other l

pub returns-clause-mark : goal.returns-clause-mark
returns-clause-mark c t log owner batch last members l = mark_owned t log owner batch last members l

pub returns-clause-retire : goal.returns-clause-retire
returns-clause-retire c t log owner batch last of stripe l = retire_owned t log owner batch last of stripe l
