use Rattle.zb_sound.proofs.Currents.{anew_current, attach_current, commit_current, mark_current, moved_current, new_current, other_current, retire_current}
use Rattle.zb_sound.proofs.logs_current.logs_stay_current.Goals as goal

pub returns-clause-begins : goal.returns-clause-begins
returns-clause-begins c t owner log = new_current t owner log

pub returns-clause-delivers : goal.returns-clause-delivers
returns-clause-delivers c t log owner batch last generation at front later more le on w = moved_current t log owner batch last generation at front w later more le on

pub returns-clause-anew : goal.returns-clause-anew
returns-clause-anew c t log owner batch last generation at front later le w = anew_current t log owner batch last generation at front w later le

pub returns-clause-commits : goal.returns-clause-commits
returns-clause-commits c t log owner batch last generation at front later number pieces s all le w =
    commit_current t log owner batch last generation at front w later number pieces s all le

pub returns-clause-others : goal.returns-clause-others
returns-clause-others c t log owner batch last generation at front other number pieces s ne w = other_current t log owner batch last generation at front w other number pieces s ne

pub returns-clause-attach : goal.returns-clause-attach
returns-clause-attach c t log owner batch last generation at front new who ne other w = attach_current t log owner batch last generation at front w new who ne other

pub returns-clause-mark : goal.returns-clause-mark
returns-clause-mark c t log owner batch last generation at front members le rises w = mark_current t log owner batch last generation at front w members le rises

pub returns-clause-retire : goal.returns-clause-retire
returns-clause-retire c t log owner batch last generation at front of stripe w = retire_current t log owner batch last generation at front w of stripe
