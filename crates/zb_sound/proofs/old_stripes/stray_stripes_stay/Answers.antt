use Rattle.zb_sound.proofs.Strays.{attach_stray, commit_stray, given_up_stray, mark_stray, retire_stray}
use Rattle.zb_sound.proofs.old_stripes.stray_stripes_stay.Goals as goal

pub returns-clause-commit : goal.returns-clause-commit
returns-clause-commit c t log number pieces s of stripe none stray = commit_stray t log number pieces s stripe of none stray

pub returns-clause-attach : goal.returns-clause-attach
returns-clause-attach c z t owner log of stripe f is stray = attach_stray z t owner log of stripe f is stray

pub returns-clause-mark : goal.returns-clause-mark
returns-clause-mark c t members of stripe stray = mark_stray t members of stripe stray

pub returns-clause-retire : goal.returns-clause-retire
returns-clause-retire c z t log at of stripe f stray = retire_stray z t log at f of stripe stray

pub returns-clause-given_up : goal.returns-clause-given_up
returns-clause-given_up c z t log stripe f given behind = given_up_stray z t log stripe f given behind
