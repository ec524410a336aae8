use Rattle.zb_sound.proofs.Staying.{nothing_leaves, fewer_leaves, beside_leaves, mark_leaves, away_leaves, commit_leaves, retire_leaves}
use Rattle.zb_sound.proofs.flushes.changes_leave_parts.Goals as goal

pub returns-clause-nothing : goal.returns-clause-nothing
returns-clause-nothing c z st who log parts = nothing_leaves z log parts st who

pub returns-clause-fewer : goal.returns-clause-fewer
returns-clause-fewer c z st members log parts = fewer_leaves z log parts st members

pub returns-clause-beside : goal.returns-clause-beside
returns-clause-beside c z st who log parts asked is = beside_leaves z log parts st who asked is

pub returns-clause-mark : goal.returns-clause-mark
returns-clause-mark c z st before members log parts a is state others = mark_leaves z log parts st before members a is state others

pub returns-clause-away : goal.returns-clause-away
returns-clause-away c z st new members log parts a is unfit others same = away_leaves z log parts st new members a is unfit others same

pub returns-clause-commit : goal.returns-clause-commit
returns-clause-commit c log born pieces held other stripe ne = commit_leaves log born pieces held other stripe ne

pub returns-clause-retire : goal.returns-clause-retire
returns-clause-retire c log stripe held other at is = retire_leaves log stripe held other at is
