use Rattle.zb_sound.proofs.Changing.{attach_keeps, mark_one_keeps, retire_keeps, checkpoint_keeps, away_keeps}
use Rattle.zb_sound.proofs.changes.changes_keep.Goals as goal

pub returns-clause-attach : goal.returns-clause-attach
returns-clause-attach c z contents p st tables tree owner log s can = attach_keeps z contents p st tables tree s owner log can

pub returns-clause-mark : goal.returns-clause-mark
returns-clause-mark c z contents p st tables tree members a s can is state others = mark_one_keeps z contents p st tables tree s members a can is state others

pub returns-clause-retire : goal.returns-clause-retire
returns-clause-retire c z contents p st tables tree log stripe s can = retire_keeps z contents p st tables tree s log stripe can

pub returns-clause-checkpoint : goal.returns-clause-checkpoint
returns-clause-checkpoint c z contents p st tables tree s = checkpoint_keeps z contents p st tables tree s

pub returns-clause-away : goal.returns-clause-away
returns-clause-away c z contents p st new tables tree a s is unfit others same none = away_keeps z contents p st tables tree s new a is unfit others same none
