use Rattle.zb_sound.proofs.Delivering.{flush_begins, next_stands, next_works, others_stand, flush_ends}
use Rattle.zb_sound.proofs.flushes.flush_at_work.Goals as goal

pub returns-clause-begins : goal.returns-clause-begins
returns-clause-begins c z contents st held who out class flush b = flush_begins z contents out class flush st held who b

pub returns-clause-goes_on : goal.returns-clause-goes_on
returns-clause-goes_on c z contents st held who out class flush left request is w = next_works z contents out class flush st held who left request is w

pub returns-clause-keeps : goal.returns-clause-keeps
returns-clause-keeps c z contents p st tables tree out class flush left request s is w = next_stands z contents out class flush p st tables tree s left request is w

pub returns-clause-others : goal.returns-clause-others
returns-clause-others c z contents st held who out class flush left request log parts is w ne = others_stand z contents out class flush st held who left request is w log parts ne

pub returns-clause-ends : goal.returns-clause-ends
returns-clause-ends c z contents st held who out class flush w = flush_ends z contents out class flush st held who w
