use Rattle.zb_sound.proofs.Placed.{ended_flushed, to_end}
use Rattle.zb_sound.proofs.last_flushes.flushes_come_to_their_end.Goals as goal

pub returns-clause-ends : goal.returns-clause-ends
returns-clause-ends c z contents p st tables tree log front out class flush left s w = to_end z contents p tables tree log out class flush left st front s w

pub returns-clause-flushed : goal.returns-clause-flushed
returns-clause-flushed c z contents p st tables tree front out class flush number generation pieces batch s w are spells may taken lie =
    ended_flushed z contents p st tables tree front out class flush number generation pieces batch s w are spells may taken lie
