use Rattle.zb_sound.proofs.Recovering.{either_recovers, either_only, either_may}
use Rattle.zb_sound.proofs.recovery.sound_recovers.Goals as goal

pub returns-clause-recovers : goal.returns-clause-recovers
returns-clause-recovers c z contents p st tree under_way x s may = either_recovers z contents p st tree under_way x s may

pub returns-clause-some : goal.returns-clause-some
returns-clause-some c z contents p st tree under_way s = either_may z contents p st tree under_way s

pub returns-clause-only : goal.returns-clause-only
returns-clause-only c z contents p st tree under_way x other two pos s may r =
    either_only z contents p st two pos tree under_way x other (either_recovers z contents p st tree under_way x s may) r
