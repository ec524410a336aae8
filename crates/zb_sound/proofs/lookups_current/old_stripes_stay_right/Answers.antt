use Rattle.zb_sound.proofs.Righted.{held_right, looked_again, stays_right}
use Rattle.zb_sound.proofs.lookups_current.old_stripes_stay_right.Goals as goal

pub returns-clause-held : goal.returns-clause-held
returns-clause-held c z contents p st tables tree log stripe h s e = held_right z contents p st tables tree log stripe h s e

pub returns-clause-stays : goal.returns-clause-stays
returns-clause-stays c z contents new_contents st new who after log stripe end fewer same cut w = stays_right z contents st log stripe end new_contents new who after fewer same cut w

pub returns-clause-all : goal.returns-clause-all
returns-clause-all c z contents st log stripe end a r gone = looked_again z contents st log stripe end a r gone
