use Rattle.zb_sound.proofs.Saying.{said_tables}
use Rattle.zb_sound.proofs.recovery.what_is_said_is_in_form.Goals as goal

pub returns : goal.returns
returns c z contents p tables tree says = said_tables z contents p tables tree says
