use Rattle.zb_script.proofs.Keywords.{no_verb}
use Rattle.zb_script.proofs.calls.read_call.Goals as goal

pub returns-in_default-read_verb : goal.returns-in_default-read_verb
returns-in_default-read_verb c = no_verb c.in-Some.ensures c.in_default-read_verb.ensures
