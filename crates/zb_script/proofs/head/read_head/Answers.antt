use Rattle.zb_script.proofs.Names.{no_head}
use Rattle.zb_script.proofs.head.read_head.Goals as goal

pub returns-in_default-from_utf8 : goal.returns-in_default-from_utf8
returns-in_default-from_utf8 c = no_head c.in_default-from_utf8.ensures.cases.0 c.in_default.ensures
