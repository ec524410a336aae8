use Rattle.zb_script.proofs.Names.{byte_of}
use Rattle.zb_script.proofs.nodes.byte.Goals as goal

pub returns : goal.returns
returns c = rw c.ok.ensures.value (byte_of c.in_ok-number.field-0 c.try_from.result c.in_ok-number.ensures.0 c.in_ok-number.ensures.1 c.try_from.ensures)
