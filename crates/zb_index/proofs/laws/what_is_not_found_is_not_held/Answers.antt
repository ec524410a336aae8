use Rattle.zb_index.proofs.Held.{not_found}
use Rattle.zb_index.proofs.laws.what_is_not_found_is_not_held.Goals as goal

pub returns : goal.returns
returns c = not_found
