use Rattle.zb_index.proofs.Held.{is_found}
use Rattle.zb_index.proofs.laws.what_is_found_is_held.Goals as goal

pub returns : goal.returns
returns c = is_found
