use Rattle.zb_turns.proofs.Lookups.{all_may_be_found}
use Rattle.zb_turns.proofs.laws.lookups_find_what_is_asked.Goals as goal

pub returns : goal.returns
returns c z t asks are = all_may_be_found z t asks are
