use Rattle.zb_cache.proofs.Finding.{under-after_use}
use Rattle.zb_cache.proofs.laws.a_use_leaves_what_is_found.Goals as goal

pub returns : goal.returns
returns c = λ p q entries. under-after_use q p entries
