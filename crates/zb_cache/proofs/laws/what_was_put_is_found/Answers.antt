use Rattle.zb_cache.proofs.Finding.{under-after_put_same}
use Rattle.zb_cache.proofs.laws.what_was_put_is_found.Goals as goal

pub returns : goal.returns
returns c = λ n p bytes entries. under-after_put_same n p bytes entries
