use Rattle.zb_cache.proofs.Finding.{under-after_put_other}
use Rattle.zb_cache.proofs.laws.a_put_brings_nothing_else.Goals as goal

pub returns : goal.returns
returns c = λ n p q bytes entries apart. under-after_put_other n q p bytes entries apart
