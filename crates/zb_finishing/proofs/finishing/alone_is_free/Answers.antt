use Rattle.zb_finishing.proofs.Alone.{alone_free}
use Rattle.zb_finishing.proofs.finishing.alone_is_free.Goals as goal

pub returns : goal.returns
returns c n i works idle = alone_free n i works idle
