use Rattle.std.proofs.Common.{refl}
use Rattle.zb_steps.proofs.Finding.{read_fetched}
use Rattle.zb_steps.proofs.going.reply_to.Goals as goal

pub read_file-requires-clause-fetched : goal.read_file-requires-clause-fetched
read_file-requires-clause-fetched c = read_fetched _ _ _ _ _ _ _ _ refl c.requires.rests c.requires.all c.in-Some.ensures.lookup
