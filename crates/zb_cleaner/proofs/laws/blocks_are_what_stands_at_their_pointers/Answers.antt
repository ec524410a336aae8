use Rattle.zb_cleaner.proofs.Lawful.{bytes_more}
use Rattle.zb_cleaner.proofs.laws.blocks_are_what_stands_at_their_pointers.Goals as goal

pub returns-clause-begun : goal.returns-clause-begun
returns-clause-begun c = λ bytes live. tt

pub returns-clause-more : goal.returns-clause-more
returns-clause-more c = bytes_more
