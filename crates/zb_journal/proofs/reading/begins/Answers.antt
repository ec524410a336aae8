use Rattle.zb_journal.proofs.Heads.{own_is, does_begin, are_same, say_same}
use Rattle.zb_journal.proofs.reading.begins.Goals as goal

pub returns : goal.returns
returns c = (
  λ same. does_begin _ _ _ _ _ c.in-Some.ensures c.args.journal.now.number (are_same c.in-Some.number c.args.journal.now.number same),
  λ b. say_same c.in-Some.number c.args.journal.now.number (own_is _ _ _ _ _ c.in-Some.ensures c.args.journal.now.number c.requires.number b),
)
