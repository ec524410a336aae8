use Rattle.std.proofs.Common.{arith}
use Rattle.zb_notes.proofs.laws.notes_add_up.Goals as goal

pub returns : goal.returns
returns c log stripe note notes old mid new one others = omega (arith, one, others)
