use Rattle.zb_script.proofs.Fields.{no_rename-1, no_rename-2}
use Rattle.zb_script.proofs.calls.rename.Goals as goal

pub returns-in_default-2 : goal.returns-in_default-2
returns-in_default-2 c = no_rename-1 c.in-Some.ensures (rw c.in_default-2.is at c.in_ok-from.ensures)

pub returns-in_default-3 : goal.returns-in_default-3
returns-in_default-3 c = no_rename-2 c.in-Some.ensures (rw c.in_default-3.is at c.in_ok-to.ensures)
