use Rattle.zb_line_laws.proofs.Replying.{replied_fits}
use Rattle.zb_line_laws.proofs.replied.replied_batches_fit.Goals as goal

pub returns : goal.returns
returns c given lines client replies fit h calm is = replied_fits given lines client replies fit h calm is
