use Rattle.zb_laws.proofs.laws.wrong_unfit.Goals as goal
use Rattle.zb_laws.proofs.Rows.{stale_unfit, unordered_unfit, beside_unfit, too_many_unfit}

pub returns : goal.returns
returns c = record { stale = stale_unfit; unordered = unordered_unfit; beside = beside_unfit; too_many = too_many_unfit }
