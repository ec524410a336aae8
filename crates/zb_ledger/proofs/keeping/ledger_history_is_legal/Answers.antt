use Rattle.zb_ledger.proofs.Looking.{keeps_legal}
use Rattle.zb_ledger.proofs.keeping.ledger_history_is_legal.Goals as goal

pub returns : goal.returns
returns c = keeps_legal
