use Rattle.zb_ledger.proofs.Giving.{keeps_first, keeps_call, keeps_other, keeps_finish}
use Rattle.zb_ledger.proofs.Taking.{takes_back}
use Rattle.zb_ledger.proofs.keeping.ledger_keeps_what_is_given.Goals as goal

pub returns : goal.returns
returns c = record { first = keeps_first; call = keeps_call; other = keeps_other; finish = keeps_finish; back = takes_back }
