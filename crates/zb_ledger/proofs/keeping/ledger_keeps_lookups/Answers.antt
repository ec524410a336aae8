use Rattle.zb_ledger.proofs.Looking.{keeps_look, keeps_read, counts_read}
use Rattle.zb_ledger.proofs.keeping.ledger_keeps_lookups.Goals as goal

pub returns : goal.returns
returns c = record { look = keeps_look; read = keeps_read; counts = counts_read }
