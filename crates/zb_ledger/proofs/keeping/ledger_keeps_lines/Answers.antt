use Rattle.zb_ledger.proofs.Telling.{keeps_line, keeps_lines}
use Rattle.zb_ledger.proofs.keeping.ledger_keeps_lines.Goals as goal

pub returns : goal.returns
returns c = record { line = keeps_line; lines = keeps_lines }
