use Rattle.zb_journal.proofs.Heads.{held}
use Rattle.zb_journal.proofs.reading.read_bytes.Goals as goal

pub returns-in_err-read_at-clause-told : goal.returns-in_err-read_at-clause-told
returns-in_err-read_at-clause-told g c told = held (c.read_at.ensures.told told)

pub returns-clause-told : goal.returns-clause-told
returns-clause-told g c told = held (c.read_at.ensures.told told)
