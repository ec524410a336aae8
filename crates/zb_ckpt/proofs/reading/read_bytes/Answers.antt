use Rattle.zb_ckpt.proofs.Pages.{left_read}
use Rattle.zb_ckpt.proofs.reading.read_bytes.Goals as goal

pub returns-in_err-read_at-clause-told : goal.returns-in_err-read_at-clause-told
returns-in_err-read_at-clause-told g c told = left_read (c.read_at.ensures.told told)

pub returns-clause-told : goal.returns-clause-told
returns-clause-told g c told = left_read (c.read_at.ensures.told told)
