use Rattle.zb_ckpt.proofs.Fills.{set_ok}
use Rattle.zb_ckpt.proofs.checkpoint.set_root.Goals as goal

pub returns-in-Ok-clause-told : goal.returns-in-Ok-clause-told
returns-in-Ok-clause-told g c told settled long = set_ok c.spelled-payload.ensures (c.in-Ok.ensures.told told settled long)
