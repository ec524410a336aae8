use Rattle.std.proofs.Common.{Ok, refl}
use Rattle.zb_server.proofs.server.Server.up.Goals as goal

pub returns-in-Ok-clause-told : goal.returns-in-Ok-clause-told
returns-in-Ok-clause-told g c tells = record { opening = Ok c.in-Ok.store; reopens = c.in-Ok.ensures.told tells; comes = refl }
