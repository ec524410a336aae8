use Rattle.zb_slots.proofs.Saying.{said_stands}
use Rattle.zb_slots.proofs.header_cell.header_at.Goals as goal

pub returns-in-Ok-clause-stands : goal.returns-in-Ok-clause-stands
returns-in-Ok-clause-stands g c = said_stands c.args.geo.now.servers c.args.geo.now.fragment c.in-Ok.payload _ c.read_header.ensures
