use Rattle.zb_log.proofs.Apart.{gives_no_address_twice}
use Rattle.zb_log.proofs.laws.no_address_twice.Goals as goal

pub returns : goal.returns
returns c = gives_no_address_twice
