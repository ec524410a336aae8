use Rattle.zb_laws.proofs.laws.front_fits.Goals as goal
use Rattle.zb_laws.proofs.Told.{front_fits as law}

pub returns : goal.returns
returns c = law
