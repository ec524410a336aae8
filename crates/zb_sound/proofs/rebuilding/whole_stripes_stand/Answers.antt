use Rattle.zb_sound.proofs.Covering.{whole_stands}
use Rattle.zb_sound.proofs.rebuilding.whole_stripes_stand.Goals as goal

pub returns : goal.returns
returns c z contents st log stripe end bytes holds same = whole_stands z contents st log stripe end bytes holds same
