use Rattle.zb_usage.proofs.Named.{held_tells}
use Rattle.zb_usage.proofs.laws.live_pointers_tell_the_use.Goals as goal

pub returns : goal.returns
returns c z t are points log stripe = held_tells log stripe z t are points
