use Rattle.zb_outside.specs.Ranges.{zeros}
use Rattle.zb_outside.proofs.fused.Fused.new.Goals as goal

pub returns-clause-not_armed : goal.returns-clause-not_armed
returns-clause-not_armed g c p = zeros 256 p

pub returns-clause-raised : goal.returns-clause-raised
returns-clause-raised g c p = zeros 256 p

pub returns-clause-held : goal.returns-clause-held
returns-clause-held g c p = zeros 256 p
