use Rattle.zb_finishing.proofs.Said.{all_alone}
use Rattle.zb_finishing.proofs.telling.lines_lack_space_alone.Goals as goal

pub returns : goal.returns
returns c servers client lines may = all_alone servers client lines may
