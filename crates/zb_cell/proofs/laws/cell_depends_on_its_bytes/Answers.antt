use Rattle.zb_cell.specs.Cell.{bytes_at}
use Rattle.zb_cell.proofs.Values.{value_ext}
use Rattle.zb_cell.proofs.laws.cell_depends_on_its_bytes.Goals as goal

pub returns : goal.returns
returns c image other place same = value_ext (bytes_at other place) (bytes_at image place) same
