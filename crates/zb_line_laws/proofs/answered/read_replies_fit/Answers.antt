use Rattle.zb_line_laws.proofs.Answering.{read_replied}
use Rattle.zb_line_laws.proofs.answered.read_replies_fit.Goals as goal

pub returns : goal.returns
returns c given lines client read rest at reply fit h calm aim queue none looked same = read_replied given lines client read rest at reply fit h calm aim queue none looked same
