use Rattle.zb_replay.proofs.Wrong.{says_no_wrong}
use Rattle.zb_replay.proofs.laws.a_platter_with_tables_is_wrong_nowhere.Goals as goal

pub returns : goal.returns
returns c = says_no_wrong
