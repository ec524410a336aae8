use Rattle.zb_tables.proofs.Once.{held_replayed, replays_once}
use Rattle.zb_tables.proofs.Replaying.{members_replayed}
use Rattle.zb_tables.proofs.laws.replay_is_one.Goals as goal

pub returns-clause-tables : goal.returns-clause-tables
returns-clause-tables c b contents entries from one other r s = replays_once b contents entries from one other r s

pub returns-clause-held : goal.returns-clause-held
returns-clause-held c b contents entries from after r = held_replayed b contents entries from after r

pub returns-clause-members : goal.returns-clause-members
returns-clause-members c b contents entries from after r = members_replayed b contents entries from after r
