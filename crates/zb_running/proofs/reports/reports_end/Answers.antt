use Rattle.zb_running.proofs.Shown.{all_last, idle_lines, lists_tree}
use Rattle.zb_running.proofs.reports.reports_end.Goals as goal

pub returns-clause-lines : goal.returns-clause-lines
returns-clause-lines c geo given lines course client r low idle = idle_lines r client low idle

pub returns-clause-last : goal.returns-clause-last
returns-clause-last c geo given lines course r idle none = all_last r idle none

pub returns-clause-tree : goal.returns-clause-tree
returns-clause-tree c geo given lines course entries r list = lists_tree r entries list
