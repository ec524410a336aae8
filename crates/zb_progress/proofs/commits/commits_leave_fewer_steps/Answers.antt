use Rattle.zb_progress.proofs.Stepping.{commit-falls, refused-falls}
use Rattle.zb_progress.proofs.commits.commits_leave_fewer_steps.Goals as goal

pub returns-clause-done : goal.returns-clause-done
returns-clause-done c w seen client basis sealed replies after known s e count = commit-falls w seen client known s basis sealed e replies after count

pub returns-clause-refused : goal.returns-clause-refused
returns-clause-refused c z t client basis sealed fault e old = refused-falls z t client basis sealed e old fault
