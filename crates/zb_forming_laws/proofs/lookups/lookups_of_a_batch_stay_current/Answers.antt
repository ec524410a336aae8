use Rattle.zb_forming_laws.proofs.Passing.{all-beside, all-copied, all-grown, all-updated}
use Rattle.zb_forming_laws.proofs.lookups.lookups_of_a_batch_stay_current.Goals as goal

pub returns-clause-contents : goal.returns-clause-contents
returns-clause-contents c b contents new t calls founds looked same points current = all-grown b calls founds contents new t looked same points current

pub returns-clause-updates : goal.returns-clause-updates
returns-clause-updates c z b contents t log number pieces ops after calls founds e are worn form current =
    all-updated b calls founds z contents t log number pieces ops after e are worn form current

pub returns-clause-copies : goal.returns-clause-copies
returns-clause-copies c b contents t log number pieces deltas after calls founds e copies current = all-copied b calls founds contents t log number pieces deltas after e copies current

pub returns-clause-beside : goal.returns-clause-beside
returns-clause-beside c b contents t new calls founds names files current = all-beside b calls founds contents t new names files current
