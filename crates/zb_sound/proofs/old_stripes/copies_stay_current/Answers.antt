use Rattle.zb_sound.proofs.Strays.{copies_committed, copies_grown, copies_kept}
use Rattle.zb_sound.proofs.old_stripes.copies_stay_current.Goals as goal

pub returns-clause-contents : goal.returns-clause-contents
returns-clause-contents c contents new held blocks same are = copies_grown contents new held blocks same are

pub returns-clause-commit : goal.returns-clause-commit
returns-clause-commit c contents log born pieces held blocks are = copies_committed contents log born pieces held blocks are

pub returns-clause-retire : goal.returns-clause-retire
returns-clause-retire c contents log stripe held blocks others are = copies_kept contents log stripe held blocks others are
