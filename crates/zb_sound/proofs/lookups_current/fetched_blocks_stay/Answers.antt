use Rattle.zb_sound.proofs.Looked.{fetched_stay, pointer_stays}
use Rattle.zb_sound.proofs.lookups_current.fetched_blocks_stay.Goals as goal

pub returns-clause-contents : goal.returns-clause-contents
returns-clause-contents c contents new blocks same are = fetched_stay contents new blocks same are

pub returns-clause-pointer : goal.returns-clause-pointer
returns-clause-pointer c contents new held p same where_it_is = pointer_stays contents new held p same where_it_is
