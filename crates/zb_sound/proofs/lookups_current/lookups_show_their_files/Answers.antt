use Rattle.zb_sound.proofs.Looked.{answered_shows, grown_shows}
use Rattle.zb_sound.proofs.lookups_current.lookups_show_their_files.Goals as goal

pub returns-clause-answered : goal.returns-clause-answered
returns-clause-answered c b contents t fid first count file pos ends at = answered_shows b contents t fid first count file pos ends at

pub returns-clause-contents : goal.returns-clause-contents
returns-clause-contents c b contents new first count found bytes same shows = grown_shows b contents new first count found bytes same shows
