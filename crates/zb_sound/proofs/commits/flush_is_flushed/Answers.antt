use Rattle.zb_sound.proofs.Flushing.{flushed_stand}
use Rattle.zb_sound.proofs.commits.flush_is_flushed.Goals as goal

pub returns : goal.returns
returns c z v contents held flush born pieces agrees differ fits stand all = flushed_stand z contents held flush differ fits v stand agrees born pieces all
