use Rattle.zb_sound.specs.Standing.{seen}
use Rattle.zb_sound.proofs.Sites.{next_finds}
use Rattle.zb_sound.proofs.last_flushes.requests_find_their_places.Goals as goal

pub returns : goal.returns
returns c z contents st held who out class flush left asked x w is may looked = next_finds (seen z st x) out class flush left asked (w.each x may).work is looked
