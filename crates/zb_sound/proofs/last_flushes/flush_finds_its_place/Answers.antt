use Rattle.std.proofs.Common.{[], refl}
use Rattle.zb_sound.proofs.Placed.{anew_begins, behind_begins}
use Rattle.zb_sound.proofs.last_flushes.flush_finds_its_place.Goals as goal

pub returns-clause-behind : goal.returns-clause-behind
returns-clause-behind c z contents p st tables tree who front former out flush s two pos w nexts rise spared =
    behind_begins z contents p st tables tree who front flush s two pos w.nothing out rise spared former (w.reached former ([], refl)) w.stands nexts

pub returns-clause-anew : goal.returns-clause-anew
returns-clause-anew c z contents p st tables tree who front at phase out flush s two pos w le nexts rise spared =
    anew_begins z contents p st tables tree who front flush s two pos w.nothing out rise spared at le nexts
