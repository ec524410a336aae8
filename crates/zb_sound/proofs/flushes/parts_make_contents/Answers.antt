use Rattle.std.proofs.Common.{◌∷◌, ◌++◌, refl}
use Rattle.zb_sound.proofs.Flushing.{parts_same, parts_bytes, parts_others}
use Rattle.zb_sound.proofs.flushes.parts_make_contents.Goals as goal

pub returns-clause-same : goal.returns-clause-same
returns-clause-same c z contents held log parts differ fits = parts_same contents log z held parts fits differ

pub returns-clause-bytes : goal.returns-clause-bytes
returns-clause-bytes c contents log before after part differ = parts_bytes contents log (before ++ part ∷ after) differ part (record { before = before; after = after; is = refl })

pub returns-clause-others : goal.returns-clause-others
returns-clause-others c contents log parts other stripe away = parts_others contents log other stripe parts away
