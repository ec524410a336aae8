use Rattle.zb_sound.proofs.Committing.{commit_takes}
use Rattle.zb_sound.proofs.Saying.{said_tables}
use Rattle.zb_forming_laws.specs.Flushing.{contents_with}
use Rattle.zb_forming_laws.specs.Resting.{updates_of}
use Rattle.zb_forming_laws.proofs.Finding.{blocks-stand}
use Rattle.zb_forming_laws.proofs.Updating.{of-updates}
use Rattle.zb_forming_laws.proofs.commits.formed_commits_take_the_tree.Goals as goal

pub returns : goal.returns
returns c z contents p st tables tree log number generation members kept calls basis formed given is are run pos stands short current fetched flushed =
    let batch = formed.sealed.batch in
    let placed = formed.sealed.placed in
    let new = contents_with contents log given formed is.blocks in
    let stand = blocks-stand z.servers z.fragment z.block log number members calls basis formed is given are contents in
    let of = of-updates z new tables calls basis log.log number batch placed.ptrs is.blocks pos (said_tables z contents p tables tree stands.says) stands.says.ends is.is_batch
    (record { short = short; current = current; fetched = fetched; stand = stand }) generation placed.pieces kept run flushed.taken in
    let r = commit_takes z contents new p st log.log number generation placed.pieces batch pos tables tree stands flushed (updates_of calls) of in
    (r.commits.after, r.commits.done, r.replies, r.commits.stands)
