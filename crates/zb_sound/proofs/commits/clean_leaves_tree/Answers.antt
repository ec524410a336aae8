use Rattle.zb_sound.proofs.Committing.{clean_leaves}
use Rattle.zb_sound.proofs.commits.clean_leaves_tree.Goals as goal

pub returns : goal.returns
returns c z contents new p st log number generation pieces batch tables tree deltas s flushed is copies =
    let r = clean_leaves z contents new p st log number generation pieces batch deltas is tables tree s flushed copies in
    (r.after, r.done, r.stands)
