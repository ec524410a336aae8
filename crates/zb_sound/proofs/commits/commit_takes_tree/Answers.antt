use Rattle.zb_sound.proofs.Committing.{commit_takes}
use Rattle.zb_sound.proofs.commits.commit_takes_tree.Goals as goal

pub returns : goal.returns
returns c z contents new p st log number generation pieces batch tables tree updates s pos flushed are =
    let r = commit_takes z contents new p st log number generation pieces batch pos tables tree s flushed updates are in
    (r.commits.after, r.commits.done, r.replies, r.commits.stands)
