use Rattle.zb_sound.proofs.Committing.{commit_takes}
use Rattle.zb_sound.proofs.Rebasing.{contents_agree}
use Rattle.zb_sound.proofs.commits.commit_may_be_cut_off.Goals as goal

pub returns : goal.returns
returns c z contents new p st log number generation pieces batch tables tree updates s pos flushed are =
    let r = commit_takes z contents new p st log number generation pieces batch pos tables tree s flushed updates are in
    (contents_agree z contents new p st tables tree s flushed.same, (r.commits.after, r.commits.stands))
