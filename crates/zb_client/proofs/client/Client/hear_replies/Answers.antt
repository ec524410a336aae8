use Rattle.zb_client.proofs.Fits.{commits_all}
use Rattle.zb_client.proofs.client.Client.hear_replies.Goals as goal

pub commit-requires-clause-within : goal.commit-requires-clause-within
commit-requires-clause-within c =
    let can = rw (← c.self.view_is) at c.requires.can in
    let all = commits_all _ _ _ _ _ _ _ _ c.args.replies c.self.invariant.0.work can in
    rw (← c.self.view_is) all.within

pub commit-requires-clause-settled : goal.commit-requires-clause-settled
commit-requires-clause-settled c =
    let can = rw (← c.self.view_is) at c.requires.can in
    let all = commits_all _ _ _ _ _ _ _ _ c.args.replies c.self.invariant.0.work can in
    rw (← c.self.view_is) all.settled
