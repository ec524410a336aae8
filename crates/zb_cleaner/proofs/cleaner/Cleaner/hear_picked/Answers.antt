use Rattle.zb_cleaner.proofs.Heard.{picked_heard}
use Rattle.zb_cleaner.proofs.cleaner.Cleaner.hear_picked.Goals as goal

pub returns-clause-ok : goal.returns-clause-ok
returns-clause-ok g c =
    picked_heard c.args.self.now _ c.args.status c.args.live c.slice.result.now c.in_ok-work.work _ c.self.view_is c.slice.ensures c.requires.answers c.in_ok-work.ensures.ok c.go_on.ensures
