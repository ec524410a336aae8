use Rattle.std.proofs.Common.{◌∙◌, sym}
use Rattle.zb_cleaner.proofs.Heard.{served_heard}
use Rattle.zb_cleaner.proofs.cleaner.Cleaner.hear_server.Goals as goal

pub returns-in-Ok-clause-ok : goal.returns-in-Ok-clause-ok
returns-in-Ok-clause-ok g c =
    served_heard c.args.self.now _ c.in-Some.work c.args.response c.args.serving (record { writer = c.served.new.self; next = c.in-Ok.next }) _ (c.self.view_is ∙ c.take_work.ensures.left)
    (sym c.take_work.ensures.taken ∙ c.in-Some.is) c.requires.answers c.in-Ok.ensures.ok c.go_on.ensures
