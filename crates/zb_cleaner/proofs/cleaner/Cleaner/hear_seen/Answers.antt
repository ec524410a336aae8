use Rattle.std.proofs.Common.{◌∙◌, ap, sym}
use Rattle.zb_cleaner.specs.Turned.{looked_for}
use Rattle.zb_cleaner.proofs.Heard.{seen_heard}
use Rattle.zb_cleaner.proofs.cleaner.Cleaner.hear_seen.Goals as goal

pub returns-in-Ok-clause-ok : goal.returns-in-Ok-clause-ok
returns-in-Ok-clause-ok g c =
    seen_heard c.args.self.now _ c.in-Some.cleaning c.args.members c.seen.new.self c.in-Ok.work _ (c.self.view_is ∙ c.take_work.ensures.left)
    (sym (c.looked_for.ensures ∙ ap looked_for c.take_work.ensures.taken) ∙ c.in-Some.is) c.in-Ok.ensures.ok c.go_on.ensures
