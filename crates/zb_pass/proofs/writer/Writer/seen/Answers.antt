use Rattle.zb_pass.proofs.Goings.{ahead_fits}
use Rattle.zb_pass.proofs.writer.Writer.seen.Goals as goal

pub returns-in-Ok-clause-fits : goal.returns-in-Ok-clause-fits
returns-in-Ok-clause-fits c =
    ahead_fits c.args.self.now c.go_on.new.self (record { target = c.args.cleaning.target; members = c.args.members; copies = c.args.cleaning.copies }) c.in-Ok.ahead c.go_on.result
    c.knows.ensures.servers c.knows.ensures.log.room c.knows.ensures.given (record { live = c.requires.live; copied = c.requires.copied }) c.in-Ok.ensures.ok c.go_on.ensures
