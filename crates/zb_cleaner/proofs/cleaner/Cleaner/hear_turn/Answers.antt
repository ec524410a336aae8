use Rattle.std.proofs.Common.{◌∙◌, Option, ap}
use Rattle.zb_pass.specs.declared.work.Work.{Work}
use Rattle.zb_cleaner.specs.Turned.{turned}
use Rattle.zb_cleaner.proofs.Heard.{turn_fits, turn_heard}
use Rattle.zb_cleaner.proofs.cleaner.Cleaner.hear_turn.Goals as goal

pub go_on-requires-clause-fits : goal.go_on-requires-clause-fits
go_on-requires-clause-fits g c =
    turn_fits c.args.self.now c.take_work.new.self c.args.answer c.turned-next.result c.take_work.ensures.left
    (c.turned-next.ensures ∙ ap (λ (k : Option Work). turned k c.args.answer) c.take_work.ensures.taken) c.knows.ensures.work

pub returns : goal.returns
returns g c =
    turn_heard c.args.self.now c.take_work.new.self c.args.answer c.turned-next.result _ c.requires.turn c.requires.answers c.take_work.ensures.left
    (c.turned-next.ensures ∙ ap (λ (k : Option Work). turned k c.args.answer) c.take_work.ensures.taken) c.go_on.ensures
