use Rattle.zb_server.proofs.Served.{stays_up, served, looked}
use Rattle.zb_server.proofs.server.Server.serve.Goals as goal

pub returns-clause-up : goal.returns-clause-up
returns-clause-up g c store mending was = stays_up _ store _ mending c.args.self.now c.in-Up.is was _ c.said.result

pub returns-clause-told : goal.returns-clause-told
returns-clause-told g c store mending was tells is_open =
    served _ store _ mending c.args.self.now c.in-Up.is was c.args.generation c.args.request.now _ c.answer-answered.result c.said.result (g.B.Bay.meaning c.args.bay.now) _ (c.answer-answered.ensures.told tells) is_open
    (c.has_stopped.ensures.others c.if-has_stopped.false) c.said.ensures

pub returns-then-has_stopped-clause-looked : goal.returns-then-has_stopped-clause-looked
returns-then-has_stopped-clause-looked g c store mending was tells =
    looked _ store _ mending c.args.self.now c.in-Up.is was c.args.generation c.args.request.now (g.B.Bay.meaning c.args.bay.now) _ (c.answer-answered.ensures.looked tells)

pub returns-clause-looked : goal.returns-clause-looked
returns-clause-looked g c store mending was tells =
    looked _ store _ mending c.args.self.now c.in-Up.is was c.args.generation c.args.request.now (g.B.Bay.meaning c.args.bay.now) _ (c.answer-answered.ensures.looked tells)
