use Rattle.zb_plain.specs.Standing.{entries_of}
use Rattle.zb_fetching.proofs.Asked.{changes_nothing}
use Rattle.zb_fetching.proofs.asking.answer.Goals as goal

pub returns-clause-same : goal.returns-clause-same
returns-clause-same c is =
    changes_nothing c.serve.result (entries_of c.args.plain.now c.args.server) c.args.request.now is c.serve.ensures.answer c.serve.ensures.same c.serve.ensures.err
