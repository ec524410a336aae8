use Rattle.std.proofs.Common.{◌∙◌, ap}
use Rattle.zb_ledger.specs.Seen.{Calls}
use Rattle.zb_ledger.proofs.Keys.{found_call, removed_call}
use Rattle.zb_ledger.proofs.ledger.Ledger.end.Goals as goal

pub returns-clause-call : goal.returns-clause-call
returns-clause-call c = rw (← c.self.view_is) (c.remove.ensures.value ∙ found_call c.self.inside.waiting.entries c.args.client c.args.number)

pub returns-clause-ended : goal.returns-clause-ended
returns-clause-ended c = rw (← c.self.view_is) (ap (λ (waiting : Calls). record { clients = c.self.inside.clients; counts = c.self.inside.counts.items; looked = c.self.inside.looked.items; waiting = waiting; updates = c.self.inside.history.updates.items; answered = c.self.inside.history.reads.items; room = c.self.inside.room })
    (c.remove.ensures.entries ∙ removed_call c.self.inside.waiting.entries c.args.client c.args.number c.self.invariant.2))
