use Rattle.std.proofs.Common.{rules}
use Rattle.zb_client.proofs.Aims.{updates_left}
use Rattle.zb_client.proofs.client.Client.commit.Goals as goal

pub invariant_of-self : goal.invariant_of-self
invariant_of-self c = (
  record { updates = updates_left _ c.self.inside.kept.items c.leave.new.kept.items c.leave.ensures.kept c.self.invariant.0.updates; in_doubt = search rules; work = search rules },
  search rules,
  c.leave.ensures.aim c.self.inside.queue.items c.self.invariant.2,
)
