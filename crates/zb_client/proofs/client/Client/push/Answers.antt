use Rattle.zb_client.proofs.Fits.{kept_pushed}
use Rattle.zb_work.specs.Steps.{aim_of}
use Rattle.zb_client.proofs.Aims.{aim_pushed}
use Rattle.zb_client.proofs.client.Client.push.Goals as goal

pub invariant_of-self-2 : goal.invariant_of-self-2
invariant_of-self-2 c = (
  kept_pushed _ _ _ _ _ c.self.inside.queue.items _ (record { number = c.args.number; call = c.args.call }) _ _ c.self.invariant.0 c.in_ok-push_back.ensures.items,
  record { empty = tt; lines = tt },
  aim_pushed c.self.inside.kept.items c.self.inside.queue.items _ (record { number = c.args.number; call = c.args.call }) (aim_of c.self.inside.task) c.self.invariant.2 c.in_ok-push_back.ensures.items,
)
