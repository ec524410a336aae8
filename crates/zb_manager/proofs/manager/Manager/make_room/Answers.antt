use Rattle.std.proofs.Common.{◌^◌, ◌<◌, subst}
use Rattle.zb_tables.specs.Taking.{stripe_room}
use Rattle.zb_manager.specs.Managers.{SeenManager}
use Rattle.zb_manager.proofs.Preparing.{small_stripe}
use Rattle.zb_manager.proofs.manager.Manager.make_room.Goals as goal

pub returns-clause-small : goal.returns-clause-small
returns-clause-small c =
    let sizes = c.self.inside.sizes in
    subst (λ (s : SeenManager). stripe_room s.sizes < 2 ^ 32) c.self.view_is (small_stripe sizes.servers sizes.fragment sizes.limits.servers_high sizes.limits.fragment_high)
