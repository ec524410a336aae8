use Rattle.std.proofs.Common.{ap}
use Rattle.zb_fragstore.specs.Seen.{SeenStore}
use Rattle.zb_fragstore.proofs.Retrieved.{parity_read}
use Rattle.zb_fragstore.proofs.store.FragStore.read_parity.Goals as goal

pub returns-clause-found : goal.returns-clause-found
returns-clause-found g c tells is_open id at parity =
    parity_read c.args.self.now _ id c.args.spot _ _ (ap (λ (s : SeenStore). s.geo) c.self.view_is) c.platter-platter.ensures is_open at
    c.args.place c.args.len c.parity_range.result c.in_ok-range.range c.in_ok-range.ensures parity (c.parity_range.ensures.lengths tells) (c.parity_range.ensures.bytes tells)
