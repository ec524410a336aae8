use Rattle.std.proofs.Common.{◌≡◌, ◌≤◌, ◌+◌, Some, true, ap, sym, ◌∙◌, arith}
use Rattle.zb_index.specs.Seen.{spot_of}
use Rattle.zb_fragstore.specs.Seen.{is_share}
use Rattle.zb_fragstore.specs.Seen.{SeenStore}
use Rattle.zb_fragstore.proofs.Retrieved.{share_read}
use Rattle.zb_fragstore.proofs.store.FragStore.retrieve.Goals as goal

pub returns-clause-found : goal.returns-clause-found
returns-clause-found g c tells is_open =
    let at : spot_of c.args.self.now.index c.args.id ≡ Some c.in-Some.spot = sym c.find.ensures.spot ∙ c.in-Some.is in
    let share : is_share c.args.self.now c.args.id ≡ true = grind (arith, c.is_share.ensures, c.if-not-is_share.false) in
    let within : c.args.place + c.args.len ≤ c.in-Some.spot.len = omega (arith, c.if-from.false, c.from.ensures, c.from-2.ensures, c.from-3.ensures) in
    share_read c.args.self.now _ c.args.id c.in-Some.spot _ _ (ap (λ (s : SeenStore). s.geo) c.self.view_is) c.platter-platter.ensures is_open at
    c.args.place c.args.len c.share_bytes.result c.in_ok-bytes.bytes c.in_ok-bytes.ensures share within (c.share_bytes.ensures.bytes tells)
