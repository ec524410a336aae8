use Rattle.std.proofs.Common.{Option, Some, sym, subst}
use Rattle.std.specs.Prelude.{IsSome}
use Rattle.zb_index.specs.declared.spot.Spot.{Spot}
use Rattle.zb_holding.proofs.Keys.{put_by, found_is}
use Rattle.zb_index.proofs.index.set_spot.Goals as goal

pub returns-in-Some-clause-put : goal.returns-in-Some-clause-put
returns-in-Some-clause-put c =
    let held = subst (λ (o : Option Spot). IsSome o) (sym (found_is c.args.spots.now.entries c.args.id)) c.requires.held in
    put_by c.args.spots.now.entries (c.get_mut.follows.lender c.args.spot).entries c.args.id (Some c.args.spot) ((c.get_mut.follows.holds c.args.spot).3 held).0
