use Rattle.zb_server.proofs.Risen.{back_by}
use Rattle.zb_server.proofs.server.reopened.Goals as goal

pub returns-clause-told : goal.returns-clause-told
returns-clause-told g c tells =
    back_by _ _ (g.B.Bay.meaning c.args.bay.now) _ _ _ (rw c.from.ensures at (c.in_ok-restart.ensures.told tells)) (c.open.ensures.told tells) (c.open.ensures.others tells) c.open.result c.open.ensures.is (c.open.ensures.good tells) (c.open.ensures.unfit tells)
    (c.open.ensures.looked tells) (c.open.ensures.is_open tells)
