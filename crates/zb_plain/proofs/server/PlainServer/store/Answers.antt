use Rattle.std.proofs.Common.{Some, refl, sym, ap, ◌∙◌}
use Rattle.zb_types.specs.declared.requests.Request.TheVariants as ask
use Rattle.zb_holding.specs.Fragments.{share_fragment}
use Rattle.zb_holding.specs.Carrying.{stands_after}
use Rattle.zb_plain.specs.declared.kept.Kept.TheVariants.{Share}
use Rattle.zb_plain.proofs.Naming.{stands_nothing, put_by, after_put}
use Rattle.zb_plain.proofs.Ruling.{store_free}
use Rattle.zb_plain.proofs.server.PlainServer.store.Goals as goal

pub returns-clause-answer : goal.returns-clause-answer
returns-clause-answer c class =
    let old = c.self.inside.kept.entries in
    let free = stands_nothing old c.args.id (sym c.contains_key.ensures ∙ c.if-contains_key.false) in
    rw (← c.self.view_is) (sym (store_free old c.args.id c.args.bytes.now class free))

pub returns-clause-carried : goal.returns-clause-carried
returns-clause-carried c class =
    let old = c.self.inside.kept.entries in
    let free = stands_nothing old c.args.id (sym c.contains_key.ensures ∙ c.if-contains_key.false) in
    let put = put_by old c.insert.new.self.entries c.args.id (Some (Share c.in_ok-share.share)) c.in_ok-insert.ensures.updates.0 in
    let share = ap (λ bytes. Some (share_fragment bytes)) c.in_ok-share.ensures in
    rw (← c.self.view_is) (after_put (ask.Store c.args.id c.args.bytes.now class) old c.insert.new.self.entries c.args.id (Some (share_fragment c.in_ok-share.share)) (λ q. refl)
    (share ∙ ap (stands_after (ask.Store c.args.id c.args.bytes.now class)) (sym free)) put)
