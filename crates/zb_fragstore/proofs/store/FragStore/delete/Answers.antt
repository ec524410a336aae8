use Rattle.std.proofs.Common.{ap, ◌∙◌}
use Rattle.zb_types.specs.declared.requests.Request.TheVariants as ask
use Rattle.zb_types.specs.declared.requests.StoreFault.TheVariants as fault
use Rattle.zb_fragstore.specs.Seen.{SeenStore}
use Rattle.zb_fragstore.proofs.Refused.{refused}
use Rattle.zb_fragstore.proofs.Told.{deleted}
use Rattle.zb_fragstore.proofs.store.FragStore.delete.Goals as goal

pub returns-in_default-clause-told : goal.returns-in_default-clause-told
returns-in_default-clause-told g c tells is_open = rw c.in_default.ensures.same (refused (ask.Delete c.args.id) c.args.self.now fault.NoFragment (g.B.Bay.meaning c.args.bay.now) is_open)

pub returns-clause-told : goal.returns-clause-told
returns-clause-told g c tells is_open =
    deleted _ _ _ _ _ _ _ _ c.or_stopped.ensures c.give_slot.ensures.rest is_open
    (ap (λ (s : SeenStore). s.geo) (c.self.view_is ∙ c.give_slot.ensures.rest)) (c.platter.ensures ∙ ap (λ (s : SeenStore). s.server.0) c.give_slot.ensures.rest)
    _ _ c.in-Some.ensures.given (c.free_at.ensures.told tells)
