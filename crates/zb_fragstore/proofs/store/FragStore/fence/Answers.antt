use Rattle.std.proofs.Common.{ap, ◌∙◌, refl}
use Rattle.zb_fragstore.specs.Seen.{SeenStore}
use Rattle.zb_fragstore.proofs.Refused.{refused_by, fence_kept_at}
use Rattle.zb_fragstore.proofs.Fences.{fence_told}
use Rattle.zb_fragstore.proofs.store.FragStore.fence.Goals as goal

pub returns-in_err-check_generation-clause-told : goal.returns-in_err-check_generation-clause-told
returns-in_err-check_generation-clause-told g c tells is_open = refused_by _ _ _ _ c.from_residual.ensures.0 is_open

pub returns-then-generation-self-clause-told : goal.returns-then-generation-self-clause-told
returns-then-generation-self-clause-told g c tells is_open = fence_kept_at _ _ _ _ (c.if-generation-self.true ∙ ap (λ (s : SeenStore). s.fence) c.self.view_is) is_open

pub returns-clause-told : goal.returns-clause-told
returns-clause-told g c tells is_open =
    rw (← c.self.view_is) (fence_told _ _ _ _ (rw (← c.self.view_is) at is_open) _ _ _ _ _ c.or_stopped.ensures refl refl c.platter.ensures (c.fence_at.ensures.told tells))
