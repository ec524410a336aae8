-- Clients that are idle.
use Rattle.std.proofs.Common.{◌≡◌, ℕ, List, [], ◌∷◌, length, Option, Some, None, refl, ap, subst, arith}
use Rattle.zb_types.specs.declared.lines.Kind.TheVariants.{Idle}
use Rattle.zb_basis.specs.declared.calls.Numbered.{Numbered}
use Rattle.zb_work.specs.declared.work.Step.{Step}
use Rattle.zb_work.specs.declared.work.Step.TheVariants as step
use Rattle.zb_work.specs.declared.work.Task.{Task}
use Rattle.zb_work.specs.Steps.{kind_of_step}
use Rattle.zb_client.specs.declared.steps.Told.{Told}
use Rattle.zb_client.specs.Seen.{SeenClient, kind_of, kind_of_task}
use Rattle.zb_system.specs.Nodes.{SeenNodes, readied}
use Rattle.zb_system.specs.Steps.{Does, HasStepped}

-- no step is of the kind of none
busy : (st : Step) → kind_of_step st ≡ Idle → ⊥
busy step.Lookup e = cc e
busy (step.Fetch basis at ptr plan) e = cc e
busy (step.Store basis formed) e = cc e
busy (step.Mark server generation) e = cc e
busy (step.Commit basis sealed) e = cc e

no_work : (t : Option Task) (queue : List Numbered) → kind_of_task t queue ≡ Idle → (t ≡ None) × (queue ≡ [])
no_work None [] e = (refl, refl)
no_work None (call ∷ rest) e = absurd (cc e)
no_work (Some task) queue e = absurd (busy task.step e)

-- one that is idle has no work, and no call in its queue
pub idle_rests : (c : SeenClient) → kind_of c ≡ Idle → (c.task ≡ None) × (c.queue ≡ [])
idle_rests c idle = no_work c.task c.queue idle

-- so it makes no step
pub idle_stands : (old new : SeenNodes) (i : ℕ) (told : Told) (h : HasStepped old new i told) → kind_of h.client ≡ Idle → ⊥
idle_stands old new i told h idle =
    let rests = idle_rests h.client idle in
    let does : Does old new (readied h.client) None h.heard = subst (λ (t : Option Task). Does old new (readied h.client) t h.heard) rests.0 h.does in
    let some = does.queued in
    let none : length h.client.queue ≡ 0 = ap (λ (q : List Numbered). length q) rests.1 in
    absurd (omega (arith, some, none))
