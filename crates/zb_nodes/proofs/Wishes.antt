-- The step that a client has come to, by what it wishes.
use Rattle.std.proofs.Common.{◌≡◌, ℕ, ◌<◌, ◌+◌, List, [], ◌∷◌, length, Option, Some, None, refl, sym, ap, ◌∙◌, subst, arith}
use Rattle.zb_types.specs.declared.ids.Piece.{Piece}
use Rattle.zb_types.specs.declared.ids.ServerId.{ServerId}
use Rattle.zb_types.specs.declared.requests.Request.{Request}
use Rattle.zb_types.specs.declared.lines.Kind.{Kind}
use Rattle.zb_types.specs.declared.lines.Kind.TheVariants as kind
use Rattle.zb_types.specs.Tree.{Tree}
use Rattle.zb_batch.specs.declared.batch.Batch.{Batch}
use Rattle.zb_stripe.specs.Reading.{asked}
use Rattle.zb_basis.specs.declared.calls.Numbered.{Numbered}
use Rattle.zb_work.specs.declared.work.Step.{Step}
use Rattle.zb_work.specs.declared.work.Step.TheVariants as step
use Rattle.zb_work.specs.declared.work.Task.{Task}
use Rattle.zb_work.specs.Steps.{first_members, kind_of_step, step_of}
use Rattle.zb_client.specs.declared.steps.Lookup.{Lookup}
use Rattle.zb_client.specs.declared.steps.Turn.{Turn}
use Rattle.zb_client.specs.declared.steps.Turn.TheVariants as turn
use Rattle.zb_client.specs.declared.steps.Wish.{Wish}
use Rattle.zb_client.specs.declared.steps.Wish.TheVariants as wish
use Rattle.zb_client.specs.Seen.{SeenClient, kind_of, kind_of_task}
use Rattle.zb_client.specs.Wishing.{head_of, lookup_of, request_wish, step_wish, task_wish, wish_of}
use Rattle.zb_client_laws.specs.Around.{Around}
use Rattle.zb_client_laws.specs.Sound.{ClientIsSound, StepIsCurrent}
use Rattle.zb_system.specs.Nodes.{readied}
use Rattle.zb_nodes.specs.Wished.{IsAtCommit, IsAtFetch, IsAtLookup, IsAtStore}

abbrev Asked : Type 0
Asked = ServerId × Request

-- no request is a turn
no_turn : (t : Turn) (g : ℕ) (o : Option Asked) → wish.Turn t ≡ request_wish g o → ⊥
no_turn t g None e = cc e
no_turn t g (Some (server, request)) e = cc e

module _ (c : SeenClient) where
  -- without work no turn is wished
  unworked : (t : Turn) (queue : List Numbered) → wish.Turn t ≡ task_wish c None queue → ⊥
  unworked t [] e = cc e
  unworked t (call ∷ calls) e = cc e

  pub lookup_wished : (l : Lookup) → wish.Turn (turn.Lookup l) ≡ wish_of c → IsAtLookup c l
  lookup_wished l = by c.task refl
    where
      by_step : (task : Task) → c.task ≡ Some task → (s : Step) → task.step ≡ s → wish.Turn (turn.Lookup l) ≡ step_wish c task.tries s → IsAtLookup c l
      by_step task is step.Lookup at e = record { task = task; is = is; at = at; looks = cc e }
      by_step task is (step.Fetch basis place ptr plan) at e = absurd (no_turn (turn.Lookup l) (first_members basis.found).generation (asked plan) e)
      by_step task is (step.Store basis formed) at e = absurd (no_turn (turn.Lookup l) formed.sealed.members.generation (head_of formed.plan) e)
      by_step task is (step.Mark server generation) at e = absurd (cc e)
      by_step task is (step.Commit basis sealed) at e = absurd (cc e)

      by : (t : Option Task) → c.task ≡ t → wish.Turn (turn.Lookup l) ≡ task_wish c t c.queue → IsAtLookup c l
      by None is e = absurd (unworked (turn.Lookup l) c.queue e)
      by (Some task) is e = by_step task is task.step refl e

  -- ---- back from the step to the wish

  -- what the work at this step wishes
  pub wish_at : (task : Task) (s : Step) → c.task ≡ Some task → task.step ≡ s → wish_of c ≡ step_wish c task.tries s
  wish_at task s is at = ap (λ (t : Option Task). task_wish c t c.queue) is ∙ ap (step_wish c task.tries) at
