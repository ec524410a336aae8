-- A client that is idle.
use Rattle.std.proofs.Common.{◌≡◌, ℕ, ◌+◌, List, [], ◌∷◌, length, Option, Some, None, refl, subst, arith}
use Rattle.zb_types.specs.declared.lines.Kind.TheVariants.{Idle}
use Rattle.zb_types.specs.declared.lines.Outcome.{Outcome}
use Rattle.zb_claims.specs.Points.{calls}
use Rattle.zb_given.specs.Given.{Given, calls_of}
use Rattle.zb_given.specs.Ends.{HaveLastLines, HaveLines}
use Rattle.zb_given.specs.Queues.{CallsStand}
use Rattle.zb_given.proofs.Standing.{idle_has_lines, none_kept_has_last}
use Rattle.zb_basis.specs.declared.calls.Numbered.{Numbered}
use Rattle.zb_work.specs.declared.work.Step.{Step}
use Rattle.zb_work.specs.declared.work.Step.TheVariants as step
use Rattle.zb_work.specs.declared.work.Task.{Task}
use Rattle.zb_work.specs.Steps.{aim_of, kind_of_step}
use Rattle.zb_client.specs.Seen.{SeenClient, kind_of, kind_of_task}
use Rattle.zb_line_laws.specs.Calls.{AimHas, HasItsCalls, numbers_of}
use Rattle.zb_system.specs.Nodes.{IsClient, SeenNodes}
use Rattle.zb_system.specs.Sound.{AreSound}

-- no step is of the kind of none
busy : (st : Step) → kind_of_step st ≡ Idle → ⊥
busy step.Lookup e = absurd (cc e)
busy (step.Fetch basis at ptr plan) e = absurd (cc e)
busy (step.Store basis formed) e = absurd (cc e)
busy (step.Mark server generation) e = absurd (cc e)
busy (step.Commit basis sealed) e = absurd (cc e)

no_work : (t : Option Task) (queue : List Numbered) → kind_of_task t queue ≡ Idle → (t ≡ None) × (queue ≡ [])
no_work None [] e = (refl, refl)
no_work None (call ∷ rest) e = absurd (cc e)
no_work (Some task) queue e = absurd (busy task.step e)

module _ (given : Given) (lines : List Outcome) (n : SeenNodes) (i : ℕ) (c : SeenClient) (s : AreSound given lines n) (is : IsClient n i c) (idle : kind_of c ≡ Idle) where
  h : HasItsCalls given lines c
  h = s.calls.calls i c is

  none : (c.task ≡ None) × (c.queue ≡ [])
  none = no_work c.task c.queue idle

  lined_is : h.lined ≡ h.taken
  lined_is = subst (λ (t : Option Task). AimHas (aim_of t) h.taken h.lined) none.0 h.work

  all_taken : h.taken ≡ length (calls_of given c.client)
  all_taken = let e : h.taken + 0 ≡ length (calls_of given c.client) = subst (λ (q : List Numbered). h.taken + length q ≡ length (calls_of given c.client)) none.1 h.all in omega (arith, e)

  number_is : c.client ≡ i + 1
  number_is = (s.clients i c is).1

  pub has_lines : HaveLines given lines (calls (i + 1))
  has_lines =
      subst (λ (k : ℕ). HaveLines given lines (calls k)) number_is
      (idle_has_lines given lines c.client (numbers_of c.kept) h.taken all_taken (subst (λ (k : ℕ). CallsStand given lines c.client (numbers_of c.kept) h.taken k) lined_is h.stand))

  pub has_last : c.kept ≡ [] → HaveLastLines given lines (calls (i + 1))
  has_last kept =
      subst (λ (k : ℕ). HaveLastLines given lines (calls k)) number_is
      (none_kept_has_last given lines c.client h.taken h.lined all_taken (subst (λ (ks : List Numbered). CallsStand given lines c.client (numbers_of ks) h.taken h.lined) kept h.stand))
