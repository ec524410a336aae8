-- The client that a blocked one waits for: it has work, and nobody blocks it.
use Rattle.std.proofs.Common.{◌≡◌, ◌≢◌, ℕ, ◌-◌, ◌≤◌, ◌<◌, true, false, Bool, List, ◌++◌, length, Option, Some, None, Result, Ok, Err, refl, sym, ap, ◌∙◌, subst, arith, inr}
use Rattle.std.specs.Prelude.{◌↔◌, IfErr, IfOk, OnErr, OnOk, slice_get, option_map, if◌then◌else◌}
use Rattle.std.proofs.lemmas.Option.{none-some, same_Some, slice_get_within}
use Rattle.zb_types.specs.declared.geometry.Geometry.{Geometry}
use Rattle.zb_types.specs.declared.lines.Kind.TheVariants as kind
use Rattle.zb_types.specs.declared.lines.Outcome.{Outcome}
use Rattle.zb_claims.specs.Text.{report_text}
use Rattle.zb_given.specs.Calls.{LookedUp}
use Rattle.zb_given.specs.Given.{Given}
use Rattle.zb_given.specs.Telling.{StepTells}
use Rattle.zb_turns.specs.Turns.{other_holder}
use Rattle.zb_client.specs.declared.steps.Wish.{Wish}
use Rattle.zb_client.specs.Seen.{SeenClient, kind_of}
use Rattle.zb_client.specs.Wishing.{wish_of}
use Rattle.zb_ending.specs.Holding.{ClientWorks}
use Rattle.zb_ending.specs.Left.{work_left}
use Rattle.zb_ending.proofs.Fewer.{ready_same}
use Rattle.zb_ending.proofs.Busy.{holder_of as holder_works, not_idle, other_is, own_free}
use Rattle.zb_nodes.specs.declared.answers.Halt.{Halt}
use Rattle.zb_nodes.specs.Seen.{blocker_at, blocker_of, kind_at}
use Rattle.zb_nodes.specs.Wished.{blocker_in, waits}
use Rattle.zb_course.specs.Seen.{SeenCourse}
use Rattle.zb_course.specs.Steps.{HasHalted, HasWaited, StepIs, holder_of}
use Rattle.zb_course.specs.declared.step.Step.{Step}
use Rattle.zb_course.specs.declared.step.Step.TheVariants as step
use Rattle.zb_running.specs.Reports.{HasReport, reads_of}
use Rattle.zb_running.specs.Resting.{LeavesRest}
use Rattle.zb_running.specs.Telling.{HasHalted as Halts, HasTold, SomeHasTold}
use Rattle.zb_running.proofs.OfSystems.{within_both}
use Rattle.zb_running.proofs.Reported.{halts_so, sized, step_told, wait_given}
use Rattle.zb_running.proofs.Steps.{leaves_both, leaves_by, leaves_halt, leaves_ready, nearer, quiet_by, settled_by}

-- the one that is waited for holds
held_in : (holder : Option ℕ) (client : ℕ) (wish : Wish) (who : ℕ) → blocker_in holder client wish ≡ Some who → holder ≡ Some who
held_in holder client wish who e = by (waits wish) e where
  by : (b : Bool) → (if b then other_holder client holder else None) ≡ Some who → holder ≡ Some who
  by true f = (other_is client holder who f).0
  by false f = absurd (none-some who f)

held_by : (holder : Option ℕ) (o : Option SeenClient) (who : ℕ) → blocker_of holder o ≡ Some who → holder ≡ Some who
held_by holder None who e = absurd (none-some who e)
held_by holder (Some c) who e = held_in holder c.client (wish_of c) who e

-- nobody waits for itself
unblocked : (holder : Option ℕ) (client : ℕ) (wish : Wish) → holder ≡ Some client → blocker_in holder client wish ≡ None
unblocked holder client wish e = by (waits wish) where
  by : (b : Bool) → (if b then other_holder client holder else None) ≡ None
  by true = own_free client holder e
  by false = refl

module _ {geo : Geometry} {given : Given} {lines : List Outcome} {old : SeenCourse} (r : HasReport geo given lines old) (mid : SeenCourse) (client who : ℕ) (low : 1 ≤ client) (w : HasWaited old mid client) (e : blocker_at old.nodes (client - 1) ≡ Some who) where
  -- the report, where the client waits
  abbrev pub Waiting : HasReport geo given lines mid
  Waiting = (wait_given r mid client low w).report

  holds : mid.nodes.manager.holder ≡ Some who
  holds = w.nodes.manager.holder ∙ held_by old.nodes.manager.holder (slice_get old.nodes.clients (client - 1)) who e

  works : ClientWorks mid.nodes who
  works = holder_works mid.nodes Waiting.settled.well.works who holds

  numbered : works.client.client ≡ who
  numbered = (Waiting.settled.sound.clients works.place works.client works.is).1 ∙ sym works.numbered

  place_is : who - 1 ≡ works.place
  place_is = let n = works.numbered in omega (arith, n)

  there : slice_get mid.nodes.clients (who - 1) ≡ Some works.client
  there = ap (λ (k : ℕ). slice_get mid.nodes.clients k) place_is ∙ works.is

  pub who_low : 1 ≤ who
  who_low = let n = works.numbered in omega (arith, n)

  pub who_high : who ≤ length mid.nodes.clients
  who_high = let n = works.numbered in let lt = slice_get_within mid.nodes.clients works.place works.client works.is in omega (arith, n, lt)

  pub who_own : who ≤ mid.ledger.clients
  who_own = let high = who_high in let same = Waiting.settled.well.clients in omega (arith, high, same)

  pub who_works : kind_at mid.nodes (who - 1) ≢ Some kind.Idle
  who_works idle = not_idle works.client works.works (same_Some (kind_of works.client) kind.Idle (sym (ap (λ (o : Option SeenClient). option_map kind_of o) there) ∙ idle))

  pub who_free : blocker_at mid.nodes (who - 1) ≡ None
  who_free = ap (blocker_of mid.nodes.manager.holder) there ∙ unblocked mid.nodes.manager.holder works.client.client (wish_of works.client) (holds ∙ ap (λ (k : ℕ). Some k) (sym numbered))

  -- what it tells then
  pub told_behind : (new : SeenCourse) → HasTold Waiting new who → SomeHasTold r new client
  told_behind new t = record {
    who = who;
    told = record {
      place = t.place;
      client_is = t.client_is;
      more = t.more;
      report = t.report;
      tells = subst (λ (read : Option LookedUp). StepTells given lines who read (reads_of t.report t.place) t.more) ((wait_given r mid client low w).reads t.place) t.tells;
      others = λ j ne. t.others j ne ∙ (wait_given r mid client low w).reads j;
      text = t.text ∙ ap (λ (x : List ℕ). x ++ report_text t.more) w.text;
    };
    why = inr e;
  }

  -- ---- its step

  module _ (new : SeenCourse) where
    pub not_rest : (res : Result Step Halt) → IfOk res (λ did. (did ≡ step.Idle) ↔ (kind_at mid.nodes (who - 1) ≡ Some kind.Idle)) → kind_at old.nodes (client - 1) ≢ Some kind.Idle
        → IfOk res (λ did. (did ≡ step.Idle) ↔ (kind_at old.nodes (client - 1) ≡ Some kind.Idle))
    not_rest (Ok did) is ne = (λ idle. absurd (who_works (is.0 idle)), λ idle. absurd (ne idle))
    not_rest (Err why) is ne = tt

    pub not_idle_there : (res : Result Step Halt) → IfOk res (λ did. (did ≡ step.Idle) ↔ (kind_at mid.nodes (who - 1) ≡ Some kind.Idle)) → IfOk res (λ did. did ≡ step.Idle → kind_at new.nodes (client - 1) ≡ Some kind.Idle)
    not_idle_there (Ok did) is = λ idle. absurd (who_works (is.0 idle))
    not_idle_there (Err why) is = tt

    pub goes_free : (res : Result Step Halt) → IfOk res (λ did. holder_of did ≡ blocker_at mid.nodes (who - 1)) → IfOk res (λ did. holder_of did ≡ None)
    goes_free (Ok did) is = is ∙ who_free
    goes_free (Err why) is = tt

    pub comes_nearer : (res : Result Step Halt) → IfOk res (StepIs mid new who) → IfOk res (λ did. holder_of did ≡ blocker_at mid.nodes (who - 1)) → IfOk res (λ did. did ≢ step.Idle → work_left new.nodes < work_left old.nodes)
    comes_nearer (Ok did) is free = λ made. subst (λ (k : ℕ). work_left new.nodes < k) (ready_same old.nodes mid.nodes (client - 1) w.nodes) (nearer Waiting new who did is made (free ∙ who_free))
    comes_nearer (Err why) is free = tt

    pub leaves : (res : Result Step Halt) → IfOk res (StepIs mid new who) → IfErr res (HasHalted mid new who) → LeavesRest old.nodes new.nodes
    leaves (Ok did) is halts = leaves_both old.nodes mid.nodes new.nodes (leaves_ready old.nodes mid.nodes (client - 1) w.nodes) (leaves_by Waiting new who did is)
    leaves (Err why) is halts = leaves_both old.nodes mid.nodes new.nodes (leaves_ready old.nodes mid.nodes (client - 1) w.nodes) (leaves_halt Waiting new who why halts)

    pub settles : (res : Result Step Halt) → IfOk res (StepIs mid new who) → OnOk res (new.untold ≡ None)
    settles (Ok did) is = settled_by Waiting new who did is
    settles (Err why) is = tt

    pub quiet : (res : Result Step Halt) → IfOk res (StepIs mid new who) → IfOk res (λ did. did ≢ step.Answered → new.text ≡ old.text)
    quiet (Ok did) is = λ silent. quiet_by Waiting new who did is silent ∙ w.text
    quiet (Err why) is = tt

    pub tells : (res : Result Step Halt) → IfOk res (StepIs mid new who) → OnOk res (SomeHasTold r new client)
    tells (Ok did) is = told_behind new (step_told Waiting new who (within_both geo.clients who who_low (subst (λ (k : ℕ). who ≤ k) (sized Waiting) who_high)) did is)
    tells (Err why) is = tt

    pub halts : (res : Result Step Halt) → IfErr res (HasHalted mid new who) → OnErr res (Halts geo given lines old new)
    halts (Ok did) h = tt
    halts (Err why) h =
        let there = halts_so Waiting new who why (within_both geo.clients who who_low (subst (λ (k : ℕ). who ≤ k) (sized Waiting) who_high)) h in
        record { report = there.report; text = there.text ∙ w.text }
