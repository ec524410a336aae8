-- The steps that look nothing up: a call is taken, a request stored, a batch committed.
use Rattle.std.proofs.Common.{◌≡◌, ℕ, ◌+◌, ◌*◌, ◌<◌, ◌≤◌, Bool, true, false, List, [], ◌∷◌, ◌++◌, length, length-append, length-drop, take, drop, Option, Some, None, refl, sym, ap, ◌∙◌, subst, arith}
use Rattle.std.specs.Prelude.{◌&&◌, nat_lt, slice_get}
use Rattle.std.proofs.lemmas.Bool.{cond_both}
use Rattle.std.proofs.lemmas.List.{length-take}
use Rattle.std.proofs.lemmas.Option.{none-some}
use Rattle.zb_types.specs.declared.calls.Reply.{Reply}
use Rattle.zb_types.specs.declared.ids.ServerId.{ServerId}
use Rattle.zb_types.specs.declared.lines.Said.TheVariants as said
use Rattle.zb_types.specs.declared.nodes.Cause.{Cause}
use Rattle.zb_types.specs.declared.nodes.Cause.TheVariants.{NoSpace}
use Rattle.zb_types.specs.declared.requests.Request.{Request}
use Rattle.zb_types.specs.declared.requests.Response.TheVariants as told
use Rattle.zb_types.specs.declared.requests.StoreFault.TheVariants as fault
use Rattle.zb_types.specs.declared.tables.CommitFault.{CommitFault}
use Rattle.zb_types.specs.declared.tables.CommitFault.TheVariants.{Regen, Stale, Worn, NoMemory, Stopped}
use Rattle.zb_types.specs.Apply.{is_bufferable, is_update}
use Rattle.zb_types.specs.Limits.{most_kept}
use Rattle.zb_types.specs.Tree.{Tree}
use Rattle.zb_stripe.specs.Feeding.{fed_by, left_after}
use Rattle.zb_tables.specs.Tables.{Tables}
use Rattle.zb_tables.specs.Taking.{Sizes}
use Rattle.zb_basis.specs.declared.basis.Basis.{Basis}
use Rattle.zb_basis.specs.declared.basis.Formed.{Formed}
use Rattle.zb_basis.specs.declared.basis.Sealed.{Sealed}
use Rattle.zb_basis.specs.declared.calls.Numbered.{Numbered}
use Rattle.zb_basis.specs.Runs.{run_of}
use Rattle.zb_work.specs.declared.work.Aim.{Aim}
use Rattle.zb_work.specs.declared.work.Aim.TheVariants.{Update, Read, Finish}
use Rattle.zb_work.specs.declared.work.Flushed.{Flushed}
use Rattle.zb_work.specs.declared.work.Step.{Step}
use Rattle.zb_work.specs.declared.work.Step.TheVariants as step
use Rattle.zb_work.specs.declared.work.Task.{Task}
use Rattle.zb_work.specs.Fitting.{AimFits, BeginsRead, StepFits}
use Rattle.zb_work.specs.Steps.{aim_of, next_task, new_task, step_of, with_step}
use Rattle.zb_client.specs.Seen.{SeenClient}
use Rattle.zb_client.specs.Hearing.{commits, first_stripe, goes_on_storing, hears_outdated, keeps, left, notes, takes_call, takes_first, tried}
use Rattle.zb_client.specs.Telling.{Heard, answers_first, gives_up_aim, gives_up_for}
use Rattle.zb_client_laws.specs.Around.{Around}
use Rattle.zb_client_laws.specs.Known.{IsKnown}
use Rattle.zb_client_laws.specs.Sound.{ClientIsSound}
use Rattle.zb_client_laws.proofs.Delivered.{delivered}
use Rattle.zb_client_laws.proofs.Lasting.{looks_again, next_looks}
use Rattle.zb_progress.specs.Fresh.{is_fresh, is_fresh_at}
use Rattle.zb_progress.specs.Left.{rank, stage, stale_steps, steps_from_lookup, steps_left, work_rank}
use Rattle.zb_progress.proofs.Committing.{some-op}
use Rattle.zb_progress.proofs.Falling.{at-lookup, rank-falls, rank-falls-far, same-aim, stage-falls, step-falls}

-- what any work counts
rank-most : (aim : Option Aim) → work_rank aim ≤ 2
rank-most None = omega arith
rank-most (Some (Update number)) = omega arith
rank-most (Some Read) = omega arith
rank-most (Some Finish) = omega arith

module _ (z : Sizes) (t : Tables) (c : SeenClient) where
  -- the client after a step has fewer steps
  abbrev pub Fewer : Heard → Type 0
  Fewer heard = steps_left z t heard.client < steps_left z t c

  -- ---- a call is taken

  -- a client without work counts one
  idle-rank : c.task ≡ None → work_rank (aim_of c.task) ≡ 1
  idle-rank none = ap (λ (o : Option Task). work_rank (aim_of o)) none

  kept-falls : (call : Numbered) (rest : List Numbered) → c.task ≡ None → c.queue ≡ call ∷ rest → Fewer (keeps (record c { kept = c.kept ++ call ∷ []; queue = rest }) call)
  kept-falls call rest none queue =
      let d : SeenClient = record c { kept = c.kept ++ call ∷ []; queue = rest } in
      let idle = idle-rank none in
      let long = ap (λ (q : List Numbered). length q) queue in
      let more = length-append c.kept (call ∷ []) in
      cond_both (is_bufferable call.call && nat_lt (length d.kept) most_kept) _ _ Fewer
      (λ _. rank-falls z t t c (record d { is_ready = false }) (omega (arith, idle, long, more)) (ap step_of none))
      (λ _. rank-falls z t t c (record d { task = new_task (Update call.number); is_ready = false }) (omega (arith, idle, long, more)) refl)

  taken-falls : (queue : List Numbered) → c.task ≡ None → c.queue ≡ queue → 0 < length queue → Fewer (takes_first c queue)
  taken-falls [] none e some = absurd (omega arith)
  taken-falls (call ∷ rest) none e some =
      let idle = idle-rank none in
      cond_both (is_update call.call) _ _ Fewer (λ _. kept-falls call rest none e)
      (λ _. rank-falls z t t c (record c { task = new_task Read; is_ready = false }) (omega (arith, idle)) refl)

  pub call-falls : c.task ≡ None → 0 < length c.queue → Fewer (takes_call c)
  call-falls none some = taken-falls c.queue none refl some

  -- ---- a request is carried out

  module _ (basis : Basis) (formed : Formed) (e : step_of c.task ≡ step.Store basis formed) where
    -- a step other than a lookup is of some work
    some-task : (o : Option Task) → c.task ≡ o → (task : Task) × (c.task ≡ Some task)
    some-task None n = absurd (clash (sym (ap step_of n) ∙ e)) where
      clash : step.Lookup ≡ step.Store basis formed → ⊥
      clash x = cc x
    some-task (Some task) is = (task, is)

    -- the same work goes on at another step, with what it looked up
    goes-on : (new : Step) (d : SeenClient) → d.task ≡ with_step new c.task → d.kept ≡ c.kept → d.queue ≡ c.queue → d.block ≡ c.block
        → is_fresh_at t c.block c.kept new ≡ is_fresh_at t c.block c.kept (step.Store basis formed) → stage z new < stage z (step.Store basis formed) → steps_left z t d < steps_left z t c
    goes-on new d task kept queue block same lt =
        let own = some-task c.task refl in
        let stale : stale_steps z (is_fresh_at t c.block c.kept new) ≡ stale_steps z (is_fresh t c) = ap (stale_steps z) (same ∙ sym (ap (is_fresh_at t c.block c.kept) e)) in
        let was : stage z (step_of c.task) ≡ stage z (step.Store basis formed) = ap (stage z) e in
        step-falls z t c d own.0 new own.1 task kept queue block (omega (arith, stale, was, lt))

    -- which step a store leads to makes no difference to what it rests on
    same-left : (kept : List Numbered) (other : Formed) → is_fresh_at t c.block kept (step.Store basis other) ≡ is_fresh_at t c.block kept (step.Store basis formed)
    same-left [] other = refl
    same-left (first ∷ others) other = refl

    same-sealed : (kept : List Numbered) (sealed : Sealed) → is_fresh_at t c.block kept (step.Commit basis sealed) ≡ is_fresh_at t c.block kept (step.Store basis formed)
    same-sealed [] sealed = refl
    same-sealed (first ∷ others) sealed = refl

    done-by : (asked : ServerId × Request) (plan : List (ServerId × Request)) → formed.plan ≡ plan → slice_get plan 0 ≡ Some asked
        → Fewer (goes_on_storing (notes c formed (fed_by plan told.Done)) basis formed told.Done (fed_by plan told.Done))
    done-by asked [] plan is = absurd (none-some asked is)
    done-by asked (q ∷ []) plan is =
        goes-on (step.Commit basis formed.sealed) (goes_on_storing (notes c formed (fed_by (q ∷ []) told.Done)) basis formed told.Done (fed_by (q ∷ []) told.Done)).client refl refl refl refl
        (same-sealed c.kept formed.sealed) (omega arith)
    done-by asked (p ∷ (q ∷ rest)) plan is =
        goes-on (step.Store basis (left formed told.Done))
        (goes_on_storing (notes c formed (fed_by (p ∷ (q ∷ rest)) told.Done)) basis formed told.Done (fed_by (p ∷ (q ∷ rest)) told.Done)).client refl refl refl refl (same-left c.kept (left formed told.Done))
        (let long = ap (λ (rs : List (ServerId × Request)). length (left_after rs told.Done)) plan in let was = ap (λ (rs : List (ServerId × Request)). length rs) plan in omega (arith, long, was))

    pub done-falls : (asked : ServerId × Request) → slice_get formed.plan 0 ≡ Some asked
        → Fewer (goes_on_storing (notes c formed (fed_by formed.plan told.Done)) basis formed told.Done (fed_by formed.plan told.Done))
    done-falls asked is = done-by asked formed.plan refl is

    -- ---- a server has no slot

    module _ (flushed : Option Flushed) (cause : Cause) where
      abbrev Noted : SeenClient
      Noted = record c { flushed = flushed }

      read-falls : (queue : List Numbered) → c.queue ≡ queue → BeginsRead queue → Fewer (answers_first Noted queue (said.Failed cause))
      read-falls [] q begins = absurd begins
      read-falls (read ∷ rest) q begins =
          let long = ap (λ (xs : List Numbered). length xs) q in
          rank-falls z t t c (record Noted { task = None; queue = rest; is_ready = false }) (omega (arith, long)) refl

      aim-falls : (aim : Aim) → aim_of c.task ≡ Some aim → AimFits c.kept c.queue (Some aim) → Fewer (gives_up_aim Noted aim cause)
      aim-falls (Update number) is fits =
          let two = ap work_rank is in
          rank-falls z t t c (record Noted { task = None; is_ready = false }) (omega (arith, two)) refl
      aim-falls Read is fits = read-falls c.queue refl fits
      aim-falls Finish is fits =
          let two = ap work_rank is in
          let less = length-take c.doubted c.kept in
          rank-falls z t t c (record Noted { task = None; kept = take c.doubted c.kept; is_ready = false }) (omega (arith, two, less)) refl

      pub given-up : AimFits c.kept c.queue (aim_of c.task) → (o : Option Task) → c.task ≡ o → Fewer (gives_up_for Noted o cause)
      given-up fits None n = absurd (clash (sym (ap step_of n) ∙ e)) where
        clash : step.Lookup ≡ step.Store basis formed → ⊥
        clash x = cc x
      given-up fits (Some task) is = aim-falls task.aim (ap aim_of is) (subst (λ (x : Option Task). AimFits c.kept c.queue (aim_of x)) is fits)

    full-by : (free : ℕ) → AimFits c.kept c.queue (aim_of c.task) → (plan : List (ServerId × Request)) → formed.plan ≡ plan
        → Fewer (goes_on_storing (notes c formed (fed_by plan (told.Refused (fault.NoSlot free)))) basis formed (told.Refused (fault.NoSlot free)) (fed_by plan (told.Refused (fault.NoSlot free))))
    full-by free fits [] plan =
        let full = told.Refused (fault.NoSlot free) in
        goes-on (step.Commit basis formed.sealed) (goes_on_storing (notes c formed (fed_by [] full)) basis formed full (fed_by [] full)).client refl refl refl refl
        (same-sealed c.kept formed.sealed) (omega arith)
    full-by free fits (q ∷ rest) plan =
        given-up (Some (record { generation = formed.sealed.members.generation; stripe = first_stripe formed.plan; ended = false })) (NoSpace q.0) fits c.task refl

    pub full-falls : (free : ℕ) → AimFits c.kept c.queue (aim_of c.task)
        → Fewer (goes_on_storing (notes c formed (fed_by formed.plan (told.Refused (fault.NoSlot free)))) basis formed (told.Refused (fault.NoSlot free)) (fed_by formed.plan (told.Refused (fault.NoSlot free))))
    full-falls free fits = full-by free fits formed.plan refl

  -- ---- a batch is refused

  module _ (basis : Basis) (sealed : Sealed) (e : step_of c.task ≡ step.Commit basis sealed) (old : is_fresh t c ≡ false) where
    looks-falls : (o : Option Task) (d : SeenClient) → aim_of o ≡ aim_of c.task → d.task ≡ with_step step.Lookup o → d.kept ≡ c.kept → d.queue ≡ c.queue → steps_left z t d < steps_left z t c
    looks-falls o d aim task kept queue =
        let ranks : rank d ≡ rank c =
        ap (λ (q : List Numbered). 3 * length q + length d.kept + work_rank (aim_of d.task)) queue
        ∙ ap (λ (k : List Numbered). 3 * length c.queue + length k + work_rank (aim_of d.task)) kept
        ∙ ap (λ (a : Option Aim). 3 * length c.queue + length c.kept + work_rank a) (ap aim_of task ∙ same-aim step.Lookup o ∙ aim) in
        let now = at-lookup z t d (ap step_of task ∙ looks_again o) in
        let was : stage z (step_of c.task) + stale_steps z (is_fresh t c) ≡ 1 + steps_from_lookup z =
        ap (λ (s : Step). stage z s + stale_steps z (is_fresh t c)) e ∙ ap (λ (b : Bool). 1 + stale_steps z b) old in
        stage-falls z t c d ranks (omega (arith, now, was))

    tried-aim : (o : Option Task) → aim_of (tried o) ≡ aim_of o
    tried-aim None = refl
    tried-aim (Some task) = refl

    pub refused-falls : (fault : CommitFault) → Fewer (hears_outdated c fault)
    refused-falls (Stale fid at now) = looks-falls (tried c.task) (hears_outdated c (Stale fid at now)).client (tried-aim c.task) refl refl refl
    refused-falls (Regen at now) = looks-falls c.task (hears_outdated c (Regen at now)).client refl refl refl refl
    refused-falls (Worn field) = looks-falls c.task (hears_outdated c (Worn field)).client refl refl refl refl
    refused-falls NoMemory = looks-falls c.task (hears_outdated c NoMemory).client refl refl refl refl
    refused-falls Stopped = looks-falls c.task (hears_outdated c Stopped).client refl refl refl refl

-- ---- a batch is committed

-- what is left behind a batch counts no more
next-rank : (aim : Option Aim) (keeps : Bool) → work_rank (aim_of (next_task aim keeps)) ≤ work_rank aim
next-rank None true = omega arith
next-rank None false = omega arith
next-rank (Some Read) true = omega arith
next-rank (Some Read) false = omega arith
next-rank (Some (Update number)) true = omega arith
next-rank (Some (Update number)) false = omega arith
next-rank (Some Finish) true = omega arith
next-rank (Some Finish) false = omega arith

-- a batch has a call
some-kept : (kept : List Numbered) → 1 ≤ length (run_of kept) → 1 ≤ length kept
some-kept [] some = some
some-kept (call ∷ calls) some = omega arith

module _ (w : Around) (seen : Tree) (c : SeenClient) (known : IsKnown c) (s : ClientIsSound w seen c) (basis : Basis) (sealed : Sealed) (e : step_of c.task ≡ step.Commit basis sealed) where
  pub commit-falls : (replies : List Reply) (after : Tables) → length replies ≡ length sealed.batch.ops
      → steps_left w.z after (commits c replies).client + w.z.clients * steps_from_lookup w.z < steps_left w.z w.tables c
  commit-falls replies after count =
      let d = delivered w seen c s basis sealed e in
      let own : 1 ≤ length sealed.batch.ops =
      subst (λ (x : Sealed). 1 ≤ length x.batch.ops) (sym d.sealed_is) (some-op d.was.whole.sealed.batch.ops d.was.is.spelled.company) in
      let fits = (subst (λ (st : Step). StepFits c.servers c.fragment c.block c.log c.kept c.queue c.doubted st) e known.work).count in
      let some = some-kept c.kept (omega (arith, own, fits)) in
      let fewer = length-drop (length replies) c.kept in
      let work = next-rank (aim_of c.task) (nat_lt 0 (length (drop (length replies) c.kept))) in
      rank-falls-far w.z w.tables after c (commits c replies).client (omega (arith, own, some, fewer, work, count))
      (next_looks (aim_of c.task) (nat_lt 0 (length (drop (length replies) c.kept))))
