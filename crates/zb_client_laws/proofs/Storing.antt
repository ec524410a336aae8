-- A client whose batch is being stored.
use Rattle.std.proofs.Common.{◌≡◌, ℕ, zero, suc, ◌+◌, ◌-◌, ◌≤◌, max, true, false, List, [], ◌∷◌, ◌++◌, Option, Some, None, refl, sym, ap, ◌∙◌, subst, arith}
use Rattle.std.specs.Prelude.{IfSome, slice_get, take}
use Rattle.std.proofs.lemmas.Option.{none-some, same_Some}
use Rattle.zb_types.specs.declared.ids.ServerId.{ServerId}
use Rattle.zb_types.specs.declared.nodes.Cause.{Cause}
use Rattle.zb_types.specs.declared.nodes.Cause.TheVariants.{NoSpace}
use Rattle.zb_types.specs.declared.nodes.Class.TheVariants.{Client}
use Rattle.zb_types.specs.declared.lines.Said.TheVariants as said
use Rattle.zb_types.specs.declared.requests.Request.{Request}
use Rattle.zb_types.specs.declared.requests.Response.{Response}
use Rattle.zb_types.specs.declared.requests.Response.TheVariants as told
use Rattle.zb_types.specs.declared.requests.StoreFault.TheVariants as fault
use Rattle.zb_types.specs.Tree.{Tree}
use Rattle.zb_stripe.specs.declared.flush.Flush.{Flush}
use Rattle.zb_stripe.specs.Feeding.{fed_by, left_after}
use Rattle.zb_log.specs.Logs.{SeenLog, gone_on}
use Rattle.zb_recovery.specs.Missing.{Servers}
use Rattle.zb_sound.specs.Delivering.{after_asked, allowed}
use Rattle.zb_sound.specs.LastFlush.{FindsItsPlace, LastFlush, Phase, stripe_of as changed_stripe}
use Rattle.zb_sound.specs.LogsCurrent.{LogIsCurrent}
use Rattle.zb_sound.specs.Standing.{seen as viewed}
use Rattle.zb_sound.proofs.Currents.{moved_current}
use Rattle.zb_sound.proofs.Delivering.{next_stands}
use Rattle.zb_sound.proofs.Placed.{last_goes_on}
use Rattle.zb_sound.proofs.Sites.{next_finds}
use Rattle.zb_basis.specs.declared.basis.Basis.{Basis}
use Rattle.zb_basis.specs.declared.basis.Formed.{Formed}
use Rattle.zb_basis.specs.declared.calls.Numbered.{Numbered}
use Rattle.zb_basis.specs.Delivering.{stripe_of}
use Rattle.zb_basis.specs.Forming.{writers_out}
use Rattle.zb_basis.specs.Runs.{run_of}
use Rattle.zb_forming_laws.specs.Resting.{AreShort}
use Rattle.zb_work.specs.declared.work.Aim.{Aim}
use Rattle.zb_work.specs.declared.work.Aim.TheVariants.{Update, Read, Finish}
use Rattle.zb_work.specs.declared.work.Flushed.{Flushed}
use Rattle.zb_work.specs.declared.work.Step.{Step}
use Rattle.zb_work.specs.declared.work.Step.TheVariants as step
use Rattle.zb_work.specs.declared.work.Task.{Task}
use Rattle.zb_work.specs.Steps.{first_members, step_of, with_step}
use Rattle.zb_client.specs.Seen.{SeenClient}
use Rattle.zb_client.specs.Hearing.{first_stripe, goes_on_storing, left, notes}
use Rattle.zb_client.specs.Telling.{Heard, answers_first, gives_up, gives_up_aim, gives_up_for}
use Rattle.zb_client.specs.Wishing.{head_of}
use Rattle.zb_client_laws.specs.Around.{Around, IsAround, at_rest}
use Rattle.zb_client_laws.specs.Effects.{GivesUp, TellsNothing, after_request}
use Rattle.zb_client_laws.proofs.Telling.{aim_same}
use Rattle.zb_client_laws.specs.Logging.{HasPhase, IsDelivered, IsDelivering, delivers, flush_of}
use Rattle.zb_client_laws.specs.Sound.{ClientIsSound, StepIsCurrent}
use Rattle.zb_client_laws.proofs.Missing.{none_misses}
use Rattle.zb_client_laws.proofs.Rising.{plan_up, same_stripe}

abbrev Requests : Type 0
Requests = List (ServerId × Request)

-- work that is at a store can be put to another step
stored_step : (t : Option Task) (basis : Basis) (formed : Formed) (new : Step) → step_of t ≡ step.Store basis formed → step_of (with_step new t) ≡ new
stored_step None basis formed new e = absurd (cc e)
stored_step (Some task) basis formed new e = refl

pub short_take : (n : ℕ) (calls : List Numbered) → AreShort calls → AreShort (take n calls)
short_take zero calls short = tt
short_take (suc n) [] short = tt
short_take (suc n) (call ∷ calls) short = (short.0, short_take n calls short.1)

module _ (w : Around) (seen : Tree) (c : SeenClient) (s : ClientIsSound w seen c) where
  -- the client at this step of its work, with this log and flush
  abbrev pub at : SeenLog → Option Flushed → Step → SeenClient
  at log flushed new = record c { log = log; flushed = flushed; task = with_step new c.task; is_ready = false }

  -- the client without work, with this flush
  abbrev pub without : List Numbered → List Numbered → Option Flushed → SeenClient
  without kept queue flushed = record c { kept = kept; queue = queue; flushed = flushed; task = None; is_ready = false }

  module _ (basis : Basis) (formed : Formed) (e : step_of c.task ≡ step.Store basis formed) where
    pub delivering : IsDelivering c.servers c.fragment c.block c.log c.batch (run_of c.kept) basis formed s.log.generation s.log.at s.log.front s.log.phase
    delivering = subst (λ (st : Step). HasPhase c st s.log.generation s.log.at s.log.front s.log.phase) e s.log.has

    current : StepIsCurrent w seen c (step.Store basis formed)
    current = subst (λ (st : Step). StepIsCurrent w seen c st) e s.step

    abbrev pub Stored : Flush
    Stored = flush_of delivering.was

    abbrev pub Out : Option ServerId
    Out = writers_out (first_members basis.found).state

    -- what stands of the flush, where the servers have this
    abbrev pub StandsAt : Servers → ℕ → Requests → Type 0
    StandsAt st front left = LastFlush w.z w.contents st w.tables.held (allowed w.tables.members) c.log.log front (delivers delivering.was left)

    pub standing : StandsAt w.st s.log.front formed.plan
    standing = subst (λ (p : Phase). LastFlush w.z w.contents w.st w.tables.held (allowed w.tables.members) c.log.log s.log.front p) delivering.phase_is s.log.flush

    sound_at : (st : Servers) (log : SeenLog) (flushed : Option Flushed) (new : Step) (front : ℕ) (phase : Phase)
        → LogIsCurrent w.tables log.log c.client (c.batch - 1) s.log.last s.log.generation s.log.at front
        → LastFlush w.z w.contents st w.tables.held (allowed w.tables.members) log.log front phase
        → HasPhase (at log flushed new) new s.log.generation s.log.at front phase
        → StepIsCurrent (record w { st = st }) seen (at log flushed new) new
        → ClientIsSound (record w { st = st }) seen (at log flushed new)
    sound_at st log flushed new front phase current flush has now =
        let is : step_of (with_step new c.task) ≡ new = stored_step c.task basis formed new e in
        record {
          sizes = record { servers = s.sizes.servers; fragment = s.sizes.fragment; block = s.sizes.block };
          settled = s.settled;
          short = s.short;
          short_queue = s.short_queue;
          log = record {
            last = s.log.last;
            generation = s.log.generation;
            at = s.log.at;
            front = front;
            phase = phase;
            current = current;
            flush = flush;
            has = subst (λ (x : Step). HasPhase (at log flushed new) x s.log.generation s.log.at front phase) (sym is) has;
          };
          step = subst (λ (x : Step). StepIsCurrent (record w { st = st }) seen (at log flushed new) x) (sym is) now;
          cached = s.cached;
        }

    -- ---- all of it is stored

    abbrev Behind : SeenLog
    Behind = gone_on c.log formed.sealed.placed.next formed.fresh.parts

    abbrev Ended : Option Flushed
    Ended = Some (record { generation = formed.sealed.members.generation; stripe = formed.sealed.placed.next.stripe; ended = true })

    generation_noted : formed.sealed.members.generation ≡ s.log.generation
    generation_noted =
        ap (λ (x : Formed). x.sealed.members.generation) delivering.formed_is ∙ ap (λ m. m.generation) delivering.was.is.seen ∙ sym delivering.generation_is

    delivered : IsDelivered c.servers c.fragment c.block Behind Ended c.batch (run_of c.kept) basis formed.sealed s.log.generation s.log.at (delivers delivering.was [])
    delivered = record {
      former = c.log;
      was = delivering.was;
      sealed_is = ap (λ (x : Formed). x.sealed) delivering.formed_is;
      goes_on = ap (λ (x : Formed). gone_on c.log x.sealed.placed.next x.fresh.parts) delivering.formed_is;
      phase_is = refl;
      generation_is = delivering.generation_is;
      above = delivering.above;
      noted = ap (λ (g : ℕ). Some (record { generation = g; stripe = formed.sealed.placed.next.stripe; ended = true })) generation_noted;
    }

    stored_sound : (st : Servers) (front : ℕ) → s.log.front ≤ front → StandsAt st front [] → ClientIsSound (record w { st = st }) seen (at Behind Ended (step.Commit basis formed.sealed))
    stored_sound st front le stands =
        sound_at st Behind Ended (step.Commit basis formed.sealed) front (delivers delivering.was [])
        (moved_current w.tables c.log.log c.client (c.batch - 1) s.log.last s.log.generation s.log.at s.log.front s.log.current s.log.at front (omega arith) le)
        stands delivered current

    -- the flush as it is known where a request was answered, and it isn't at its end
    abbrev Open : Option Flushed
    Open = Some (record { generation = formed.sealed.members.generation; stripe = first_stripe formed.plan; ended = false })

    -- ---- a request is carried out

    module _ (slots : ℕ) (a : IsAround slots w) (asked : ServerId × Request) (is : slice_get formed.plan 0 ≡ Some asked) where
      pub finds : FindsItsPlace asked.1 (w.st.maps asked.0)
      finds = next_finds (viewed w.z w.st None) Out Client Stored formed.plan asked (standing.stands.works.each None (none_misses slots w a)).work is refl

      pub around_after : IsAround slots (after_request w asked)
      around_after = record {
        limits = a.limits;
        stands = next_stands w.z w.contents Out Client Stored (at_rest w.tables) w.st w.tables w.tree a.stands formed.plan asked is standing.stands.works;
        whole = a.whole;
        none_blank = a.none_blank;
      }

      abbrev Front : ℕ
      Front = max s.log.front (changed_stripe asked.1 + 1)

      went_on : StandsAt (after_asked w.st asked) Front (left_after formed.plan told.Done)
      went_on = last_goes_on w.z w.contents w.st w.tables.held (allowed w.tables.members) c.log.log s.log.front Out Client Stored formed.plan asked is standing

      more_sound : (q : ServerId × Request) (rest : Requests) → formed.plan ≡ asked ∷ (q ∷ rest) → ClientIsSound (after_request w asked) seen (at c.log Open (step.Store basis (left formed told.Done)))
      more_sound q rest plan =
          sound_at (after_asked w.st asked) c.log Open (step.Store basis (left formed told.Done)) Front (delivers delivering.was (left_after formed.plan told.Done))
          (moved_current w.tables c.log.log c.client (c.batch - 1) s.log.last s.log.generation s.log.at s.log.front s.log.current s.log.at Front (omega arith) (omega arith))
          went_on
          (record {
            was = delivering.was;
            formed_is = ap (λ (x : Formed). record x { plan = left_after formed.plan told.Done }) delivering.formed_is;
            phase_is = refl;
            generation_is = delivering.generation_is;
            above = delivering.above;
            reached = subst (λ (rs : Requests). IfSome (head_of (left_after rs told.Done)) (λ r. Front ≤ stripe_of r.1 + 1)) (sym plan) below;
          })
          current where
            here : s.log.front ≤ stripe_of asked.1 + 1
            here = subst (λ (rs : Requests). IfSome (head_of rs) (λ r. s.log.front ≤ stripe_of r.1 + 1)) plan delivering.reached

            below : Front ≤ stripe_of q.1 + 1
            below =
                let up = plan_up w.z.servers w.z.fragment Out Client Stored standing.stands.done asked q rest standing.stands.rise
                (standing.stands.all ∙ ap (λ (rs : Requests). standing.stands.done ++ rs) plan) in
                let same = same_stripe asked.1 in
                let own = here in
                omega (arith, up, same, own)

      -- the client stays sound, and tells nothing
      abbrev Goes : Heard → Type 0
      Goes heard = ClientIsSound (after_request w asked) seen heard.client × TellsNothing c heard

      done_by_plan : (plan : Requests) → formed.plan ≡ plan → Goes (goes_on_storing (notes c formed (fed_by plan told.Done)) basis formed told.Done (fed_by plan told.Done))
      done_by_plan [] plan = absurd (none-some asked (subst (λ (rs : Requests). slice_get rs 0 ≡ Some asked) plan is))
      done_by_plan (q ∷ []) plan = (
        stored_sound (after_asked w.st asked) Front (omega arith) (subst (λ (rs : Requests). StandsAt (after_asked w.st asked) Front (left_after rs told.Done)) plan went_on),
        record { told = refl; same = record { client = refl; kept = refl; queue = refl; aim = aim_same (step.Commit basis formed.sealed) c.task } },
      )
      done_by_plan (p ∷ (q ∷ rest)) plan =
          let same : p ≡ asked = same_Some p asked (subst (λ (rs : Requests). slice_get rs 0 ≡ Some asked) plan is) in (
            more_sound q rest (plan ∙ ap (λ (x : ServerId × Request). x ∷ (q ∷ rest)) same),
            record { told = refl; same = record { client = refl; kept = refl; queue = refl; aim = aim_same (step.Store basis (left formed told.Done)) c.task } },
          )

      pub done_sound : Goes (goes_on_storing (notes c formed (fed_by formed.plan told.Done)) basis formed told.Done (fed_by formed.plan told.Done))
      done_sound = done_by_plan formed.plan refl

    -- ---- a server has no slot

    without_sound : (kept queue : List Numbered) → s.log.front ≤ first_stripe formed.plan + 1 → AreShort kept → AreShort queue → ClientIsSound w seen (without kept queue Open)
    without_sound kept queue low short short_queue = record {
      sizes = record { servers = s.sizes.servers; fragment = s.sizes.fragment; block = s.sizes.block };
      settled = s.settled;
      short = short;
      short_queue = short_queue;
      log = record {
        last = s.log.last;
        generation = s.log.generation;
        at = s.log.at;
        front = s.log.front;
        phase = s.log.phase;
        current = s.log.current;
        flush = s.log.flush;
        has = low;
      };
      step = tt;
      cached = s.cached;
    }

    -- the client, which notes that
    abbrev Noted : SeenClient
    Noted = record c { flushed = Open }

    module _ (low : s.log.front ≤ first_stripe formed.plan + 1) (cause : Cause) where
      first_sound : (queue : List Numbered) → AreShort queue → ClientIsSound w seen (answers_first Noted queue (said.Failed cause)).client
      first_sound [] short = without_sound c.kept c.queue low s.short s.short_queue
      first_sound (read ∷ rest) short = without_sound c.kept rest low s.short short.1

      aim_sound : (aim : Aim) → ClientIsSound w seen (gives_up_aim Noted aim cause).client
      aim_sound (Update number) = without_sound c.kept c.queue low s.short s.short_queue
      aim_sound Read = first_sound c.queue s.short_queue
      aim_sound Finish = without_sound (take c.doubted c.kept) c.queue low (short_take c.doubted c.kept s.short) s.short_queue

      given_up : (task : Option Task) → c.task ≡ task → ClientIsSound w seen (gives_up_for Noted task cause).client
      given_up None none = absurd (clash (sym (ap step_of none) ∙ e)) where
        clash : step.Lookup ≡ step.Store basis formed → ⊥
        clash x = cc x
      given_up (Some task) is = aim_sound task.aim

    abbrev NoSlot : ℕ → Response
    NoSlot free = told.Refused (fault.NoSlot free)

    full_by_plan : (free : ℕ) (plan : Requests) → formed.plan ≡ plan → ClientIsSound w seen (goes_on_storing (notes c formed (fed_by plan (NoSlot free))) basis formed (NoSlot free) (fed_by plan (NoSlot free))).client
    full_by_plan free [] plan = stored_sound w.st s.log.front (omega arith) (subst (λ (rs : Requests). StandsAt w.st s.log.front rs) plan standing)
    full_by_plan free (q ∷ rest) plan = given_up low (NoSpace q.0) c.task refl where
      low : s.log.front ≤ first_stripe formed.plan + 1
      low = subst (λ (rs : Requests). s.log.front ≤ first_stripe rs + 1) (sym plan) (subst (λ (rs : Requests). IfSome (head_of rs) (λ r. s.log.front ≤ stripe_of r.1 + 1)) plan delivering.reached)

    pub full_sound : (free : ℕ) → ClientIsSound w seen (goes_on_storing (notes c formed (fed_by formed.plan (NoSlot free))) basis formed (NoSlot free) (fed_by formed.plan (NoSlot free))).client
    full_sound free = full_by_plan free formed.plan refl

    told_by_plan : (free : ℕ) (asked : ServerId × Request) (plan : Requests) → slice_get plan 0 ≡ Some asked
        → GivesUp c (NoSpace asked.0) (goes_on_storing (notes c formed (fed_by plan (NoSlot free))) basis formed (NoSlot free) (fed_by plan (NoSlot free)))
    told_by_plan free asked [] is = absurd (none-some asked is)
    told_by_plan free asked (p ∷ rest) is = record {
      noted = notes c formed (fed_by (p ∷ rest) (NoSlot free));
      same = record { client = refl; kept = refl; queue = refl; aim = refl };
      task = refl;
      is = ap (λ (q : ServerId × Request). gives_up (notes c formed (fed_by (p ∷ rest) (NoSlot free))) (NoSpace q.0)) (same_Some p asked is);
    }

    pub full_told : (free : ℕ) (asked : ServerId × Request) → slice_get formed.plan 0 ≡ Some asked
        → GivesUp c (NoSpace asked.0) (goes_on_storing (notes c formed (fed_by formed.plan (NoSlot free))) basis formed (NoSlot free) (fed_by formed.plan (NoSlot free)))
    full_told free asked is = told_by_plan free asked formed.plan is
