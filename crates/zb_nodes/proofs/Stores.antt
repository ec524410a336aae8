-- A client that makes the next request of its batch.
use Rattle.std.proofs.Common.{◌≡◌, ℕ, ◌<◌, ◌≤◌, ◌+◌, ◌^◌, Bool, true, false, cond, List, [], ◌∷◌, ◌++◌, length, Option, Some, None, refl, sym, ap, ◌∙◌, subst, arith}
use Rattle.std.specs.Prelude.{if◌then◌else◌, slice_get}
use Rattle.std.proofs.lemmas.Bool.{cond_both, false≢true}
use Rattle.std.proofs.lemmas.Option.{none-some, same_Some}
use Rattle.zb_types.specs.declared.ids.ServerId.{ServerId}
use Rattle.zb_types.specs.declared.nodes.Class.TheVariants.{Client}
use Rattle.zb_types.specs.declared.nodes.Members.{Members}
use Rattle.zb_types.specs.declared.requests.Request.{Request}
use Rattle.zb_types.specs.declared.requests.Response.{Response}
use Rattle.zb_types.specs.declared.requests.Response.TheVariants as told
use Rattle.zb_types.specs.declared.requests.StoreFault.TheVariants as fault
use Rattle.zb_holding.specs.Rules.{IsAnswer}
use Rattle.zb_stripe.specs.Writing.{plan_requests}
use Rattle.zb_manager.specs.Managers.{SeenManager}
use Rattle.zb_manager.specs.Seen.{held_by}
use Rattle.zb_servers.specs.Serving.{MayAsk, is_refused}
use Rattle.zb_servers.specs.Standing.{SeenServers, has, maps_of, server_at}
use Rattle.zb_servers_laws.specs.Answered.{lacks_slot}
use Rattle.zb_servers_laws.proofs.Asking.{plan_may_ask}
use Rattle.zb_servers_laws.proofs.WriteAnswers.{plan_writes, write_answer}
use Rattle.zb_sound.specs.LastFlush.{FindsItsPlace}
use Rattle.zb_turns.specs.Turns.{other_holder}
use Rattle.zb_basis.specs.declared.basis.Formed.{Formed}
use Rattle.zb_work.specs.declared.work.Step.{Step}
use Rattle.zb_work.specs.declared.work.Step.TheVariants as step
use Rattle.zb_work.specs.Steps.{first_members, step_of}
use Rattle.zb_client.specs.declared.steps.Answer.{Answer}
use Rattle.zb_client.specs.declared.steps.Answer.TheVariants as answer
use Rattle.zb_client.specs.Answering.{Answers, brings_bytes}
use Rattle.zb_client.specs.Hearing.{Hears, WearsFetch}
use Rattle.zb_client.specs.Seen.{SeenClient}
use Rattle.zb_client.specs.Telling.{Heard}
use Rattle.zb_client.specs.Wishing.{head_of}
use Rattle.zb_client_laws.specs.Around.{Around}
use Rattle.zb_client_laws.specs.Sound.{StepIsCurrent}
use Rattle.zb_client_laws.proofs.Storing.{Out, Stored, delivering, finds, standing}
use Rattle.zb_system.specs.Steps.{IsServed}
use Rattle.zb_nodes.specs.declared.answers.Halt.{Halt}
use Rattle.zb_nodes.specs.declared.answers.Halt.TheVariants as halt
use Rattle.zb_nodes.specs.Among.{MayStep, met, nodes}
use Rattle.zb_nodes.specs.Halting.{HasHalted}
use Rattle.zb_nodes.specs.Moving.{DoesNext}
use Rattle.zb_nodes.specs.Wished.{IsAtStore}
use Rattle.zb_nodes.proofs.Rows.{answer_has_memory, answers_at, does_at, hears_at}

abbrev Asked : Type 0
Asked = ServerId × Request

abbrev Requests : Type 0
Requests = List Asked

-- the first of some requests is the one at place 0
head_at : (plan : Requests) (wanted : Asked) → head_of plan ≡ Some wanted → slice_get plan 0 ≡ Some wanted
head_at [] wanted e = e
head_at (asked ∷ rest) wanted e = e

-- behind those that are done
behind_done : (done left : Requests) (wanted : Asked) → slice_get left 0 ≡ Some wanted → slice_get (done ++ left) (length done) ≡ Some wanted
behind_done [] left wanted e = e
behind_done (asked ∷ done) left wanted e = behind_done done left wanted e

-- a refusal brings no bytes, nor does what is done
brings_none : (lacks : Bool) (free : ℕ) → brings_bytes (cond lacks (told.Refused (fault.NoSlot free)) told.Done) ≡ false
brings_none true free = refl
brings_none false free = refl

module _ (m : SeenManager) (s : SeenServers) (c : SeenClient) (may : MayStep m s c) (generation : ℕ) (wanted : Asked) (at : IsAtStore c generation wanted) where
  abbrev W : Around
  W = met m s may.among.contents may.among.tree

  abbrev This : Step
  This = step.Store at.basis at.formed

  step_is : step_of c.task ≡ This
  step_is = ap step_of at.is ∙ at.at

  first_is : slice_get at.formed.plan 0 ≡ Some wanted
  first_is = head_at at.formed.plan wanted at.wants

  -- it is a request of the batch's flush
  abbrev Done : Requests
  Done = (standing W may.among.seen c may.among.sound at.basis at.formed step_is).stands.done

  placed : slice_get (plan_requests m.sizes.servers m.sizes.fragment (Out W may.among.seen c may.among.sound at.basis at.formed step_is) Client (Stored W may.among.seen c may.among.sound at.basis at.formed step_is)) (length Done) ≡ Some wanted
  placed =
      ap (λ (rs : Requests). slice_get rs (length Done)) (standing W may.among.seen c may.among.sound at.basis at.formed step_is).stands.all
      ∙ behind_done Done at.formed.plan wanted first_is

  -- it may be made
  pub store_may_ask : MayAsk (length s.servers) wanted
  store_may_ask =
      let some = may.among.stands.limits.servers_low in
      let small = may.among.stands.limits.fragment_high in
      subst (λ (n : ℕ). MayAsk n wanted) (sym may.among.servers.count)
      (plan_may_ask m.sizes.servers m.sizes.fragment (omega (arith, some)) (omega (arith, small)) (Out W may.among.seen c may.among.sound at.basis at.formed step_is) Client
      (Stored W may.among.seen c may.among.sound at.basis at.formed step_is) (length Done) wanted placed)

  current : StepIsCurrent W may.among.seen c This
  current = subst (λ (st : Step). StepIsCurrent W may.among.seen c st) step_is may.among.sound.step

  -- the server takes its generation
  takes : (server_at s.servers wanted.0).fence ≤ generation
  takes =
      let low = may.among.servers.fences wanted.0 in
      let d = delivering W may.among.seen c may.among.sound at.basis at.formed step_is in
      let seen : generation ≡ m.tables.members.generation = at.generation_is ∙ ap (λ (x : Formed). x.sealed.members.generation) d.formed_is
      ∙ ap (λ (x : Members). x.generation) d.was.is.seen ∙ ap (λ (x : Members). x.generation) current.0.rests.members in
      omega (arith, low, seen)

  module _ (left : SeenServers) (response : Response) (serving : ℕ) (served : IsServed s left generation wanted response) where
    abbrev Told : Answer
    Told = answer.Server response serving

    -- the client may hear the response
    pub store_answers : Answers c Told
    store_answers = answers_at c at.task This at.is at.at Told (answer_has_memory (has s wanted.0) generation wanted.1 response served.answer)

    -- it is done, or refused for want of a slot
    done_or_full : response ≡ cond (lacks_slot (has s wanted.0) wanted.1) (told.Refused (fault.NoSlot (has s wanted.0).free)) told.Done
    done_or_full =
        write_answer (has s wanted.0) generation wanted.1 response
        (plan_writes m.sizes.servers m.sizes.fragment (Out W may.among.seen c may.among.sound at.basis at.formed step_is) (Stored W may.among.seen c may.among.sound at.basis at.formed step_is) (length Done) wanted Client placed)
        (finds W may.among.seen c may.among.sound at.basis at.formed step_is s.slots may.among.stands wanted first_is) takes served.answer

    -- so it is taken, always
    pub store_taken : (halted : Halt) → HasHalted c Told halted → ⊥
    store_taken halt.NoMemory why =
        false≢true (sym (ap brings_bytes done_or_full ∙ brings_none (lacks_slot (has s wanted.0) wanted.1) (has s wanted.0).free) ∙ why)
    store_taken (halt.Worn field) why = subst (λ (st : Step). WearsFetch c st response) step_is why.1

    -- what it makes of the client is its row
    pub store_does : (heard : Heard) (after : SeenManager) → Hears c Told heard → after ≡ (if is_refused response then held_by (other_holder c.client m.holder) m else m) → DoesNext m s c after left heard
    store_does heard after hears is = λ clients others. does_at c at.task This at.is at.at (nodes clients m s) (nodes others after left) heard (record {
      asked = wanted;
      is = at.wants;
      response = response;
      served = subst (λ (g : ℕ). IsServed s left g wanted response) at.generation_is served;
      hears = hears_at c at.task This at.is at.at Told heard hears;
      manager = is;
    })
