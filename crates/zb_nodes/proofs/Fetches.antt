-- A client that reads a block.
use Rattle.std.proofs.Common.{◌≡◌, ℕ, ◌<◌, ◌≤◌, ◌+◌, ◌-◌, min, Bool, true, false, List, [], ◌∷◌, length, Option, Some, None, refl, sym, ap, ◌∙◌, subst, arith}
use Rattle.std.specs.Prelude.{if◌then◌else◌, nat_lt, slice_index}
use Rattle.std.proofs.lemmas.Option.{none-some, same_Some}
use Rattle.zb_types.specs.declared.ids.ServerId.{ServerId}
use Rattle.zb_types.specs.declared.nodes.Members.{Members}
use Rattle.zb_types.specs.declared.requests.Request.{Request}
use Rattle.zb_types.specs.declared.requests.Request.TheVariants as ask
use Rattle.zb_types.specs.declared.requests.Response.{Response}
use Rattle.zb_types.specs.Tree.{Tree}
use Rattle.zb_stripe.specs.declared.progress.Phase.{Phase}
use Rattle.zb_stripe.specs.declared.progress.Phase.TheVariants.{Direct, Lengths, Others}
use Rattle.zb_stripe.specs.Reading.{Reading, ask_for, asked, asked_in, end_of, frag_at, index_of, len_of, place_of, pos_of, server_at as server_in}
use Rattle.zb_stripe_laws.specs.ReadAtWork.{AnswersFrom}
use Rattle.zb_tables.specs.Tables.{Contents, Tables}
use Rattle.zb_manager.specs.Managers.{SeenManager}
use Rattle.zb_servers.specs.Serving.{MayAsk}
use Rattle.zb_servers.specs.Standing.{SeenServers, has, maps_of, server_at}
use Rattle.zb_servers_laws.specs.Answered.{IsAnswered}
use Rattle.zb_servers_laws.proofs.ReadAnswers.{read_answers_from, read_may_ask}
use Rattle.zb_basis.specs.declared.basis.Basis.{Basis}
use Rattle.zb_basis.specs.declared.calls.Numbered.{Numbered}
use Rattle.zb_work.specs.declared.work.Step.{Step}
use Rattle.zb_work.specs.declared.work.Step.TheVariants as step
use Rattle.zb_work.specs.Steps.{first_members, step_of}
use Rattle.zb_client.specs.declared.steps.Answer.{Answer}
use Rattle.zb_client.specs.declared.steps.Answer.TheVariants as answer
use Rattle.zb_client.specs.declared.steps.Wish.TheVariants as wish
use Rattle.zb_client.specs.Answering.{Answers}
use Rattle.zb_client.specs.Hearing.{Hears}
use Rattle.zb_client.specs.Seen.{SeenClient}
use Rattle.zb_client.specs.Telling.{Heard}
use Rattle.zb_client.specs.Wishing.{request_wish, wish_of}
use Rattle.zb_client_laws.specs.Around.{Around}
use Rattle.zb_client_laws.specs.Current.{FirstIsCurrent, IsReading, WorkIsCurrent}
use Rattle.zb_client_laws.specs.Sound.{StepIsCurrent}
use Rattle.zb_client_laws.proofs.Fetched.{fetch_may_answer, reading}
use Rattle.zb_system.specs.Steps.{IsServed}
use Rattle.zb_nodes.specs.declared.answers.Halt.{Halt}
use Rattle.zb_nodes.specs.declared.answers.Halt.TheVariants as halt
use Rattle.zb_nodes.specs.Among.{MayStep, met, nodes}
use Rattle.zb_nodes.specs.Halting.{FetchWears, HasHalted, OnWorn}
use Rattle.zb_nodes.specs.Moving.{DoesNext}
use Rattle.zb_nodes.specs.Wished.{IsAtFetch, is_read}
use Rattle.zb_nodes.proofs.Rows.{answer_has_memory, answers_at, does_at, hears_at}
use Rattle.zb_nodes.proofs.Wishes.{wish_at}

abbrev Asked : Type 0
Asked = ServerId × Request

-- what a read asks is a retrieve
retrieved : (r : Reading) (k len : ℕ) (wanted : Asked) → ask_for r k len ≡ Some wanted → is_read wanted.1 ≡ true
retrieved r k len wanted e = subst (λ (p : Asked). is_read p.1 ≡ true) (same_Some (server_in r k, ask.Retrieve (frag_at r k) (place_of r) len) wanted e) refl

retrieved_if : (b : Bool) (r : Reading) (k len : ℕ) (wanted : Asked) → (if b then ask_for r k len else None) ≡ Some wanted → is_read wanted.1 ≡ true
retrieved_if true r k len wanted e = retrieved r k len wanted e
retrieved_if false r k len wanted e = absurd (none-some wanted e)

reads_in : (r : Reading) (phase : Phase) (wanted : Asked) → asked_in r phase ≡ Some wanted → is_read wanted.1 ≡ true
reads_in r Direct wanted e = retrieved_if (nat_lt (pos_of r) (end_of r)) r (index_of r) (len_of r) wanted e
reads_in r Lengths wanted e = retrieved r (r.servers - 1) (len_of r) wanted e
reads_in r (Others lengths sum k) wanted e = retrieved r k (min (len_of r) (slice_index lengths k - place_of r)) wanted e

first_members_are : (b : ℕ) (contents : Contents) (t : Tables) (seen : Tree) (queue : List Numbered) (basis : Basis) → FirstIsCurrent b contents t seen queue basis → first_members basis.found ≡ t.members
first_members_are b contents t seen [] basis is = absurd is
first_members_are b contents t seen (read ∷ rest) basis is = is.rests.members

-- what was looked up has the members that the tables have
members_are : (b : ℕ) (contents : Contents) (t : Tables) (seen : Tree) (kept queue : List Numbered) (basis : Basis) → WorkIsCurrent b contents t seen kept queue basis → first_members basis.found ≡ t.members
members_are b contents t seen [] queue basis is = first_members_are b contents t seen queue basis is
members_are b contents t seen (first ∷ others) queue basis is = is.rests.members

module _ (m : SeenManager) (s : SeenServers) (c : SeenClient) (may : MayStep m s c) (generation : ℕ) (wanted : Asked) (at : IsAtFetch c generation wanted) where
  abbrev W : Around
  W = met m s may.among.contents may.among.tree

  abbrev This : Step
  This = step.Fetch at.basis at.place at.ptr at.plan

  step_is : step_of c.task ≡ This
  step_is = ap step_of at.is ∙ at.at

  is_reading : IsReading W.z W.contents W.st.maps W.tables.held at.ptr at.plan
  is_reading = reading s.slots W may.among.stands may.among.seen c may.known may.among.sound at.basis at.place at.ptr at.plan step_is

  current : WorkIsCurrent W.z.block W.contents W.tables may.among.seen c.kept c.queue at.basis
  current = (subst (λ (st : Step). StepIsCurrent W may.among.seen c st) step_is may.among.sound.step).0

  -- the request may be made
  pub fetch_may_ask : MayAsk (length s.servers) wanted
  fetch_may_ask =
      let same = is_reading.servers in
      let some = may.among.stands.limits.servers_low in
      subst (λ (n : ℕ). MayAsk n wanted) (is_reading.servers ∙ sym may.among.servers.count) (read_may_ask at.plan wanted (omega (arith, same, some)) at.wants)

  -- it is a retrieve
  pub fetch_reads : is_read wanted.1 ≡ true
  fetch_reads = reads_in at.plan at.plan.phase wanted at.wants

  -- the server takes its generation
  takes : (server_at s.servers wanted.0).fence ≤ generation
  takes =
      let low = may.among.servers.fences wanted.0 in
      let seen = at.generation_is ∙ ap (λ (x : Members). x.generation) (members_are W.z.block W.contents W.tables may.among.seen c.kept c.queue at.basis current) in
      omega (arith, low, seen)

  -- so the client wishes
  wishes : wish.Server wanted.0 generation wanted.1 ≡ wish_of c
  wishes = sym (wish_at c at.task This at.is at.at ∙ ap (request_wish (first_members at.basis.found).generation) at.wants ∙ ap (λ (g : ℕ). wish.Server wanted.0 g wanted.1) (sym at.generation_is))

  module _ (left : SeenServers) (response : Response) (serving : ℕ) (served : IsServed s left generation wanted response) where
    abbrev Told : Answer
    Told = answer.Server response serving

    answered : IsAnswered (maps_of s) generation wanted response
    answered = record { has = has s wanted.0; own = λ id. refl; takes = takes; answers = served.answer }

    from : AnswersFrom (maps_of s) None None (asked at.plan) response
    from = read_answers_from (maps_of s) generation None None at.plan wanted response refl at.wants answered

    -- the client may hear the response
    pub fetch_answers : Answers c Told
    fetch_answers =
        answers_at c at.task This at.is at.at Told (
          fetch_may_answer s.slots W may.among.stands may.among.seen c may.known may.among.sound at.basis at.place at.ptr at.plan step_is response from,
          answer_has_memory (has s wanted.0) generation wanted.1 response served.answer,
        )

    -- what it makes of the client is its row
    pub fetch_does : (heard : Heard) → Hears c Told heard → (n : SeenManager) → DoesNext n s c n left heard
    fetch_does heard hears n = λ clients others. does_at c at.task This at.is at.at (nodes clients n s) (nodes others n left) heard (record {
      asked = wanted;
      is = at.wants;
      response = response;
      serving = serving;
      served = subst (λ (g : ℕ). IsServed s left g wanted response) at.generation_is served;
      hears = hears_at c at.task This at.is at.at Told heard hears;
      manager = refl;
    })

    -- why it may not be taken
    pub fetch_halts : (halted : Halt) → HasHalted c Told halted → OnWorn (FetchWears s c) halted
    fetch_halts halt.NoMemory why = tt
    fetch_halts (halt.Worn field) why = record {
      field_is = why.0;
      server = wanted.0;
      generation = generation;
      request = wanted.1;
      wish = sym wishes;
      response = response;
      serving = serving;
      answers = served.answer;
      wears = why.1;
    }
