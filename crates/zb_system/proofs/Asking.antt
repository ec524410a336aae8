-- A client reads a block with a request.
use Rattle.std.proofs.Common.{◌≡◌, ◌≢◌, ℕ, ◌≤◌, true, false, Bool, List, [], ◌∷◌, Option, Some, None, refl, sym, ap, ◌∙◌, subst, inl, inr}
use Rattle.std.specs.Prelude.{◌⊎◌, ◌==◌, if◌then◌else◌, is_some, slice_set}
use Rattle.std.proofs.lemmas.Bool.{cases_eq, eq-eqb}
use Rattle.zb_types.specs.Tree.{Tree}
use Rattle.zb_types.specs.declared.ids.FragId.{FragId}
use Rattle.zb_types.specs.declared.ids.Ptr.{Ptr}
use Rattle.zb_types.specs.declared.ids.ServerId.{ServerId}
use Rattle.zb_types.specs.declared.lines.Outcome.{Outcome}
use Rattle.zb_types.specs.declared.nodes.Members.{Members}
use Rattle.zb_types.specs.declared.requests.Request.{Request}
use Rattle.zb_types.specs.declared.requests.Request.TheVariants as ask
use Rattle.zb_types.specs.declared.requests.Response.{Response}
use Rattle.zb_types.specs.declared.requests.Response.TheVariants as told
use Rattle.zb_holding.specs.Rules.{AreSame, IsAnswer, has_after, is_done}
use Rattle.zb_stripe.specs.Reading.{Answers, AnswersRetrieve, Reading, asked}
use Rattle.zb_stripe_laws.specs.ReadAtWork.{AnswersFrom}
use Rattle.zb_given.specs.Given.{Given}
use Rattle.zb_given.specs.Calls.{IsLookedUp, LookedUp}
use Rattle.zb_given.specs.Telling.{is_number}
use Rattle.zb_tables.specs.Tables.{Contents, Tables}
use Rattle.zb_manager.specs.Managers.{SeenManager}
use Rattle.zb_servers.specs.Standing.{SeenServer, SeenServers, has, maps_of, server_at, stands_in}
use Rattle.zb_servers_laws.specs.Answered.{IsAnswered}
use Rattle.zb_servers_laws.specs.Indexed.{AllFitIndex}
use Rattle.zb_servers_laws.proofs.ReadAnswers.{read_answers_from}
use Rattle.zb_basis.specs.declared.basis.Basis.{Basis}
use Rattle.zb_basis.specs.declared.calls.Numbered.{Numbered}
use Rattle.zb_work.specs.declared.work.Step.{Step}
use Rattle.zb_work.specs.declared.work.Step.TheVariants as step
use Rattle.zb_work.specs.declared.work.Task.{Task}
use Rattle.zb_work.specs.Steps.{first_members, step_of}
use Rattle.zb_client.specs.Seen.{SeenClient, kind_of}
use Rattle.zb_client.specs.Telling.{Heard}
use Rattle.zb_client_laws.specs.Around.{Around}
use Rattle.zb_client_laws.specs.Current.{FirstIsCurrent, IsReading, WorkIsCurrent}
use Rattle.zb_client_laws.specs.Effects.{AnswersRead, TellsNothing, TellsRight}
use Rattle.zb_client_laws.specs.Known.{IsKnown}
use Rattle.zb_client_laws.specs.Sound.{ClientIsSound, StepIsCurrent}
use Rattle.zb_client_laws.proofs.Fetched.{fetch_goes_on, fetch_may_answer}
use Rattle.zb_line_laws.specs.Calls.{lines_in}
use Rattle.zb_system.specs.Nodes.{IsClient, SeenNodes, readied}
use Rattle.zb_system.specs.Looking.{FirstIsLookedUp, HasLookedUp, is_reading, reads_with, tree_for}
use Rattle.zb_system.specs.Sound.{AreSound, ServersAreSound, StaysSound}
use Rattle.zb_system.specs.Steps.{Fetches, IsServed}
use Rattle.zb_system.proofs.AnyTree.{any_tree}
use Rattle.zb_system.proofs.FirstReads.{Looked, Reads, looked_still, looked_up, none_kept}
use Rattle.zb_system.proofs.ReadsLeft.{as_looked, none_left, silent}
use Rattle.zb_system.proofs.Quiet.{StandsStill, World, answer_stays, at as read_at, known_ready, looked_ready, quiet_stays, sound_ready}

-- what was looked up is of the members
first_members_are : (b : ℕ) (contents : Contents) (t : Tables) (seen : Tree) (queue : List Numbered) (basis : Basis) → FirstIsCurrent b contents t seen queue basis → first_members basis.found ≡ t.members
first_members_are b contents t seen [] basis f = absurd f
first_members_are b contents t seen (read ∷ rest) basis f = f.rests.members

pub members_are : (b : ℕ) (contents : Contents) (t : Tables) (seen : Tree) (kept queue : List Numbered) (basis : Basis) → WorkIsCurrent b contents t seen kept queue basis → first_members basis.found ≡ t.members
members_are b contents t seen [] queue basis w = first_members_are b contents t seen queue basis w
members_are b contents t seen (call ∷ calls) queue basis w = w.rests.members

-- a read isn't answered as done
not_done : (n : ℕ) (id : FragId) (len : ℕ) (response : Response) → AnswersRetrieve n id len response → is_done response ≡ false
not_done n id len told.Done a = absurd a
not_done n id len (told.Bytes bytes) a = refl
not_done n id len (told.Parity lengths bytes) a = refl
not_done n id len (told.Ids ids) a = refl
not_done n id len (told.Refused fault) a = refl
not_done n id len told.Down a = refl
not_done n id len told.Blank a = refl

read_not_done : (n : ℕ) (one : ServerId × Request) (response : Response) → Answers n (Some one) response → is_done response ≡ false
read_not_done n (server, ask.Store id bytes class) response a = absurd a
read_not_done n (server, ask.Append id place bytes) response a = absurd a
read_not_done n (server, ask.Parity id lengths bytes class) response a = absurd a
read_not_done n (server, ask.Retrieve id place len) response a = not_done n id len response a
read_not_done n (server, ask.Delete id) response a = absurd a
read_not_done n (server, ask.Identify after) response a = absurd a
read_not_done n (server, ask.Fence generation) response a = absurd a

-- servers of which one answered, and none has changed
module _ (old new : SeenServers) (one : ServerId × Request) (response : Response) (generation : ℕ) (served : IsServed old new generation one response) (undone : is_done response ≡ false) where
  same_one : AreSame (has new one.0) (has old one.0)
  same_one = subst (λ (b : Bool). AreSame (has new one.0) (if b then has_after one.1 (has old one.0) else has old one.0)) undone served.left

  map_at : (server : ServerId) (id : FragId) → maps_of new server id ≡ maps_of old server id
  map_at server id = by (cases_eq server.0 one.0.0) where
    by : (server.0 ≡ one.0.0) ⊎ (server.0 ≢ one.0.0) → maps_of new server id ≡ maps_of old server id
    by (inl here) =
        let is : server ≡ one.0 = λ k. record { 0 = here k } in
        ap (λ (x : ServerId). maps_of new x id) is ∙ same_one.map id ∙ ap (λ (x : ServerId). maps_of old x id) (sym is)
    by (inr ne) = ap (λ (x : SeenServer). stands_in x.entries id) (served.others server ne)

  pub maps_same : maps_of new ≡ maps_of old
  maps_same = λ k server id. map_at server id k

  pub fence_at : (server : ServerId) → (server_at new.servers server).fence ≡ (server_at old.servers server).fence
  fence_at server = by (cases_eq server.0 one.0.0) where
    by : (server.0 ≡ one.0.0) ⊎ (server.0 ≢ one.0.0) → (server_at new.servers server).fence ≡ (server_at old.servers server).fence
    by (inl here) =
        let is : server ≡ one.0 = λ k. record { 0 = here k } in
        ap (λ (x : ServerId). (server_at new.servers x).fence) is ∙ same_one.fence ∙ ap (λ (x : ServerId). (server_at old.servers x).fence) (sym is)
    by (inr ne) = ap (λ (x : SeenServer). x.fence) (served.others server ne)

module _ {given : Given} {lines : List Outcome} {old : SeenNodes} (s : AreSound given lines old) (i : ℕ) (c : SeenClient) (is : IsClient old i c) (known : IsKnown c)
    (task : Task) (work : c.task ≡ Some task) (basis : Basis) (place : ℕ) (ptr : Ptr) (plan : Reading) (at_fetch : task.step ≡ step.Fetch basis place ptr plan) where
  abbrev W : Around
  W = World s i c is

  abbrev Seen : Tree
  Seen = tree_for given lines (s.reads i)

  step_is : step_of c.task ≡ step.Fetch basis place ptr plan
  step_is = ap step_of work ∙ at_fetch

  current : WorkIsCurrent W.z.block W.contents W.tables Seen c.kept c.queue basis × IsReading W.z W.contents W.st.maps W.tables.held ptr plan
  current = subst (λ (st : Step). StepIsCurrent W Seen (readied c) st) step_is (sound_ready s i c is).step

  -- its generation is that of the members
  pub fetch_generation : (first_members basis.found).generation ≡ old.manager.tables.members.generation
  fetch_generation = ap (λ (m : Members). m.generation) (members_are W.z.block W.contents W.tables Seen c.kept c.queue basis current.0)

  pub fetch_answered : (one : ServerId × Request) (response : Response) → IsAnswer (has old.servers one.0) (first_members basis.found).generation one.1 response
      → IsAnswered (maps_of old.servers) (first_members basis.found).generation one response
  fetch_answered one response answer = record {
    has = has old.servers one.0;
    own = λ id. refl;
    takes = subst (λ (g : ℕ). (server_at old.servers.servers one.0).fence ≤ g) (sym fetch_generation) (s.servers.fences one.0);
    answers = answer;
  }

  pub fetch_from : (one : ServerId × Request) (response : Response) → asked plan ≡ Some one → IsAnswer (has old.servers one.0) (first_members basis.found).generation one.1 response
      → AnswersFrom (maps_of old.servers) None None (asked plan) response
  fetch_from one response is_one answer =
      read_answers_from (maps_of old.servers) (first_members basis.found).generation None None plan one response refl is_one (fetch_answered one response answer)

  module _ (new : SeenNodes) (heard : Heard) (clients_are : new.clients ≡ slice_set old.clients i heard.client)
      (f : Fetches old new (readied c) basis (step.Fetch basis place ptr plan) (asked plan) heard) where
    from : AnswersFrom (maps_of old.servers) None None (asked plan) f.response
    from = fetch_from f.asked f.response f.is f.served.answer

    undone : is_done f.response ≡ false
    undone =
        read_not_done plan.servers f.asked f.response
        (subst (λ (o : Option (ServerId × Request)). Answers plan.servers o f.response) f.is
        (fetch_may_answer old.servers.slots W s.stands Seen (readied c) (known_ready c known) (sound_ready s i c is) basis place ptr plan step_is f.response from))

    servers_after : ServersAreSound new
    servers_after = record {
      count = f.served.count ∙ s.servers.count ∙ sym (ap (λ (m : SeenManager). m.sizes.servers) f.manager);
      index =
          subst (λ (m : SeenManager). AllFitIndex m.sizes.servers (maps_of new.servers)) (sym f.manager)
          (subst (AllFitIndex old.manager.sizes.servers) (sym (maps_same old.servers new.servers f.asked f.response (first_members basis.found).generation f.served undone)) s.servers.index);
      fences = λ server.
          subst (λ (m : SeenManager). (server_at new.servers.servers server).fence ≤ m.tables.members.generation) (sym f.manager)
          (subst (λ (n : ℕ). n ≤ old.manager.tables.members.generation) (sym (fence_at old.servers new.servers f.asked f.response (first_members basis.found).generation f.served undone server)) (s.servers.fences server));
    }

    abbrev same : StandsStill old new
    same = record {
      tables = ap (λ (m : SeenManager). m.tables) f.manager;
      sizes = ap (λ (m : SeenManager). m.sizes) f.manager;
      maps = maps_same old.servers new.servers f.asked f.response (first_members basis.found).generation f.served undone;
      slots = f.served.slots;
      servers = servers_after;
    }

    right : ClientIsSound W Seen heard.client × TellsRight Seen (readied c) heard
    right = fetch_goes_on old.servers.slots W s.stands Seen (readied c) (known_ready c known) (sound_ready s i c is) basis place ptr plan step_is f.response f.serving heard from f.hears

    -- it reads on, or the batch goes on
    silent_so : TellsNothing (readied c) heard → (reading : Bool) → is_reading heard.client ≡ reading → StaysSound s new i []
    silent_so quiet false e =
        quiet_stays s i c is new same heard.client clients_are quiet.same None e
        (any_tree W Seen (tree_for given lines None) heard.client e right.0) (inr tt)
        (none_left (kind_of c) (s.reads i) lines [] (silent (kind_of c) (s.reads i)))
    silent_so quiet true e =
        let none : c.kept ≡ [] = sym quiet.same.kept ∙ none_kept heard.client.kept (step_of heard.client.task) e in
        let reads : is_reading (readied c) ≡ true = ap (λ (k : List Numbered). reads_with k (step_of c.task)) none ∙ ap (reads_with []) step_is in
        let l : Looked given lines (readied c) (s.reads i) = looked_up given lines (readied c) (s.reads i) (looked_ready s i c is) reads in
        quiet_stays s i c is new same heard.client clients_are quiet.same (s.reads i)
        (subst (HasLookedUp given lines heard.client) (sym l.is) (looked_still given lines (readied c) heard.client l.one quiet.same e l.first))
        right.0
        (inl refl)
        (as_looked given lines c (s.reads i) (s.calls.looked i c is))

    -- the read is answered
    module _ (d : SeenClient) (ans : AnswersRead Seen d (readied c) heard) where
      none : c.kept ≡ []
      none = ans.none_kept

      abbrev l : Looked given lines (readied c) (s.reads i)
      l = looked_up given lines (readied c) (s.reads i) (looked_ready s i c is) (ap (λ (k : List Numbered). reads_with k (step_of c.task)) none ∙ ap (reads_with []) step_is)

      abbrev r : Reads given lines d
      r = read_at s i c is new same heard clients_are known task work Seen d ans

      first : FirstIsLookedUp given lines d.client l.one (r.read ∷ r.rest)
      first =
          subst (FirstIsLookedUp given lines d.client l.one) (sym ans.same.queue ∙ r.queue)
          (subst (λ (n : ℕ). FirstIsLookedUp given lines n l.one c.queue) (sym ans.same.client) l.first)

      one_is : l.one ≡ record { number = r.read.number; at = l.one.at }
      one_is = λ k. record { number = first.0 k; at = l.one.at }

      answered_so : StaysSound s new i (lines_in heard.told)
      answered_so =
          answer_stays s i c is new same heard clients_are known task work Seen d ans
          l.one.at
          (subst (λ (x : LookedUp). IsLookedUp given lines d.client x r.read.call) one_is first.1)
          (ap (tree_for given lines) l.is ∙ ap (λ (x : LookedUp). tree_for given lines (Some x)) one_is)
          (subst (λ (x : Option LookedUp). is_number x r.read.number ≡ true) (sym l.is) (same_number l.one.number r.read.number first.0))
          refl
          Seen right.0
          (λ e some. ap is_some l.is) where
            same_number : (a b : ℕ) → a ≡ b → (a == b) ≡ true
            same_number a b e = eq-eqb a b e

    pub fetch_stays : StaysSound s new i (lines_in heard.told)
    fetch_stays = by right.1 where
      by : TellsRight Seen (readied c) heard → StaysSound s new i (lines_in heard.told)
      by (inl quiet) = subst (StaysSound s new i) (sym (ap lines_in quiet.told)) (silent_so quiet (is_reading heard.client) refl)
      by (inr (d, ans)) = answered_so d ans
