-- A client makes the next request of a batch.
use Rattle.std.proofs.Common.{◌≡◌, ◌≢◌, ℕ, ◌≤◌, true, false, Bool, List, [], ◌∷◌, ◌++◌, append-nil, length, Option, Some, None, refl, sym, ap, ◌∙◌, subst, inl, inr}
use Rattle.std.specs.Prelude.{◌⊎◌, if◌then◌else◌, slice_get, slice_set, take}
use Rattle.std.proofs.lemmas.Bool.{cases_eq}
use Rattle.zb_types.specs.Tree.{Tree}
use Rattle.zb_types.specs.declared.ids.ServerId.{ServerId}
use Rattle.zb_types.specs.declared.lines.Outcome.{Outcome}
use Rattle.zb_types.specs.declared.lines.Said.TheVariants as said
use Rattle.zb_types.specs.declared.nodes.Cause.{Cause}
use Rattle.zb_types.specs.declared.nodes.Cause.TheVariants.{NoSpace}
use Rattle.zb_types.specs.declared.nodes.Class.TheVariants.{Client}
use Rattle.zb_types.specs.declared.nodes.Members.{Members}
use Rattle.zb_types.specs.declared.requests.Request.{Request}
use Rattle.zb_types.specs.declared.requests.Request.TheVariants as ask
use Rattle.zb_types.specs.declared.requests.Response.{Response}
use Rattle.zb_types.specs.declared.requests.Response.TheVariants as told
use Rattle.zb_types.specs.declared.requests.StoreFault.TheVariants as fault
use Rattle.zb_holding.specs.Carrying.{carried}
use Rattle.zb_holding.specs.Rules.{AreSame, fence_after, has_after, is_done}
use Rattle.zb_stripe.specs.declared.flush.Flush.{Flush}
use Rattle.zb_stripe.specs.declared.write_plan.Fed.{Fed}
use Rattle.zb_stripe.specs.declared.write_plan.Fed.TheVariants as fed
use Rattle.zb_stripe.specs.Feeding.{fed_by}
use Rattle.zb_stripe.specs.Writing.{plan_requests}
use Rattle.zb_claims.specs.Points.{tree_at}
use Rattle.zb_given.specs.Given.{FitGiven, Given, script_of}
use Rattle.zb_tables.specs.Tables.{Tables}
use Rattle.zb_tables.specs.Taking.{Sizes}
use Rattle.zb_manager.specs.Managers.{SeenManager}
use Rattle.zb_manager.specs.Seen.{held_by}
use Rattle.zb_turns.specs.Turns.{other_holder}
use Rattle.zb_servers.specs.Serving.{is_refused}
use Rattle.zb_servers.specs.Standing.{SeenServer, has, maps_of, server_at}
use Rattle.zb_servers_laws.specs.Answered.{IsWrite, lacks_slot}
use Rattle.zb_servers_laws.specs.Indexed.{AllFitIndex}
use Rattle.zb_servers_laws.proofs.Indexing.{all_kept, plan_puts}
use Rattle.zb_servers_laws.proofs.WriteAnswers.{plan_writes, write_answer}
use Rattle.zb_sound.specs.LastFlush.{FindsItsPlace}
use Rattle.zb_basis.specs.declared.basis.Basis.{Basis}
use Rattle.zb_basis.specs.declared.basis.Formed.{Formed}
use Rattle.zb_basis.specs.declared.calls.Numbered.{Numbered}
use Rattle.zb_work.specs.declared.work.Aim.{Aim}
use Rattle.zb_work.specs.declared.work.Aim.TheVariants.{Update, Read, Finish}
use Rattle.zb_work.specs.declared.work.Step.{Step}
use Rattle.zb_work.specs.declared.work.Step.TheVariants as step
use Rattle.zb_work.specs.declared.work.Task.{Task}
use Rattle.zb_work.specs.Fitting.{AimFits}
use Rattle.zb_work.specs.Steps.{aim_of, step_of, with_step}
use Rattle.zb_client.specs.Hearing.{HearsStore, goes_on_storing, notes}
use Rattle.zb_client.specs.Seen.{SeenClient, kind_of}
use Rattle.zb_client.specs.Telling.{Heard, answers_first, gives_up, gives_up_aim, gives_up_for}
use Rattle.zb_client.specs.Wishing.{head_of}
use Rattle.zb_client.specs.declared.steps.Told.TheVariants.{Nothing}
use Rattle.zb_client_laws.specs.Around.{Around, IsAround}
use Rattle.zb_client_laws.specs.Effects.{GivesUp, TellsNothing, after_request}
use Rattle.zb_client_laws.specs.Known.{IsKnown}
use Rattle.zb_client_laws.specs.Sound.{ClientIsSound, StepIsCurrent}
use Rattle.zb_client_laws.proofs.Joined.{store_together}
use Rattle.zb_client_laws.proofs.Storing.{Out, Stored, around_after, delivering, done_sound, finds, full_sound, full_told, standing}
use Rattle.zb_line_laws.specs.Calls.{FitsAfter, HasItsCalls, TellsOwn, lines_in}
use Rattle.zb_line_laws.proofs.Answering.{given_up_finish, given_up_read, given_up_update}
use Rattle.zb_line_laws.proofs.Owning.{given_up}
use Rattle.zb_line_laws.proofs.Staying.{quiet_step}
use Rattle.zb_progress.specs.Fresh.{RoseBy}
use Rattle.zb_system.specs.Nodes.{IsClient, SeenNodes, readied}
use Rattle.zb_system.specs.Looking.{is_fetch, is_reading, reads_with, tree_for}
use Rattle.zb_system.specs.Sound.{AreSound, ServersAreSound, StaysSound}
use Rattle.zb_system.specs.Steps.{Stores}
use Rattle.zb_system.proofs.AnyTree.{any_tree}
use Rattle.zb_system.proofs.FirstReads.{Begun, begun, not_fetch}
use Rattle.zb_system.proofs.Inside.{still}
use Rattle.zb_system.proofs.Joining.{elsewhere, joined}
use Rattle.zb_system.proofs.ReadsLeft.{none_left, not_reading, silent}
use Rattle.zb_system.proofs.Quiet.{World, calls_ready, own_of, sound_ready, tells_lines, with_parts}
use Rattle.zb_system.proofs.Telling.{IsSilentOn, given_up_silent, tree_same}

abbrev Requests : Type 0
Requests = List (ServerId × Request)

pub head_is : (left : Requests) → slice_get left 0 ≡ head_of left
head_is [] = refl
head_is (asked ∷ rest) = refl

pub at_behind : (done left : Requests) → slice_get (done ++ left) (length done) ≡ slice_get left 0
at_behind [] left = refl
at_behind (asked ∷ done) left = at_behind done left

-- a write leaves the fence
write_fence : (request : Request) (fence : ℕ) → IsWrite request → fence_after request fence ≡ fence
write_fence (ask.Store id bytes class) fence write = refl
write_fence (ask.Append id place bytes) fence write = refl
write_fence (ask.Parity id lengths bytes class) fence write = refl
write_fence (ask.Retrieve id place len) fence write = absurd write
write_fence (ask.Delete id) fence write = absurd write
write_fence (ask.Identify after) fence write = absurd write
write_fence (ask.Fence generation) fence write = absurd write

-- ---- no block is read at what comes of a store

pub step_rests : (kept : List Numbered) (t : Option Task) (st : Step) → is_fetch st ≡ false → reads_with kept (step_of (with_step st t)) ≡ false
step_rests kept None st e = not_fetch kept step.Lookup refl
step_rests kept (Some task) st e = not_fetch kept st e

-- what is left of a client that gives up
pub record IsLeftOf (c : SeenClient) (after : SeenClient) : Type 0 where
  pub rests : is_reading after ≡ false
  pub client : after.client ≡ c.client
  pub doubted : after.doubted ≡ c.doubted

module _ (c : SeenClient) (cause : Cause) where
  answers_left : (queue : List Numbered) → IsLeftOf c (answers_first c queue (said.Failed cause)).client
  answers_left [] = record { rests = not_fetch c.kept step.Lookup refl; client = refl; doubted = refl }
  answers_left (read ∷ rest) = record { rests = not_fetch c.kept step.Lookup refl; client = refl; doubted = refl }

  aim_left : (aim : Aim) → IsLeftOf c (gives_up_aim c aim cause).client
  aim_left (Update number) = record { rests = not_fetch c.kept step.Lookup refl; client = refl; doubted = refl }
  aim_left Read = answers_left c.queue
  aim_left Finish = record { rests = not_fetch (take c.doubted c.kept) step.Lookup refl; client = refl; doubted = refl }

  given_up_left : (t : Option Task) → t ≡ c.task → IsLeftOf c (gives_up_for c t cause).client
  given_up_left None e = record { rests = ap (λ (t : Option Task). reads_with c.kept (step_of t)) (sym e) ∙ not_fetch c.kept step.Lookup refl; client = refl; doubted = refl }
  given_up_left (Some task) e = aim_left task.aim

  pub up_left : IsLeftOf c (gives_up c cause).client
  up_left = given_up_left c.task refl

store_rests : (c : SeenClient) (basis : Basis) (formed : Formed) (response : Response) (came : Fed) → is_reading (goes_on_storing c basis formed response came).client ≡ false
store_rests c basis formed response fed.More = step_rests c.kept c.task (step.Store basis _) refl
store_rests c basis formed response fed.Done = step_rests c.kept c.task (step.Commit basis formed.sealed) refl
store_rests c basis formed response (fed.Down server) = step_rests c.kept c.task (step.Mark server formed.sealed.members.generation) refl
store_rests c basis formed response (fed.NoSpace server free) = (up_left c (NoSpace server)).rests
store_rests c basis formed response (fed.Old now) = step_rests c.kept c.task step.Lookup refl
store_rests c basis formed response fed.NoMemory = step_rests c.kept c.task (step.Store basis _) refl

module _ {given : Given} {lines : List Outcome} {old : SeenNodes} (s : AreSound given lines old) (i : ℕ) (c : SeenClient) (is : IsClient old i c) (known : IsKnown c)
    (task : Task) (work : c.task ≡ Some task) (basis : Basis) (formed : Formed) (at_store : task.step ≡ step.Store basis formed) where
  abbrev W : Around
  W = World s i c is

  abbrev Seen : Tree
  Seen = tree_for given lines (s.reads i)

  abbrev C : SeenClient
  C = readied c

  abbrev S : ClientIsSound W Seen C
  S = sound_ready s i c is

  pub step_is : step_of c.task ≡ step.Store basis formed
  step_is = ap step_of work ∙ at_store

  abbrev Flushing : Flush
  Flushing = Stored W Seen C S basis formed step_is

  abbrev Leaves_out : Option ServerId
  Leaves_out = Out W Seen C S basis formed step_is

  -- its generation is that of the members
  pub store_generation : formed.sealed.members.generation ≡ old.manager.tables.members.generation
  store_generation =
      let d = delivering W Seen C S basis formed step_is in
      let now = subst (λ (st : Step). StepIsCurrent W Seen C st) step_is S.step in
      ap (λ (m : Members). m.generation) (ap (λ (x : Formed). x.sealed.members) d.formed_is ∙ d.was.is.seen ∙ now.0.rests.members)

  module _ (asked : ServerId × Request) (first : slice_get formed.plan 0 ≡ Some asked) where
    abbrev Place : ℕ
    Place = length (standing W Seen C S basis formed step_is).stands.done

    pub in_plan : slice_get (plan_requests W.z.servers W.z.fragment Leaves_out Client Flushing) Place ≡ Some asked
    in_plan =
        let stands = (standing W Seen C S basis formed step_is).stands in
        ap (λ (l : Requests). slice_get l (length stands.done)) stands.all ∙ at_behind stands.done formed.plan ∙ first

    pub is_write : IsWrite asked.1
    is_write = plan_writes W.z.servers W.z.fragment Leaves_out Flushing Place asked Client in_plan

    pub has_place : FindsItsPlace asked.1 (maps_of old.servers asked.0)
    has_place = finds W Seen C S basis formed step_is old.servers.slots s.stands asked first

    pub fence_low : (server_at old.servers.servers asked.0).fence ≤ formed.sealed.members.generation
    fence_low = subst (λ (g : ℕ). (server_at old.servers.servers asked.0).fence ≤ g) (sym store_generation) (s.servers.fences asked.0)

  module _ (new : SeenNodes) (heard : Heard) (clients_are : new.clients ≡ slice_set old.clients i heard.client) (f : Stores old new C basis formed heard) where
    abbrev A : ServerId × Request
    A = f.asked

    abbrev First : slice_get formed.plan 0 ≡ Some A
    First = head_is formed.plan ∙ f.is

    abbrev G : ℕ
    G = formed.sealed.members.generation

    tables_same : (b : Bool) → (if b then held_by (other_holder c.client old.manager.holder) old.manager else old.manager).tables ≡ old.manager.tables
    tables_same true = refl
    tables_same false = refl

    sizes_same : (b : Bool) → (if b then held_by (other_holder c.client old.manager.holder) old.manager else old.manager).sizes ≡ old.manager.sizes
    sizes_same true = refl
    sizes_same false = refl

    tables_are : new.manager.tables ≡ old.manager.tables
    tables_are = ap (λ (m : SeenManager). m.tables) f.manager ∙ tables_same (is_refused f.response)

    sizes_are : new.manager.sizes ≡ old.manager.sizes
    sizes_are = ap (λ (m : SeenManager). m.sizes) f.manager ∙ sizes_same (is_refused f.response)

    -- ---- it is carried out
    module _ (done : f.response ≡ told.Done) where
      carried_out : maps_of new.servers ≡ carried (maps_of old.servers) A
      carried_out = f.served.carried_out (ap is_refused done)

      fence_at : (server : ServerId) → (server_at new.servers.servers server).fence ≡ (server_at old.servers.servers server).fence
      fence_at server = by (cases_eq server.0 A.0.0) where
        same : AreSame (has new.servers A.0) (has_after A.1 (has old.servers A.0))
        same = subst (λ (b : Bool). AreSame (has new.servers A.0) (if b then has_after A.1 (has old.servers A.0) else has old.servers A.0)) (ap is_done done) f.served.left

        by : (server.0 ≡ A.0.0) ⊎ (server.0 ≢ A.0.0) → (server_at new.servers.servers server).fence ≡ (server_at old.servers.servers server).fence
        by (inl here) =
            let one : server ≡ A.0 = λ k. record { 0 = here k } in
            ap (λ (x : ServerId). (server_at new.servers.servers x).fence) one
            ∙ same.fence ∙ write_fence A.1 (server_at old.servers.servers A.0).fence (is_write A First)
            ∙ ap (λ (x : ServerId). (server_at old.servers.servers x).fence) (sym one)
        by (inr ne) = ap (λ (x : SeenServer). x.fence) (f.served.others server ne)

      servers_after : ServersAreSound new
      servers_after = record {
        count = f.served.count ∙ s.servers.count ∙ sym (ap (λ (z : Sizes). z.servers) sizes_are);
        index =
            subst (λ (z : Sizes). AllFitIndex z.servers (maps_of new.servers)) (sym sizes_are)
            (subst (AllFitIndex old.manager.sizes.servers) (sym carried_out)
            (all_kept old.manager.sizes.servers (maps_of old.servers) A (plan_puts W.z.servers W.z.fragment Leaves_out Client Flushing (Place A First) A (in_plan A First)) s.servers.index));
        fences = λ server.
            subst (λ (t : Tables). (server_at new.servers.servers server).fence ≤ t.members.generation) (sym tables_are)
            (subst (λ (n : ℕ). n ≤ old.manager.tables.members.generation) (sym (fence_at server)) (s.servers.fences server));
      }

      hears : heard ≡ goes_on_storing (notes C formed (fed_by formed.plan told.Done)) basis formed told.Done (fed_by formed.plan told.Done)
      hears = subst (λ (r : Response). HearsStore C (step.Store basis formed) r heard) done f.hears

      right : ClientIsSound (after_request W A) Seen heard.client × TellsNothing C heard
      right = subst (λ (h : Heard). ClientIsSound (after_request W A) Seen h.client × TellsNothing C h) (sym hears) (done_sound W Seen C S basis formed step_is old.servers.slots s.stands A First)

      others : (j : ℕ) (d : SeenClient) → j ≢ i → IsClient old j d → ClientIsSound (after_request W A) (tree_for given lines (s.reads j)) d
      others j d ne at =
          (store_together (λ j. tree_for given lines (s.reads j)) old.clients i c heard.client is right.1.same.client old.servers.slots W s.stands s.clients Flushing refl Leaves_out Client formed.plan A
          (standing W Seen C S basis formed step_is).stands.works First right.0 j d (elsewhere old.clients i heard.client old.clients i j ne ∙ at)).0

      not : is_reading heard.client ≡ false
      not = ap (λ (h : Heard). is_reading h.client) hears ∙ store_rests (notes C formed (fed_by formed.plan told.Done)) basis formed told.Done (fed_by formed.plan told.Done)

      as_before : lines ++ [] ≡ lines
      as_before = append-nil lines

      pub done_stays : StaysSound s new i (lines_in heard.told)
      done_stays =
          subst (StaysSound s new i) (sym (ap lines_in right.1.told))
          (joined s new i c is (record { client = heard.client; told = Nothing }) clients_are right.1.same.client (record { own = tt; others = λ other ne. refl })
          (after_request W A) s.contents
          (λ k. with_parts (sizes_are k) s.contents (carried_out k) (tables_are k) (tree_at (script_of given) (as_before k)))
          (subst (λ (n : ℕ). IsAround n (after_request W A)) (sym f.served.slots) (around_after W Seen C S basis formed step_is old.servers.slots s.stands A First))
          None
          (any_tree (after_request W A) Seen (tree_for given (lines ++ []) None) heard.client not right.0)
          others
          (subst (FitGiven given) (sym as_before) s.told.fit, subst (λ (ls : List Outcome). HasItsCalls given ls heard.client) (sym as_before) (quiet_step given lines C heard.client right.1.same (calls_ready s i c is)))
          not
          servers_after
          (ap (λ (z : Sizes). z.clients) sizes_are)
          (subst (λ (t : Tables). RoseBy t.next_entry t) (sym tables_are) s.rose)
          tt (inr tt)
          (none_left (kind_of c) (s.reads i) lines [] (silent (kind_of c) (s.reads i))))

    -- ---- no slot is left for it
    module _ (free : ℕ) (full : f.response ≡ told.Refused (fault.NoSlot free)) where
      full_hears : heard ≡ goes_on_storing (notes C formed (fed_by formed.plan (told.Refused (fault.NoSlot free)))) basis formed (told.Refused (fault.NoSlot free)) (fed_by formed.plan (told.Refused (fault.NoSlot free)))
      full_hears = subst (λ (r : Response). HearsStore C (step.Store basis formed) r heard) full f.hears

      full_right : ClientIsSound W Seen heard.client × GivesUp C (NoSpace A.0) heard
      full_right =
          subst (λ (h : Heard). ClientIsSound W Seen h.client × GivesUp C (NoSpace A.0) h) (sym full_hears)
          (full_sound W Seen C S basis formed step_is free, full_told W Seen C S basis formed step_is free A First)

      abbrev Up : GivesUp C (NoSpace A.0) heard
      Up = full_right.1

      abbrev D : SeenClient
      D = Up.noted

      left_is : IsLeftOf D heard.client
      left_is = subst (λ (h : Heard). IsLeftOf D h.client) (sym Up.is) (up_left D (NoSpace A.0))

      has_calls : HasItsCalls given lines D
      has_calls = quiet_step given lines C D Up.same (calls_ready s i c is)

      up_fits : (aim : Aim) → task.aim ≡ aim → FitsAfter given lines (gives_up D (NoSpace A.0))
      up_fits (Update number) e = given_up_update given lines D task number (NoSpace A.0) s.told.fit has_calls (Up.task ∙ work) e
      up_fits Read e =
          let b : Begun c.queue = begun c.queue (subst (AimFits c.kept c.queue) (ap aim_of work ∙ ap Some e) known.aim) in
          given_up_read given lines D task b.read b.rest (NoSpace A.0) s.told.fit has_calls (Up.task ∙ work) e (Up.same.queue ∙ b.is) b.reads
      up_fits Finish e = given_up_finish given lines D task (NoSpace A.0) s.told.fit has_calls (Up.task ∙ work) e (sym left_is.doubted ∙ full_right.0.settled)

      quiet : IsSilentOn given (lines_in heard.told)
      quiet = subst (λ (h : Heard). IsSilentOn given (lines_in h.told)) (sym Up.is) (given_up_silent given D (NoSpace A.0))

      pub full_stays : StaysSound s new i (lines_in heard.told)
      full_stays =
          tells_lines s i c is new (still old new tables_are sizes_are (f.served.refused (ap is_refused full)) s.servers)
          heard clients_are (left_is.client ∙ Up.same.client)
          (own_of c D heard Up.same.client (subst (TellsOwn D) (sym Up.is) (given_up D (NoSpace A.0))))
          (tree_same (script_of given) lines (lines_in heard.told) quiet.none)
          (subst (FitsAfter given lines) (sym Up.is) (up_fits task.aim refl))
          None left_is.rests
          (any_tree W Seen (tree_for given (lines ++ lines_in heard.told) None) heard.client left_is.rests full_right.0)
          (quiet.lookups lines (s.reads i))
          (inr tt)
          (none_left (kind_of c) (s.reads i) lines (lines_in heard.told) (not_reading c (lines_in heard.told) (s.reads i) (ap is_fetch step_is)))

    pub answer_is : f.response ≡ (if lacks_slot (has old.servers A.0) A.1 then told.Refused (fault.NoSlot (has old.servers A.0).free) else told.Done)
    answer_is = write_answer (has old.servers A.0) G A.1 f.response (is_write A First) (has_place A First) (fence_low A First) f.served.answer

    pub store_stays : StaysSound s new i (lines_in heard.told)
    store_stays = by (lacks_slot (has old.servers A.0) A.1) answer_is where
      by : (b : Bool) → f.response ≡ (if b then told.Refused (fault.NoSlot (has old.servers A.0).free) else told.Done) → StaysSound s new i (lines_in heard.told)
      by true e = full_stays (has old.servers A.0).free e
      by false e = done_stays e
