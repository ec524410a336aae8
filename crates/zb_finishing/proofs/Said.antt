-- What the lines of a step say.
use Rattle.std.proofs.Common.{◌≡◌, ℕ, ◌+◌, ◌≤◌, true, false, Bool, List, [], ◌∷◌, ◌++◌, length, Option, Some, None, refl, sym, ◌∙◌, subst, arith, inl, inr}
use Rattle.std.specs.Prelude.{◌⊎◌, ◌&&◌, if◌then◌else◌, nat_lt, slice_set, IsTrue}
use Rattle.std.specs.List.{AllByRecursion}
use Rattle.std.proofs.lemmas.Bool.{and_from, le-leb}
use Rattle.zb_types.specs.Apply.{is_bufferable, is_update}
use Rattle.zb_types.specs.Limits.{most_kept, within}
use Rattle.zb_types.specs.Tree.{Tree}
use Rattle.zb_types.specs.declared.calls.Reply.{Reply}
use Rattle.zb_types.specs.declared.ids.Ptr.{Ptr}
use Rattle.zb_types.specs.declared.lines.Outcome.{Outcome}
use Rattle.zb_types.specs.declared.lines.Outcome.TheVariants.{Call as OfCall, Clean as OfClean, Rebuild as OfRebuild, Event as OfEvent}
use Rattle.zb_types.specs.declared.lines.Said.{Said}
use Rattle.zb_types.specs.declared.lines.Said.TheVariants as said
use Rattle.zb_types.specs.declared.nodes.Cause.{Cause}
use Rattle.zb_types.specs.declared.nodes.Cause.TheVariants.{Unreachable, Down, NoSpace}
use Rattle.zb_types.specs.declared.nodes.Class.TheVariants.{Client}
use Rattle.zb_headline.specs.Complete.{ends_by_space, is_for_space, lacks_space_alone}
use Rattle.zb_stripe.specs.Reading.{Reading, asked}
use Rattle.zb_given.specs.Given.{Given}
use Rattle.zb_servers.specs.Serving.{MayAsk, is_refused}
use Rattle.zb_servers_laws.proofs.Asking.{plan_may_ask}
use Rattle.zb_basis.specs.declared.basis.Basis.{Basis}
use Rattle.zb_basis.specs.declared.basis.Formed.{Formed}
use Rattle.zb_basis.specs.declared.basis.Sealed.{Sealed}
use Rattle.zb_basis.specs.declared.calls.Numbered.{Numbered}
use Rattle.zb_work.specs.declared.work.Aim.{Aim}
use Rattle.zb_work.specs.declared.work.Aim.TheVariants.{Update, Read, Finish}
use Rattle.zb_work.specs.declared.work.Step.{Step}
use Rattle.zb_work.specs.declared.work.Step.TheVariants as step
use Rattle.zb_work.specs.declared.work.Task.{Task}
use Rattle.zb_work.specs.Steps.{new_task}
use Rattle.zb_client.specs.declared.steps.Told.{Told}
use Rattle.zb_client.specs.Hearing.{keeps, takes_first}
use Rattle.zb_client.specs.Seen.{SeenClient}
use Rattle.zb_client.specs.Telling.{Heard, answers_first, answers_read, gives_up, gives_up_aim, gives_up_for, line, reply_lines, silent, tells, unfinished_lines}
use Rattle.zb_client.specs.Wishing.{lookup_of}
use Rattle.zb_client_laws.specs.Effects.{GivesUp, TellsNothing, TellsRight}
use Rattle.zb_client_laws.specs.Known.{IsKnown}
use Rattle.zb_line_laws.specs.Calls.{lines_in}
use Rattle.zb_system.specs.Nodes.{IsClient, SeenNodes, readied}
use Rattle.zb_system.specs.Looking.{tree_for}
use Rattle.zb_system.specs.Sound.{AreSound}
use Rattle.zb_system.specs.Steps.{Commits, Does, DoesStep, Fetches, HasStepped, IsBehindNow, LooksUp, Stores, TakesCall}
use Rattle.zb_system.proofs.Quiet.{World}
use Rattle.zb_system.proofs.Storing.{head_is, in_plan}
use Rattle.zb_ending.proofs.Tells.{behind_tells, fetch_right, lookup_right, store_tells}
use Rattle.zb_finishing.specs.Telling.{IsNoSpace, MaySay, MayTell}

-- ---- lines of one client

module _ (servers : ℕ) where
  abbrev May : ℕ → List Outcome → Type 0
  May client lines = AllByRecursion (MayTell servers client) lines

  module _ (cause : Cause) (space : IsNoSpace servers cause) where
    unfinished_may : (client : ℕ) (calls : List Numbered) → May client (unfinished_lines client cause calls)
    unfinished_may client [] = tt
    unfinished_may client (call ∷ calls) = ((refl, space), unfinished_may client calls)

    failed_may : (c : SeenClient) (queue : List Numbered) → May c.client (lines_in (answers_first c queue (said.Failed cause)).told)
    failed_may c [] = tt
    failed_may c (read ∷ rest) = ((refl, space), tt)

    aim_may : (c : SeenClient) (aim : Aim) → May c.client (lines_in (gives_up_aim c aim cause).told)
    aim_may c (Update number) = ((refl, space), tt)
    aim_may c Read = failed_may c c.queue
    aim_may c Finish = unfinished_may c.client c.kept

    work_may : (c : SeenClient) (task : Option Task) → May c.client (lines_in (gives_up_for c task cause).told)
    work_may c None = tt
    work_may c (Some task) = aim_may c task.aim

    up_may : (c : SeenClient) → May c.client (lines_in (gives_up c cause).told)
    up_may c = work_may c c.task

  replies_may : (client : ℕ) (calls : List Numbered) (replies : List Reply) → May client (reply_lines client calls replies)
  replies_may client (call ∷ calls) (reply ∷ replies) = ((refl, tt), replies_may client calls replies)
  replies_may client [] replies = tt
  replies_may client (call ∷ calls) [] = tt

  answered_may : (c : SeenClient) (reply : Reply) (queue : List Numbered) → May c.client (lines_in (answers_first c queue (said.Reply reply)).told)
  answered_may c reply [] = tt
  answered_may c reply (read ∷ rest) = ((refl, tt), tt)

  kept_may : (c : SeenClient) (call : Numbered) (few : Bool)
      → May c.client (lines_in (if few then tells c (line c call.number said.Buffered ∷ []) else silent (record c { task = new_task (Update call.number) })).told)
  kept_may c call true = ((refl, tt), tt)
  kept_may c call false = tt

  update_may : (c : SeenClient) (call : Numbered) (rest : List Numbered) (update : Bool)
      → May c.client (lines_in (if update then keeps (record c { kept = c.kept ++ call ∷ []; queue = rest }) call else silent (record c { task = new_task Read })).told)
  update_may c call rest true = kept_may (record c { kept = c.kept ++ call ∷ []; queue = rest }) call (is_bufferable call.call && nat_lt (length (c.kept ++ call ∷ [])) most_kept)
  update_may c call rest false = tt

  taken_may : (c : SeenClient) (queue : List Numbered) → May c.client (lines_in (takes_first c queue).told)
  taken_may c [] = tt
  taken_may c (call ∷ rest) = update_may c call rest (is_update call.call)

-- ---- a step

within_both : (n k : ℕ) → 1 ≤ k → k ≤ n → IsTrue (within 1 n k)
within_both n k low high = and_from _ _ (le-leb 1 k low) (le-leb k n high)

module _ {given : Given} {lines : List Outcome} {old : SeenNodes} (s : AreSound given lines old) (new : SeenNodes) (i : ℕ) (c : SeenClient) (is : IsClient old i c) (known : IsKnown c) (heard : Heard)
    (clients_are : new.clients ≡ slice_set old.clients i heard.client) where
  abbrev C : SeenClient
  C = readied c

  abbrev N : ℕ
  N = old.manager.sizes.servers

  abbrev Right : Heard → Type 0
  Right h = AllByRecursion (MayTell N c.client) (lines_in h.told)

  -- by a client of the same number
  own : (d : SeenClient) (h : Heard) → d.client ≡ c.client → AllByRecursion (MayTell N d.client) (lines_in h.told) → Right h
  own d h same may = subst (λ (n : ℕ). AllByRecursion (MayTell N n) (lines_in h.told)) same may

  quiet_may : TellsNothing C heard → Right heard
  quiet_may quiet = subst (λ (t : Told). AllByRecursion (MayTell N c.client) (lines_in t)) (sym quiet.told) tt

  right_may : (seen : Tree) → TellsRight seen C heard → Right heard
  right_may seen (inl quiet) = quiet_may quiet
  right_may seen (inr (d, answers)) = subst Right (sym answers.is) (own d (answers_read d (said.Reply answers.reply)) answers.same.client (answered_may N d answers.reply d.queue))

  gives_may : (cause : Cause) → IsNoSpace N cause → GivesUp C cause heard → Right heard
  gives_may cause space up = subst Right (sym up.is) (own up.noted (gives_up up.noted cause) up.same.client (up_may N cause space up.noted))

  call_may : TakesCall old new C heard → Right heard
  call_may takes = subst Right (sym takes.heard_is) (taken_may N C c.queue)

  module _ (task : Task) (work : c.task ≡ Some task) where
    lookup_may : task.step ≡ step.Lookup → LooksUp old new C task (lookup_of C task.tries c.kept) heard → Right heard
    lookup_may at looks =
        right_may (World s i c is).tree (lookup_right s i c is known task work new heard clients_are at (lookup_of C task.tries c.kept) refl looks)

    fetch_may : (basis : Basis) (place : ℕ) (ptr : Ptr) (plan : Reading) → task.step ≡ step.Fetch basis place ptr plan
        → Fetches old new C basis (step.Fetch basis place ptr plan) (asked plan) heard → Right heard
    fetch_may basis place ptr plan at fetches =
        right_may (tree_for given lines (s.reads i)) (fetch_right s i c is known task work new heard clients_are basis place ptr plan at fetches)

    module _ (basis : Basis) (formed : Formed) (at : task.step ≡ step.Store basis formed) (stores : Stores old new C basis formed heard) where
      -- who is asked is one of the servers
      may_ask : MayAsk N stores.asked
      may_ask =
          let first = head_is formed.plan ∙ stores.is in
          let low = s.stands.limits.servers_low in
          let high = s.stands.limits.fragment_high in
          plan_may_ask N old.manager.sizes.fragment (omega (arith, low)) (omega (arith, high))
          _ Client _ _ stores.asked (in_plan s i c is known task work basis formed at stores.asked first)

      store_may : Right heard
      store_may = by (store_tells s i c is known task work new heard clients_are basis formed at stores) where
        by : ((is_refused stores.response ≡ false) × TellsNothing C heard) ⊎ ((is_refused stores.response ≡ true) × GivesUp C (NoSpace stores.asked.0) heard) → Right heard
        by (inl done) = quiet_may done.1
        by (inr up) = gives_may (NoSpace stores.asked.0) (within_both N stores.asked.0.0 may_ask.first may_ask.last) up.1

    commit_may : (basis : Basis) (sealed : Sealed) → task.step ≡ step.Commit basis sealed → Commits old new C sealed heard ⊎ IsBehindNow old new C sealed heard → Right heard
    commit_may basis sealed at (inl done) = subst Right (sym done.heard_is) (replies_may N c.client c.kept done.replies)
    commit_may basis sealed at (inr behind) = quiet_may (behind_tells s i c is known task work new heard clients_are sealed behind)

    step_may : (st : Step) → task.step ≡ st → DoesStep old new C task st heard → Right heard
    step_may step.Lookup at does = lookup_may at does
    step_may (step.Fetch basis place ptr plan) at does = fetch_may basis place ptr plan at does
    step_may (step.Store basis formed) at does = store_may basis formed at does
    step_may (step.Mark server generation) at does = absurd does
    step_may (step.Commit basis sealed) at does = commit_may basis sealed at does.turn

  task_may : (t : Option Task) → c.task ≡ t → Does old new C t heard → Right heard
  task_may None work does = call_may does
  task_may (Some task) work does = step_may task work task.step refl does

  pub does_may : Does old new C c.task heard → Right heard
  does_may does = task_may c.task refl does

pub stepped_may : {given : Given} {lines : List Outcome} {old : SeenNodes} (new : SeenNodes) (i : ℕ) (told : Told) → AreSound given lines old → HasStepped old new i told
    → AllByRecursion (MayTell old.manager.sizes.servers (i + 1)) (lines_in told)
stepped_may {old = old} new i told s h =
    subst (λ (t : Told). AllByRecursion (MayTell old.manager.sizes.servers (i + 1)) (lines_in t)) h.told_is
    (subst (λ (n : ℕ). AllByRecursion (MayTell old.manager.sizes.servers n) (lines_in h.heard.told)) (s.clients i h.client h.is).1
    (does_may s new i h.client h.is h.known h.heard h.clients h.does))

-- ---- they lack space alone

space_alone : (servers : ℕ) (cause : Cause) → IsNoSpace servers cause → is_for_space cause ≡ true
space_alone servers (Unreachable a b) may = absurd may
space_alone servers Down may = absurd may
space_alone servers (NoSpace server) may = refl

said_alone : (servers : ℕ) (what : Said) → MaySay servers what → ends_by_space what ≡ true
said_alone servers (said.Reply reply) may = refl
said_alone servers said.Buffered may = refl
said_alone servers (said.Kept cause) may = refl
said_alone servers (said.Failed cause) may = space_alone servers cause may
said_alone servers said.Dropped may = absurd may
said_alone servers (said.Unfinished cause) may = space_alone servers cause may

line_alone : (servers client : ℕ) (told : Outcome) → MayTell servers client told → lacks_space_alone told ≡ true
line_alone servers client (OfCall c n what) may = said_alone servers what may.1
line_alone servers client (OfClean pass) may = absurd may
line_alone servers client (OfRebuild server end) may = absurd may
line_alone servers client (OfEvent event answer) may = absurd may

pub all_alone : (servers client : ℕ) (lines : List Outcome) → AllByRecursion (MayTell servers client) lines → AllByRecursion (λ told. lacks_space_alone told ≡ true) lines
all_alone servers client [] may = tt
all_alone servers client (told ∷ more) may = (line_alone servers client told may.0, all_alone servers client more may.1)
