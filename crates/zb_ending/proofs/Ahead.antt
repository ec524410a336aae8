-- Entries and calls ahead are no more behind a step.
use Rattle.std.proofs.Common.{◌≡◌, ℕ, zero, suc, ◌+◌, ◌≤◌, true, false, List, [], ◌∷◌, ◌++◌, length, length-append, drop, Option, Some, None, refl, sym, ap, ◌∙◌, subst, arith, inl, inr}
use Rattle.std.specs.Prelude.{◌⊎◌, ◌&&◌, nat_lt, slice_get, slice_set}
use Rattle.std.specs.List.{sum_by}
use Rattle.std.proofs.lemmas.Bool.{cond_both}
use Rattle.std.proofs.lemmas.List.{length-take}
use Rattle.std.proofs.lemmas.List.Sums.{sum_by-cons}
use Rattle.zb_types.specs.Apply.{is_bufferable, is_update}
use Rattle.zb_types.specs.Limits.{most_kept}
use Rattle.zb_types.specs.Tree.{Tree}
use Rattle.zb_types.specs.declared.calls.Call.{Call}
use Rattle.zb_types.specs.declared.ids.Ptr.{Ptr}
use Rattle.zb_types.specs.declared.lines.Outcome.{Outcome}
use Rattle.zb_types.specs.declared.lines.Said.{Said}
use Rattle.zb_types.specs.declared.lines.Said.TheVariants as said
use Rattle.zb_types.specs.declared.nodes.Cause.{Cause}
use Rattle.zb_types.specs.declared.nodes.Cause.TheVariants.{NoSpace}
use Rattle.zb_stripe.specs.Reading.{Reading, asked}
use Rattle.zb_given.specs.Given.{Given, calls_of}
use Rattle.zb_tables.specs.Tables.{Tables, last_value, risen}
use Rattle.zb_turns.specs.Turns.{other_holder}
use Rattle.zb_servers.specs.Serving.{is_refused}
use Rattle.zb_basis.specs.declared.basis.Basis.{Basis}
use Rattle.zb_basis.specs.declared.basis.Formed.{Formed}
use Rattle.zb_basis.specs.declared.basis.Sealed.{Sealed}
use Rattle.zb_basis.specs.declared.calls.Numbered.{Numbered}
use Rattle.zb_work.specs.declared.work.Aim.{Aim}
use Rattle.zb_work.specs.declared.work.Aim.TheVariants.{Update, Read, Finish}
use Rattle.zb_work.specs.declared.work.Step.{Step}
use Rattle.zb_work.specs.declared.work.Step.TheVariants as step
use Rattle.zb_work.specs.declared.work.Task.{Task}
use Rattle.zb_work.specs.Steps.{new_task}
use Rattle.zb_client.specs.declared.steps.Told.{Told}
use Rattle.zb_client.specs.Hearing.{keeps, takes_first}
use Rattle.zb_client.specs.Seen.{SeenClient, unready}
use Rattle.zb_client.specs.Telling.{Heard, answers_first, gives_up_aim, gives_up_for}
use Rattle.zb_client.specs.Wishing.{lookup_of}
use Rattle.zb_client_laws.specs.Around.{Around}
use Rattle.zb_client_laws.specs.Effects.{GivesUp, SameCalls, TellsNothing, TellsRight}
use Rattle.zb_client_laws.specs.Known.{IsKnown}
use Rattle.zb_line_laws.specs.Calls.{queues}
use Rattle.zb_system.specs.First.{AreFirst, all_attached, attached_to}
use Rattle.zb_system.specs.Nodes.{IsClient, SeenNodes, readied, with_client}
use Rattle.zb_system.specs.Looking.{tree_for}
use Rattle.zb_system.specs.Sound.{AreSound}
use Rattle.zb_system.specs.Steps.{Commits, Does, DoesStep, Fetches, HasStepped, IsBehindNow, IsReadied, LooksUp, Stores, TakesCall}
use Rattle.zb_system.proofs.Quiet.{World}
use Rattle.zb_ending.specs.Entries.{calls_ahead, entries_ahead}
use Rattle.zb_ending.proofs.Tells.{SameBoth, behind_tells, both_same, fetch_right, held_same, looked_same, lookup_right, store_tells}
use Rattle.zb_ending.proofs.Replied.{calls_end}
use Rattle.zb_ending.proofs.Totals.{set_swap}

-- ---- what becomes of a client's calls

same_ahead : (c d : SeenClient) → SameCalls c d → calls_ahead d ≡ calls_ahead c
same_ahead c d same = ap (λ (q : List Numbered). length q + length d.kept) same.queue ∙ ap (λ (k : List Numbered). length c.queue + length k) same.kept

answered_ahead : (c : SeenClient) (queue : List Numbered) (what : Said) → c.queue ≡ queue → calls_ahead (answers_first c queue what).client ≤ calls_ahead c
answered_ahead c [] what e = omega arith
answered_ahead c (read ∷ rest) what e = let long = ap (λ (q : List Numbered). length q) e in omega (arith, long)

aim_ahead : (c : SeenClient) (aim : Aim) (cause : Cause) → calls_ahead (gives_up_aim c aim cause).client ≤ calls_ahead c
aim_ahead c (Update number) cause = omega arith
aim_ahead c Read cause = answered_ahead c c.queue (said.Failed cause) refl
aim_ahead c Finish cause = let few = length-take c.doubted c.kept in omega (arith, few)

up_ahead : (c : SeenClient) (task : Option Task) (cause : Cause) → calls_ahead (gives_up_for c task cause).client ≤ calls_ahead c
up_ahead c None cause = omega arith
up_ahead c (Some task) cause = aim_ahead c task.aim cause

kept_ahead : (c : SeenClient) (call : Numbered) → calls_ahead (keeps c call).client ≤ calls_ahead c
kept_ahead c call =
    cond_both (is_bufferable call.call && nat_lt (length c.kept) most_kept) _ _ (λ (h : Heard). calls_ahead h.client ≤ calls_ahead c) (λ _. omega arith) (λ _. omega arith)

taken_ahead : (c : SeenClient) (queue : List Numbered) → c.queue ≡ queue → calls_ahead (takes_first c queue).client ≤ calls_ahead c
taken_ahead c [] e = omega arith
taken_ahead c (call ∷ rest) e =
    let d : SeenClient = record c { kept = c.kept ++ call ∷ []; queue = rest } in
    let long = ap (λ (q : List Numbered). length q) e in
    let more = length-append c.kept (call ∷ []) in
    let kept = kept_ahead d call in
    cond_both (is_update call.call) _ _ (λ (h : Heard). calls_ahead h.client ≤ calls_ahead c) (λ _. omega (arith, long, more, kept)) (λ _. omega arith)

-- ---- what becomes of the entries

rises_by_one : (n : ℕ) → risen n ≤ n + 1
rises_by_one n = cond_both (nat_lt n last_value) _ _ (λ (m : ℕ). m ≤ n + 1) (λ _. omega arith) (λ _. omega arith)

module _ (old new : SeenNodes) (i : ℕ) (c d : SeenClient) (is : IsClient old i c) (clients_are : new.clients ≡ slice_set old.clients i d) where
  now_is : entries_ahead new + calls_ahead c ≡ new.manager.tables.next_entry + sum_by calls_ahead old.clients + calls_ahead d
  now_is =
      let now : sum_by calls_ahead new.clients ≡ sum_by calls_ahead (slice_set old.clients i d) = ap (λ (cs : List SeenClient). sum_by calls_ahead cs) clients_are in
      let all = set_swap calls_ahead old.clients i c d is in
      omega (arith, now, all)

  no_more : new.manager.tables.next_entry + calls_ahead d ≤ old.manager.tables.next_entry + calls_ahead c → entries_ahead new ≤ entries_ahead old
  no_more few = let now = now_is in omega (arith, now, few)

module _ {given : Given} {lines : List Outcome} {old : SeenNodes} (s : AreSound given lines old) (new : SeenNodes) (i : ℕ) (c : SeenClient) (is : IsClient old i c) (known : IsKnown c) (heard : Heard)
    (clients_are : new.clients ≡ slice_set old.clients i heard.client) where
  abbrev W : Around
  W = World s i c is

  abbrev Seen : Tree
  Seen = tree_for given lines (s.reads i)

  abbrev C : SeenClient
  C = readied c

  abbrev Few : Heard → Type 0
  Few h = calls_ahead h.client ≤ calls_ahead c

  -- no entry is made
  without : SameBoth old new → Few heard → entries_ahead new ≤ entries_ahead old
  without same few =
      let entry = ap (λ (t : Tables). t.next_entry) same.tables in
      no_more old new i c heard.client is clients_are (omega (arith, entry, few))

  quiet_few : TellsNothing C heard → Few heard
  quiet_few quiet = let same = same_ahead C heard.client quiet.same in omega (arith, same)

  right_few : (seen : Tree) → TellsRight seen C heard → Few heard
  right_few seen (inl quiet) = quiet_few quiet
  right_few seen (inr (d, answers)) =
      let same = same_ahead C d answers.same in
      let less = answered_ahead d d.queue (said.Reply answers.reply) refl in
      subst Few (sym answers.is) (omega (arith, same, less))

  gives_few : (cause : Cause) → GivesUp C cause heard → Few heard
  gives_few cause up =
      let same = same_ahead C up.noted up.same in
      let less = up_ahead up.noted up.noted.task cause in
      subst Few (sym up.is) (omega (arith, same, less))

  call_few : TakesCall old new C heard → entries_ahead new ≤ entries_ahead old
  call_few takes = without (both_same old new takes.same.manager) (subst Few (sym takes.heard_is) (taken_ahead C c.queue refl))

  module _ (task : Task) (work : c.task ≡ Some task) where
    lookup_few : task.step ≡ step.Lookup → LooksUp old new C task (lookup_of C task.tries c.kept) heard → entries_ahead new ≤ entries_ahead old
    lookup_few at looks =
        without (looked_same old new C task (lookup_of C task.tries c.kept) heard looks)
        (right_few W.tree (lookup_right s i c is known task work new heard clients_are at (lookup_of C task.tries c.kept) refl looks))

    fetch_few : (basis : Basis) (place : ℕ) (ptr : Ptr) (plan : Reading) → task.step ≡ step.Fetch basis place ptr plan
        → Fetches old new C basis (step.Fetch basis place ptr plan) (asked plan) heard → entries_ahead new ≤ entries_ahead old
    fetch_few basis place ptr plan at f = without (both_same old new f.manager) (right_few Seen (fetch_right s i c is known task work new heard clients_are basis place ptr plan at f))

    store_few : (basis : Basis) (formed : Formed) → task.step ≡ step.Store basis formed → Stores old new C basis formed heard → entries_ahead new ≤ entries_ahead old
    store_few basis formed at f =
        without (held_same old new (is_refused f.response) (other_holder c.client old.manager.holder) f.manager) (by (store_tells s i c is known task work new heard clients_are basis formed at f)) where
          by : ((is_refused f.response ≡ false) × TellsNothing C heard) ⊎ ((is_refused f.response ≡ true) × GivesUp C (NoSpace f.asked.0) heard) → Few heard
          by (inl done) = quiet_few done.1
          by (inr up) = gives_few (NoSpace f.asked.0) up.1

    commit_few : (basis : Basis) (sealed : Sealed) → task.step ≡ step.Commit basis sealed → Commits old new C sealed heard ⊎ IsBehindNow old new C sealed heard → entries_ahead new ≤ entries_ahead old
    commit_few basis sealed at (inl done) =
        let ended = calls_end s i c is known task work basis sealed at new heard done in
        let calls : calls_ahead heard.client ≡ length c.queue + length (drop (length done.replies) c.kept) = ap (λ (h : Heard). calls_ahead h.client) done.heard_is in
        let entry : new.manager.tables.next_entry ≡ risen old.manager.tables.next_entry = ap (λ (t : Tables). t.next_entry) done.committed.tables in
        let rises = rises_by_one old.manager.tables.next_entry in
        no_more old new i c heard.client is clients_are (omega (arith, ended, calls, entry, rises))
    commit_few basis sealed at (inr behind) =
        without (record { tables = behind.same.tables; sizes = behind.same.sizes }) (quiet_few (behind_tells s i c is known task work new heard clients_are sealed behind))

    step_few : (st : Step) → task.step ≡ st → DoesStep old new C task st heard → entries_ahead new ≤ entries_ahead old
    step_few step.Lookup at does = lookup_few at does
    step_few (step.Fetch basis place ptr plan) at does = fetch_few basis place ptr plan at does
    step_few (step.Store basis formed) at does = store_few basis formed at does
    step_few (step.Mark server generation) at does = absurd does
    step_few (step.Commit basis sealed) at does = commit_few basis sealed at does.turn

  task_few : (t : Option Task) → c.task ≡ t → Does old new C t heard → entries_ahead new ≤ entries_ahead old
  task_few None work does = call_few does
  task_few (Some task) work does = step_few task work task.step refl does

  pub does_few : Does old new C c.task heard → entries_ahead new ≤ entries_ahead old
  does_few does = task_few c.task refl does

pub steps_few : {given : Given} {lines : List Outcome} {old : SeenNodes} (new : SeenNodes) (i : ℕ) (told : Told) → AreSound given lines old → HasStepped old new i told → entries_ahead new ≤ entries_ahead old
steps_few new i told s h = does_few s new i h.client h.is h.known h.heard h.clients h.does

-- ---- what isn't a step

pub ready_ahead : (old new : SeenNodes) (i : ℕ) → IsReadied old new i → entries_ahead new ≡ entries_ahead old
ready_ahead old new i r =
    let now = now_is old new i r.client (record r.client { is_ready = r.ready }) r.is r.clients in
    let entry = ap (λ (t : Tables). t.next_entry) r.manager.tables in
    omega (arith, now, entry)

pub call_ahead : (given : Given) (n : SeenNodes) (i : ℕ) (c : SeenClient) (call : Call) → IsClient n i c → entries_ahead (with_client n i (queues given c call)) ≡ entries_ahead n + 1
call_ahead given n i c call is =
    let now = now_is n (with_client n i (queues given c call)) i c (queues given c call) is refl in
    let long = length-append c.queue (record { number = suc (length (calls_of given c.client)); call = call } ∷ []) in
    omega (arith, now, long)

pub finish_ahead : (n : SeenNodes) (i : ℕ) (c : SeenClient) → IsClient n i c → entries_ahead (with_client n i (record (unready c) { task = new_task Finish })) ≡ entries_ahead n
finish_ahead n i c is =
    let now = now_is n (with_client n i (record (unready c) { task = new_task Finish })) i c (record (unready c) { task = new_task Finish }) is refl in
    omega (arith, now)

-- ---- at first

attached_few : (k : ℕ) → (attached_to k).next_entry ≤ k + 1
attached_few zero = omega arith
attached_few (suc k) = let before = attached_few k in let rises = rises_by_one (attached_to k).next_entry in omega (arith, before, rises)

none_ahead : (cs : List SeenClient) → ((i : ℕ) (c : SeenClient) → slice_get cs i ≡ Some c → calls_ahead c ≡ 0) → sum_by calls_ahead cs ≡ 0
none_ahead [] each = refl
none_ahead (c ∷ cs) each =
    let first = each 0 c refl in
    let rest = none_ahead cs (λ i d e. each (suc i) d e) in
    omega (arith, first, rest, sum_by-cons calls_ahead c cs)

pub first_few : (n : SeenNodes) → AreFirst n → entries_ahead n ≤ n.manager.sizes.clients + 2
first_few n first =
    let none = none_ahead n.clients (λ i c is. ap calls_ahead (first.clients i c is)) in
    let entry : n.manager.tables.next_entry ≡ (all_attached n.manager.sizes.clients).next_entry = ap (λ (t : Tables). t.next_entry) first.tables in
    let few = attached_few n.manager.sizes.clients in
    let rises = rises_by_one (attached_to n.manager.sizes.clients).next_entry in
    omega (arith, none, entry, few, rises)
