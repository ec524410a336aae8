-- What becomes of a client that finishes.
use Rattle.std.proofs.Common.{◌≡◌, ℕ, suc, true, false, Bool, List, [], ◌∷◌, length, drop, take, Option, Some, None, refl, sym, ap, ◌∙◌, subst, arith, inl, inr}
use Rattle.std.specs.Prelude.{◌⊎◌, nat_lt, slice_set}
use Rattle.std.proofs.lemmas.Bool.{lt-ltb}
use Rattle.std.proofs.lemmas.Option.{none-some, same_Some}
use Rattle.zb_types.specs.Tree.{Tree}
use Rattle.zb_types.specs.declared.calls.Reply.{Reply}
use Rattle.zb_types.specs.declared.ids.Ptr.{Ptr}
use Rattle.zb_types.specs.declared.lines.Outcome.{Outcome}
use Rattle.zb_types.specs.declared.lines.Said.{Said}
use Rattle.zb_types.specs.declared.lines.Said.TheVariants as said
use Rattle.zb_types.specs.declared.nodes.Cause.{Cause}
use Rattle.zb_types.specs.declared.nodes.Cause.TheVariants.{NoSpace}
use Rattle.zb_stripe.specs.Reading.{Reading, asked}
use Rattle.zb_given.specs.Given.{Given}
use Rattle.zb_servers.specs.Serving.{is_refused}
use Rattle.zb_basis.specs.declared.basis.Basis.{Basis}
use Rattle.zb_basis.specs.declared.basis.Formed.{Formed}
use Rattle.zb_basis.specs.declared.basis.Sealed.{Sealed}
use Rattle.zb_basis.specs.declared.calls.Numbered.{Numbered}
use Rattle.zb_work.specs.declared.work.Aim.{Aim}
use Rattle.zb_work.specs.declared.work.Aim.TheVariants.{Update, Read, Finish}
use Rattle.zb_work.specs.declared.work.Step.{Step}
use Rattle.zb_work.specs.declared.work.Step.TheVariants as step
use Rattle.zb_work.specs.declared.work.Task.{Task}
use Rattle.zb_work.specs.Steps.{aim_of, next_task}
use Rattle.zb_client.specs.Hearing.{commits}
use Rattle.zb_client.specs.Seen.{SeenClient}
use Rattle.zb_client.specs.Telling.{Heard, answers_first, gives_up, gives_up_aim, gives_up_for}
use Rattle.zb_client.specs.Wishing.{lookup_of}
use Rattle.zb_client_laws.specs.Effects.{GivesUp, IsReplyIn, SameCalls, TellsNothing, TellsRight}
use Rattle.zb_client_laws.specs.Known.{IsKnown}
use Rattle.zb_system.specs.Nodes.{IsClient, SeenNodes, readied}
use Rattle.zb_system.specs.Looking.{tree_for}
use Rattle.zb_system.specs.Sound.{AreSound}
use Rattle.zb_system.specs.Steps.{Commits, Does, DoesStep, Fetches, IsBehindNow, LooksUp, Stores, TakesCall}
use Rattle.zb_system.proofs.EachStep.{kind_stays}
use Rattle.zb_system.proofs.Quiet.{World}
use Rattle.zb_system.proofs.Storing.{up_left}
use Rattle.zb_ending.proofs.Tells.{behind_tells, fetch_right, lookup_right, store_tells}
use Rattle.zb_finishing.specs.Clients.{Finishes}
use Rattle.zb_finishing.proofs.Places.{set_is}

-- ---- a client whose calls are the same

still_finishes : (c d : SeenClient) → SameCalls c d → Finishes c → Finishes d
still_finishes c d same f = record { none_queued = same.queue ∙ f.none_queued; ends = by f.ends } where
  by : (aim_of c.task ≡ Some Finish) ⊎ (c.kept ≡ []) → (aim_of d.task ≡ Some Finish) ⊎ (d.kept ≡ [])
  by (inl aim) = inl (same.aim ∙ aim)
  by (inr none) = inr (same.kept ∙ none)

-- ---- work that is given up

answered_finishes : (c : SeenClient) (what : Said) (queue : List Numbered) → c.queue ≡ queue → c.queue ≡ [] → c.kept ≡ [] → Finishes (answers_first c queue what).client
answered_finishes c what [] e none kept = record { none_queued = none; ends = inr kept }
answered_finishes c what (read ∷ rest) e none kept = absurd (off (sym e ∙ none)) where
  off : (read ∷ rest) ≡ [] → ⊥
  off x = cc x

aim_finishes : (c : SeenClient) (cause : Cause) → c.doubted ≡ 0 → c.queue ≡ [] → (aim : Aim) → (aim ≡ Finish) ⊎ (c.kept ≡ []) → Finishes (gives_up_aim c aim cause).client
aim_finishes c cause settled none (Update number) (inl aim) = absurd (cc aim)
aim_finishes c cause settled none (Update number) (inr kept) = record { none_queued = none; ends = inr kept }
aim_finishes c cause settled none Read (inl aim) = absurd (cc aim)
aim_finishes c cause settled none Read (inr kept) = answered_finishes c (said.Failed cause) c.queue refl none kept
aim_finishes c cause settled none Finish ends = record { none_queued = none; ends = inr (ap (λ (n : ℕ). take n c.kept) settled) }

up_finishes : (c : SeenClient) (cause : Cause) → c.doubted ≡ 0 → Finishes c → Finishes (gives_up c cause).client
up_finishes c cause settled f = by c.task refl where
  aimed : (task : Task) → c.task ≡ Some task → (aim_of c.task ≡ Some Finish) ⊎ (c.kept ≡ []) → (task.aim ≡ Finish) ⊎ (c.kept ≡ [])
  aimed task e (inl aim) = inl (same_Some task.aim Finish (sym (ap aim_of e) ∙ aim))
  aimed task e (inr kept) = inr kept

  by : (t : Option Task) → c.task ≡ t → Finishes (gives_up_for c t cause).client
  by None e = record { none_queued = f.none_queued; ends = f.ends }
  by (Some task) e = aim_finishes c cause settled f.none_queued task.aim (aimed task e f.ends)

-- ---- a batch that is committed

ends_or_goes_on : (aim : Option Aim) (rest : List Numbered) → aim ≡ Some Finish → (aim_of (next_task aim (nat_lt 0 (length rest))) ≡ Some Finish) ⊎ (rest ≡ [])
ends_or_goes_on aim [] e = inr refl
ends_or_goes_on aim (call ∷ rest) e =
    inl (ap (λ (a : Option Aim). aim_of (next_task a (nat_lt 0 (length (call ∷ rest))))) e ∙ on (nat_lt 0 (length (call ∷ rest))) (lt-ltb 0 (suc (length rest)) (omega arith))) where
      on : (more : Bool) → more ≡ true → aim_of (next_task (Some Finish) more) ≡ Some Finish
      on true e = refl
      on false e = absurd (cc e)

none_left : (n : ℕ) (kept : List Numbered) → kept ≡ [] → drop n kept ≡ []
none_left n kept e = ap (drop n) e ∙ grind arith

committed_finishes : (c : SeenClient) (replies : List Reply) → Finishes c → Finishes (commits c replies).client
committed_finishes c replies f = record { none_queued = f.none_queued; ends = by f.ends } where
  rest : List Numbered
  rest = drop (length replies) c.kept

  by : (aim_of c.task ≡ Some Finish) ⊎ (c.kept ≡ []) → (aim_of (next_task (aim_of c.task) (nat_lt 0 (length rest))) ≡ Some Finish) ⊎ (rest ≡ [])
  by (inl aim) = ends_or_goes_on (aim_of c.task) rest aim
  by (inr none) = inr (none_left (length replies) c.kept none)

-- ---- a step

module _ {given : Given} {lines : List Outcome} {old : SeenNodes} (s : AreSound given lines old) (new : SeenNodes) (i : ℕ) (c : SeenClient) (is : IsClient old i c) (known : IsKnown c) (heard : Heard)
    (clients_are : new.clients ≡ slice_set old.clients i heard.client) (all : Does old new (readied c) c.task heard) (was : Finishes c) where
  abbrev C : SeenClient
  C = readied c

  f : Finishes C
  f = record { none_queued = was.none_queued; ends = was.ends }

  -- no batch of it is in doubt behind the step either
  settled : heard.client.doubted ≡ 0
  settled = ((kind_stays s new i c is known heard clients_are all).sound.clients i heard.client (set_is old new i c heard.client is clients_are)).0.settled

  quiet_finishes : TellsNothing C heard → Finishes heard.client
  quiet_finishes quiet = still_finishes C heard.client quiet.same f

  -- no read is queued that could be answered
  right_finishes : (seen : Tree) → TellsRight seen C heard → Finishes heard.client
  right_finishes seen (inl quiet) = quiet_finishes quiet
  right_finishes seen (inr (d, answers)) = absurd (subst (λ (q : List Numbered). IsReplyIn seen q answers.reply) was.none_queued answers.right)

  gives_finishes : (cause : Cause) → GivesUp C cause heard → Finishes heard.client
  gives_finishes cause up =
      let doubt : up.noted.doubted ≡ 0 = sym (up_left up.noted cause).doubted ∙ sym (ap (λ (h : Heard). h.client.doubted) up.is) ∙ settled in
      subst (λ (h : Heard). Finishes h.client) (sym up.is) (up_finishes up.noted cause doubt (still_finishes C up.noted up.same f))

  call_finishes : TakesCall old new C heard → Finishes heard.client
  call_finishes takes =
      let some = takes.queued in
      let none : length c.queue ≡ 0 = ap (λ (q : List Numbered). length q) was.none_queued in
      absurd (omega (arith, some, none))

  module _ (task : Task) (work : c.task ≡ Some task) where
    lookup_finishes : task.step ≡ step.Lookup → LooksUp old new C task (lookup_of C task.tries c.kept) heard → Finishes heard.client
    lookup_finishes at looks =
        right_finishes (World s i c is).tree (lookup_right s i c is known task work new heard clients_are at (lookup_of C task.tries c.kept) refl looks)

    fetch_finishes : (basis : Basis) (place : ℕ) (ptr : Ptr) (plan : Reading) → task.step ≡ step.Fetch basis place ptr plan
        → Fetches old new C basis (step.Fetch basis place ptr plan) (asked plan) heard → Finishes heard.client
    fetch_finishes basis place ptr plan at fetches =
        right_finishes (tree_for given lines (s.reads i)) (fetch_right s i c is known task work new heard clients_are basis place ptr plan at fetches)

    store_finishes : (basis : Basis) (formed : Formed) → task.step ≡ step.Store basis formed → (stores : Stores old new C basis formed heard) → Finishes heard.client
    store_finishes basis formed at stores = by (store_tells s i c is known task work new heard clients_are basis formed at stores) where
      by : ((is_refused stores.response ≡ false) × TellsNothing C heard) ⊎ ((is_refused stores.response ≡ true) × GivesUp C (NoSpace stores.asked.0) heard) → Finishes heard.client
      by (inl done) = quiet_finishes done.1
      by (inr up) = gives_finishes (NoSpace stores.asked.0) up.1

    commit_finishes : (basis : Basis) (sealed : Sealed) → task.step ≡ step.Commit basis sealed → Commits old new C sealed heard ⊎ IsBehindNow old new C sealed heard → Finishes heard.client
    commit_finishes basis sealed at (inl done) = subst (λ (h : Heard). Finishes h.client) (sym done.heard_is) (committed_finishes C done.replies f)
    commit_finishes basis sealed at (inr behind) = quiet_finishes (behind_tells s i c is known task work new heard clients_are sealed behind)

    step_finishes : (st : Step) → task.step ≡ st → DoesStep old new C task st heard → Finishes heard.client
    step_finishes step.Lookup at does = lookup_finishes at does
    step_finishes (step.Fetch basis place ptr plan) at does = fetch_finishes basis place ptr plan at does
    step_finishes (step.Store basis formed) at does = store_finishes basis formed at does
    step_finishes (step.Mark server generation) at does = absurd does
    step_finishes (step.Commit basis sealed) at does = commit_finishes basis sealed at does.turn

  task_finishes : (t : Option Task) → c.task ≡ t → Does old new C t heard → Finishes heard.client
  task_finishes None work does = call_finishes does
  task_finishes (Some task) work does = step_finishes task work task.step refl does

  pub does_finishes : Finishes heard.client
  does_finishes = task_finishes c.task refl all

-- ---- a client that is idle

pub idle_keeps_none : (c : SeenClient) → c.task ≡ None → Finishes c → c.kept ≡ []
idle_keeps_none c none f = by f.ends where
  by : (aim_of c.task ≡ Some Finish) ⊎ (c.kept ≡ []) → c.kept ≡ []
  by (inl aim) = absurd (none-some Finish (sym (ap aim_of none) ∙ aim))
  by (inr kept) = kept
