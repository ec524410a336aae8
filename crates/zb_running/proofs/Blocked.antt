-- A program at a call: its client's steps, and those that it waits for.
use Rattle.std.proofs.Common.{◌≡◌, ◌≢◌, ℕ, ◌+◌, ◌-◌, ◌≤◌, true, false, Bool, List, [], ◌∷◌, ◌++◌, length, Option, Some, None, refl, sym, ap, ◌∙◌, subst, arith, inl, inr}
use Rattle.std.specs.Prelude.{◌⊎◌, ◌==◌, if◌then◌else◌, slice_get}
use Rattle.std.proofs.lemmas.Bool.{eq-eqb}
use Rattle.std.proofs.lemmas.Option.{same_Some}
use Rattle.zb_types.specs.declared.calls.Call.{Call}
use Rattle.zb_types.specs.declared.geometry.Geometry.{Geometry}
use Rattle.zb_types.specs.declared.ids.ServerId.{ServerId}
use Rattle.zb_types.specs.declared.lines.Line.{Line}
use Rattle.zb_types.specs.declared.lines.Line.TheVariants.{Call as CallLine}
use Rattle.zb_types.specs.declared.lines.Outcome.{Outcome}
use Rattle.zb_types.specs.declared.requests.Request.{Request}
use Rattle.zb_given.specs.Calls.{IsAtWork, LookedUp}
use Rattle.zb_given.specs.Given.{Given, with_item}
use Rattle.zb_given.specs.Loops.{IsAt, IsPast}
use Rattle.zb_given.specs.Telling.{LooksNow, StepTells}
use Rattle.zb_given.proofs.Looping.{goes_to, looks_first, other_clients, steps_other, steps_own, steps_past}
use Rattle.zb_turns.specs.Turns.{other_holder}
use Rattle.zb_basis.specs.declared.calls.Numbered.{Numbered}
use Rattle.zb_work.specs.declared.work.Step.{Step}
use Rattle.zb_work.specs.declared.work.Step.TheVariants as step
use Rattle.zb_work.specs.declared.work.Task.{Task}
use Rattle.zb_work.specs.Steps.{first_members, step_of}
use Rattle.zb_client.specs.declared.steps.Wish.{Wish}
use Rattle.zb_client.specs.Seen.{SeenClient}
use Rattle.zb_client.specs.Wishing.{request_wish, step_wish, task_wish, wish_of}
use Rattle.zb_stripe.specs.Reading.{asked}
use Rattle.zb_system.specs.Looking.{FirstIsLookedUp, HasLookedUp, is_fetch, is_reading}
use Rattle.zb_system.specs.Nodes.{IsClient, SeenNodes}
use Rattle.zb_system.specs.Sound.{AreSound}
use Rattle.zb_system.proofs.FirstReads.{not_fetch, not_looked}
use Rattle.zb_nodes.specs.Seen.{blocker_at, blocker_of}
use Rattle.zb_nodes.specs.Wished.{blocker_in, waits}
use Rattle.zb_finishing.proofs.Asked.{there}
use Rattle.zb_course.specs.Seen.{SeenCourse}
use Rattle.zb_course.proofs.Stepping.{numbered}
use Rattle.zb_running.specs.Lines.{IsAtCall}
use Rattle.zb_running.specs.Reports.{HasReport, reads_of}
use Rattle.zb_running.specs.Telling.{GivesMore, HasTold, SomeHasTold}

-- ---- a client that is blocked

-- one that asks a server doesn't wait
asks_on : (generation : ℕ) (wanted : Option (ServerId × Request)) → waits (request_wish generation wanted) ≡ true → ⊥
asks_on generation None e = cc e
asks_on generation (Some (server, request)) e = cc e

step_waits : (c : SeenClient) (tries : ℕ) (st : Step) → waits (step_wish c tries st) ≡ true → is_fetch st ≡ false
step_waits c tries step.Lookup e = refl
step_waits c tries (step.Fetch basis at ptr plan) e = absurd (asks_on (first_members basis.found).generation (asked plan) e)
step_waits c tries (step.Store basis formed) e = refl
step_waits c tries (step.Mark server generation) e = refl
step_waits c tries (step.Commit basis sealed) e = refl

task_waits : (c : SeenClient) (t : Option Task) (queue : List Numbered) → waits (task_wish c t queue) ≡ true → is_fetch (step_of t) ≡ false
task_waits c None queue e = refl
task_waits c (Some task) queue e = step_waits c task.tries task.step e

-- one that waits reads no block
unread : (c : SeenClient) → waits (wish_of c) ≡ true → is_reading c ≡ false
unread c e = not_fetch c.kept (step_of c.task) (task_waits c c.task c.queue e)

-- another client holds
not_self : (client : ℕ) (holder : Option ℕ) (who : ℕ) → other_holder client holder ≡ Some who → who ≢ client
not_self client None who e same = absurd (cc e)
not_self client (Some h) who e same = by (h == client) refl e where
  by : (b : Bool) → (h == client) ≡ b → (if b then None else Some h) ≡ Some who → ⊥
  by true is f = absurd (cc f)
  by false is f = of (sym is ∙ eq-eqb h client (same_Some h who f ∙ same)) where
    of : false ≡ true → ⊥
    of x = cc x

-- the client's wish waits, for another
record Waits (client : ℕ) (wish : Wish) (who : ℕ) : Type 0 where
  waiting : waits wish ≡ true
  other : who ≢ client

waits_for : (holder : Option ℕ) (client : ℕ) (wish : Wish) (who : ℕ) → blocker_in holder client wish ≡ Some who → Waits client wish who
waits_for holder client wish who e = by (waits wish) refl e where
  by : (b : Bool) → waits wish ≡ b → (if b then other_holder client holder else None) ≡ Some who → Waits client wish who
  by true is f = record { waiting = is; other = not_self client holder who f }
  by false is f = absurd (cc f)

-- it has no read that was looked up
module _ {given : Given} {lines : List Outcome} {n : SeenNodes} (s : AreSound given lines n) (i who : ℕ) where
  pub record IsBlocked : Type 0 where
    other : who ≢ i + 1
    none : s.reads i ≡ None

  blocked_by : (o : Option SeenClient) → slice_get n.clients i ≡ o → blocker_of n.manager.holder o ≡ Some who → IsBlocked
  blocked_by None is e = absurd (cc e)
  blocked_by (Some c) is e =
      let w = waits_for n.manager.holder c.client (wish_of c) who e in
      record {
        other = subst (λ (k : ℕ). who ≢ k) (s.clients i c is).1 w.other;
        none = not_looked given lines c (s.reads i) (s.calls.looked i c is) (unread c w.waiting);
      }

  pub blocked : blocker_at n i ≡ Some who → IsBlocked
  blocked e = blocked_by (slice_get n.clients i) refl e

-- ---- a call is given

first_at_work : (given : Given) (lines : List Outcome) (client : ℕ) (read : LookedUp) (queue : List Numbered) → FirstIsLookedUp given lines client read queue → IsAtWork given lines client (Some read)
first_at_work given lines client read [] f = absurd f
first_at_work given lines client read (first ∷ others) f = (first.call, f.1)

at_work : (given : Given) (lines : List Outcome) (c : SeenClient) (read : Option LookedUp) → HasLookedUp given lines c read → IsAtWork given lines c.client read
at_work given lines c None has = tt
at_work given lines c (Some read) has = first_at_work given lines c.client read c.queue has.1

module _ {geo : Geometry} {given : Given} {lines : List Outcome} {old : SeenCourse} (r : HasReport geo given lines old) (new : SeenCourse) (script : List Line) (plus : Bool) (client : ℕ) (call : Call) (low : 1 ≤ client) where
  abbrev Place : ℕ
  Place = client - 1

  works_at : client ≤ length old.nodes.clients → IsAtWork given lines client (reads_of r Place)
  works_at high =
      let at : (c : SeenClient) × IsClient old.nodes Place c = there old.nodes.clients Place (omega (arith, low, high)) in
      subst (λ (n : ℕ). IsAtWork given lines n (reads_of r Place)) ((r.settled.sound.clients Place at.0 at.1).1 ∙ sym (numbered client low))
      (at_work given lines at.0 (reads_of r Place) (r.settled.sound.calls.looked Place at.0 at.1))

  pub given_at : client ≤ length old.nodes.clients → given.finishes ≡ [] → IsPast script given lines → (g : GivesMore r (with_item given (CallLine true client call) (length lines)) new) → IsAtCall script plus client call g.report
  given_at high none past g = record {
    at = goes_to script given lines (CallLine plus client call) refl none r.settled.sound.told.fit past;
    looks =
        subst (LooksNow (with_item given (CallLine true client call) (length lines)) lines client) (sym (g.reads Place))
        (looks_first given lines client (length lines) call (reads_of r Place) (works_at high));
  }

  -- ---- its client makes a step

  module _ (at : IsAtCall script plus client call r) where
    own_at : (t : HasTold r new client) → IsAtCall script plus client call t.report
    own_at t = record { at = both.0; looks = both.1 } where
      place_is : t.place ≡ Place
      place_is = let e = t.client_is in omega (arith, e)

      tells : StepTells given lines client (reads_of r Place) (reads_of t.report Place) t.more
      tells = subst (λ (k : ℕ). StepTells given lines client (reads_of r k) (reads_of t.report k) t.more) place_is t.tells

      both : IsAt script (CallLine plus client call) given (lines ++ t.more) × LooksNow given (lines ++ t.more) client (reads_of t.report Place)
      both = steps_own script (CallLine plus client call) given lines client (reads_of r Place) (reads_of t.report Place) t.more t.report.settled.sound.told.fit tells at.looks at.at

    -- or it is blocked, and another does
    other_at : (who : ℕ) (t : HasTold r new who) → blocker_at old.nodes Place ≡ Some who → IsAtCall script plus client call t.report
    other_at who t e = record {
      at =
          steps_other script (CallLine plus client call) given lines t.more t.report.settled.sound.told.fit
          (other_clients plus client who call t.more other t.tells.own) at.at;
      looks = subst (LooksNow given (lines ++ t.more) client) (sym (t.others Place apart ∙ b.none)) tt;
    } where
      b : IsBlocked r.settled.sound Place who
      b = blocked r.settled.sound Place who e

      other : who ≢ client
      other = subst (λ (k : ℕ). who ≢ k) (sym (numbered client low)) b.other

      apart : Place ≢ t.place
      apart same = b.other (t.client_is ∙ ap (λ (k : ℕ). k + 1) (sym same))

    pub step_at : (s : SomeHasTold r new client) → IsAtCall script plus client call s.told.report
    step_at s = by s.who s.told s.why where
      by : (who : ℕ) (t : HasTold r new who) → (who ≡ client) ⊎ (blocker_at old.nodes Place ≡ Some who) → IsAtCall script plus client call t.report
      by who t (inl e) = own who e t where
        own : (who : ℕ) → who ≡ client → (t : HasTold r new who) → IsAtCall script plus client call t.report
        own who e = subst (λ (k : ℕ). (t : HasTold r new k) → IsAtCall script plus client call t.report) (sym e) own_at
      by who t (inr e) = other_at who t e

-- between two lines
pub past_still : {geo : Geometry} {given : Given} {lines : List Outcome} {old : SeenCourse} (r : HasReport geo given lines old) (new : SeenCourse) (script : List Line) (who : ℕ) → IsPast script given lines → (t : HasTold r new who) → IsPast script given (lines ++ t.more)
past_still {geo} {given} {lines} r new script who past t = steps_past script given lines t.more t.report.settled.sound.told.fit past
