-- Where nothing befell, no line tells a fault.
use Rattle.std.proofs.Common.{◌≡◌, ℕ, Bool, true, false, not, ◌&&◌, ◌||◌, List, [], ◌∷◌, ◌++◌, suc, Option, Some, None, refl, sym, ap, ◌∙◌, inl, inr}
use Rattle.std.specs.Prelude.{◌⊎◌}
use Rattle.std.specs.List.{list_any}
use Rattle.zb_types.specs.declared.nodes.Cause.{Cause}
use Rattle.zb_types.specs.declared.nodes.Cause.TheVariants.{Unreachable, Down, NoSpace}
use Rattle.zb_types.specs.declared.nodes.Node.{Node}
use Rattle.zb_types.specs.declared.nodes.Node.TheVariants.{Server, Client, Manager, Cleaner, Mender}
use Rattle.zb_types.specs.declared.nodes.EventAnswer.{EventAnswer}
use Rattle.zb_types.specs.declared.nodes.EventAnswer.TheVariants.{Done as EventDone, Down as IsDown, ManagerDown, Up as IsUp, Blank, Out, Another, Unreachable as CantReach, Stopped}
use Rattle.zb_types.specs.declared.lines.Line.{Line}
use Rattle.zb_types.specs.declared.ids.ServerId.{ServerId}
use Rattle.zb_types.specs.declared.lines.Said.{Said}
use Rattle.zb_types.specs.declared.lines.Pass.{Pass}
use Rattle.zb_types.specs.declared.lines.Mended.{Mended}
use Rattle.zb_types.specs.declared.lines.Told.{Told}
use Rattle.zb_types.specs.declared.lines.Said.TheVariants.{Reply as Replied, Buffered, Kept, Failed, Dropped, Unfinished}
use Rattle.zb_types.specs.declared.lines.Pass.TheVariants.{Nothing, Done as PassDone, Failed as PassFailed, Dropped as PassDropped}
use Rattle.zb_types.specs.declared.lines.Mended.TheVariants.{Copied, Another as RefusedFor, Failed as MendFailed, Server as FailedServer, Dropped as MendDropped}
use Rattle.zb_types.specs.declared.lines.Told.TheVariants.{Arm}
use Rattle.zb_types.specs.declared.lines.Outcome.{Outcome}
use Rattle.zb_types.specs.declared.lines.Outcome.TheVariants.{Call as OfCall, Clean as OfClean, Rebuild as OfRebuild, Event as OfEvent}
use Rattle.zb_claims.specs.Points.{Subject, calls, cleans, crashes, ups, rebuilds, asked, told_of, is_event, stands_from, stands}
use Rattle.zb_headline.specs.Reasons.{Place, Rose, WasArmed, is_copied, puts_up, is_lost, takes_down, breaks, platter_of, crashed_from, dropped_in, ServerReason, ManagerReason, NodeReason, CauseReason, is_blank, MendedFails, HasReason}
use Rattle.zb_headline.specs.Calm.{calm, place, befalls, is_faultless, CalmIsFaultless}
use Rattle.zb_laws.proofs.Tests.{first_false, last_false, any_middle, any_later}

-- Tests that only an event's line passes.

record IsOfEvents (p : Outcome → Bool) : Type 0 where
  none : (line : Outcome) → befalls line ≡ false → p line ≡ false

none_of : (p : Outcome → Bool) (lines : List Outcome) → IsOfEvents p → list_any befalls lines ≡ false → list_any p lines ≡ false
none_of p [] of h = refl
none_of p (line ∷ lines) of h = rw (of.none line (first_false (befalls line) (list_any befalls lines) h), none_of p lines of (last_false (befalls line) (list_any befalls lines) h)) refl

still_false : (a b : Bool) → b ≡ false → (not a && (false || b)) ≡ false
still_false true b h = refl
still_false false b h = h

never_stands : (causes marks : Outcome → Bool) (lines : List Outcome) → IsOfEvents causes → list_any befalls lines ≡ false → stands causes marks lines ≡ false
never_stands causes marks [] of h = refl
never_stands causes marks (line ∷ lines) of h =
    ap (λ (b : Bool). stands_from b causes marks lines) (still_false (marks line) (causes line) (of.none line (first_false (befalls line) (list_any befalls lines) h)))
    ∙ never_stands causes marks lines of (last_false (befalls line) (list_any befalls lines) h)

not_event : (subject : Subject) (line : Outcome) → befalls line ≡ false → is_event subject line ≡ false
not_event subject (OfCall client n said) h = refl
not_event subject (OfClean pass) h = refl
not_event subject (OfRebuild server end) h = absurd cc
not_event subject (OfEvent event answer) h = absurd cc

event_of : (subject : Subject) → IsOfEvents (is_event subject)
event_of subject = record { none = not_event subject }

not_lost : (i : ℕ) (line : Outcome) → befalls line ≡ false → is_lost i line ≡ false
not_lost i (OfCall client n said) h = refl
not_lost i (OfClean pass) h = refl
not_lost i (OfRebuild server end) h = absurd cc
not_lost i (OfEvent event answer) h = absurd cc

not_down : (i : ℕ) (line : Outcome) → befalls line ≡ false → takes_down i line ≡ false
not_down i (OfCall client n said) h = refl
not_down i (OfClean pass) h = refl
not_down i (OfRebuild server end) h = absurd cc
not_down i (OfEvent event answer) h = absurd cc

not_broken : (i : ℕ) (line : Outcome) → befalls line ≡ false → breaks i line ≡ false
not_broken i (OfCall client n said) h = refl
not_broken i (OfClean pass) h = refl
not_broken i (OfRebuild server end) h = absurd cc
not_broken i (OfEvent event answer) h = absurd cc

not_crashed : (a b : Bool) → a ≡ false → (a || (false && b)) ≡ false
not_crashed true b h = absurd cc
not_crashed false b h = refl

never_crashed : (at : Place) (node : Node) (place : ℕ) (seen lines : List Outcome) → list_any befalls lines ≡ false → crashed_from false at node place seen lines ≡ false
never_crashed at node place seen [] h = refl
never_crashed at node place seen (line ∷ lines) h =
    ap (λ (b : Bool). crashed_from b at node place (seen ++ line ∷ []) lines) (not_crashed (is_event (crashes node) line) (not (is_event (ups node) line) || at.clock.begun seen place) (not_event (crashes node) line (first_false (befalls line) (list_any befalls lines) h)))
    ∙ never_crashed at node place (seen ++ line ∷ []) lines (last_false (befalls line) (list_any befalls lines) h)

-- Where only calls and passes have lines.

module _ (script : List Line) (before : List Outcome) (writes : ℕ → ℕ → ℕ) (quiet : list_any befalls before ≡ false) where
  abbrev here : Place
  here = place (calm writes) script before

  no_stand : {X : Type 0} (causes marks : Outcome → Bool) → IsOfEvents causes → stands causes marks before ≡ true → X
  no_stand causes marks of h = let e : true ≡ false = sym h ∙ never_stands causes marks before of quiet in absurd cc

  no_rise : {X : Type 0} (marks : Outcome → Bool) (platter : ℕ) → Rose here marks platter → X
  no_rise marks platter r = absurd r.holds

  no_arm : {X : Type 0} (node : Node) (platter : ℕ) → WasArmed here node platter → X
  no_arm node platter r =
      let e : true ≡ false = sym (any_middle befalls r.front (OfEvent (Arm node) EventDone) r.rest refl) ∙ sym (ap (list_any befalls) r.split) ∙ quiet in absurd cc

  no_server : {X : Type 0} (i : ℕ) → ServerReason here i → X
  no_server i (inl h) = no_stand (takes_down i) (puts_up i) (record { none = not_down i }) h
  no_server i (inr (inl h)) = no_rise (puts_up i) i h
  no_server i (inr (inr (inl h))) = no_arm (Server i) i h
  no_server i (inr (inr (inr (inl h)))) = absurd (h.unfit refl)
  no_server i (inr (inr (inr (inr h)))) = absurd (h.unfit refl)

  no_manager : {X : Type 0} → ManagerReason here → X
  no_manager (inl h) = no_stand (is_event (crashes Manager)) (is_event (ups Manager)) (event_of (crashes Manager)) h
  no_manager (inr (inl h)) = no_arm Manager 0 h
  no_manager (inr (inr h)) = no_rise (is_event (ups Manager)) 0 h

  no_node : {X : Type 0} (node : Node) → NodeReason here node → X
  no_node (Server i) h = no_server i h
  no_node (Client i) h = no_stand (is_event (crashes (Client i))) (is_event (ups (Client i))) (event_of (crashes (Client i))) h
  no_node Manager h = no_manager h
  no_node Cleaner h = no_stand (is_event (crashes Cleaner)) (is_event (ups Cleaner)) (event_of (crashes Cleaner)) h
  no_node Mender h = no_stand (is_event (crashes Mender)) (is_event (ups Mender)) (event_of (crashes Mender)) h

  no_cause : {X : Type 0} (most : ℕ) (cause : Cause) → CauseReason here most cause → X
  no_cause most (Unreachable a b) h = no_server a.0 h.0
  no_cause most Down h = no_manager h
  no_cause most (NoSpace server) h = absurd h

  no_blank : {X : Type 0} (i : ℕ) → is_blank here i → X
  no_blank i h = no_stand (is_lost i) (is_copied i) (record { none = not_lost i }) h

  no_drop : {X : Type 0} (node : Node) (found : Option (ℕ × Line)) → dropped_in here node found ≡ true → X
  no_drop node None h = absurd cc
  no_drop node (Some found) h = let e : true ≡ false = sym h ∙ never_crashed here node found.0 [] before quiet in absurd cc

  no_break : {X : Type 0} (i : ℕ) (front rest : List Outcome) → before ≡ front ++ rest → list_any (breaks i) rest ≡ true → X
  no_break i front rest split h =
      let e : true ≡ false = sym (any_later (breaks i) front rest h) ∙ sym (ap (list_any (breaks i)) split) ∙ none_of (breaks i) before (record { none = not_broken i }) quiet in absurd cc

  faultless_said : (client n : ℕ) (said : Said) → HasReason here (OfCall client n said) → is_faultless (OfCall client n said) ≡ true
  faultless_said client n (Replied reply) h = refl
  faultless_said client n Buffered h = refl
  faultless_said client n (Kept cause) h = no_cause 4 cause h
  faultless_said client n (Failed cause) h = no_cause 4 cause h
  faultless_said client n Dropped h = no_drop (Client client) (asked script (calls client) n) h
  faultless_said client n (Unfinished cause) h = no_cause 4 cause h

  faultless_pass : (pass : Pass) → HasReason here (OfClean pass) → is_faultless (OfClean pass) ≡ true
  faultless_pass Nothing h = refl
  faultless_pass (PassDone log stripe copied rejected end) h = refl
  faultless_pass (PassFailed cause) h = no_cause 0 cause h
  faultless_pass PassDropped h = no_drop Cleaner (asked script cleans (suc (told_of cleans before))) h

  faultless_server : {X : Type 0} (i : ℕ) → MendedFails here i → X
  faultless_server {X = X} i (inl h) = elim h.holds as (λ _. X) [ inl b ↦ no_break i h.front h.rest h.split b | inr r ↦ absurd r ]
  faultless_server i (inr h) = absurd h

  faultless_rebuild : (server : ServerId) (end : Mended) → HasReason here (OfRebuild server end) → is_faultless (OfRebuild server end) ≡ true
  faultless_rebuild server (Copied count) h = refl
  faultless_rebuild server (RefusedFor other) h = no_server other.0 h
  faultless_rebuild server (MendFailed cause) h = no_cause 0 cause h
  faultless_rebuild server FailedServer h = faultless_server server.0 (h refl)
  faultless_rebuild server MendDropped h = no_drop Mender (asked script (rebuilds server.0) (suc (told_of (rebuilds server.0) before))) h

  named_out : {X : Type 0} (i : ℕ) → ⊥ ⊎ (is_blank here i ⊎ ManagerReason here) → X
  named_out i (inl h) = absurd h
  named_out i (inr (inl h)) = no_blank i h
  named_out i (inr (inr h)) = no_manager h

  named_another : {X : Type 0} (i : ℕ) → ⊥ ⊎ is_blank here i → X
  named_another i (inl h) = absurd h
  named_another i (inr h) = no_blank i h

  stopped : {X : Type 0} (node : Node) (event : Told) → HasReason here (OfEvent event (Stopped node)) → X
  stopped node event (inl h) = absurd h
  stopped node event (inr h) = no_arm node (platter_of node) h.1

  faultless_event : (event : Told) (answer : EventAnswer) → HasReason here (OfEvent event answer) → is_faultless (OfEvent event answer) ≡ true
  faultless_event event EventDone h = refl
  faultless_event event (IsDown node) h = no_node node h
  faultless_event event ManagerDown h = no_manager h
  faultless_event event (IsUp node) h = refl
  faultless_event event (Blank server) h = no_blank server.0 h
  faultless_event event (Out server) h = named_out server.0 h
  faultless_event event (Another server) h = named_another server.0 h
  faultless_event event (CantReach a b) h = no_server a.0 h.0
  faultless_event event (Stopped node) h = stopped node event h

pub calm_is_faultless : CalmIsFaultless
calm_is_faultless script before (OfCall client n said) writes quiet h = faultless_said script before writes quiet client n said h
calm_is_faultless script before (OfClean pass) writes quiet h = faultless_pass script before writes quiet pass h
calm_is_faultless script before (OfRebuild server end) writes quiet h = faultless_rebuild script before writes quiet server end h
calm_is_faultless script before (OfEvent event answer) writes quiet h = faultless_event script before writes quiet event answer h
