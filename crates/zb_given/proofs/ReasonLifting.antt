-- Reasons carry over.
use Rattle.std.proofs.Common.{◌≡◌, ℕ, suc, ◌≤◌, Bool, true, false, not, ◌&&◌, ◌||◌, List, [], ◌∷◌, ◌++◌, length, Option, Some, None, refl, sym, ap, subst, ◌∙◌, append_assoc, arith, inl, inr}
use Rattle.std.specs.Prelude.{map, is_some, ◌⊎◌}
use Rattle.std.specs.List.{list_any}
use Rattle.std.proofs.lemmas.List.{append-nil, length-append}
use Rattle.zb_types.specs.declared.ids.ServerId.{ServerId}
use Rattle.zb_types.specs.declared.nodes.Cause.{Cause}
use Rattle.zb_types.specs.declared.nodes.Cause.TheVariants.{Unreachable, Down, NoSpace}
use Rattle.zb_types.specs.declared.nodes.Node.{Node}
use Rattle.zb_types.specs.declared.nodes.Node.TheVariants.{Server, Client, Manager, Cleaner, Mender}
use Rattle.zb_types.specs.declared.nodes.Event.{Event}
use Rattle.zb_types.specs.declared.nodes.Event.TheVariants.{Arm as ArmOf}
use Rattle.zb_types.specs.declared.nodes.EventAnswer.{EventAnswer}
use Rattle.zb_types.specs.declared.nodes.EventAnswer.TheVariants.{Done as EventDone, Down as IsDown, ManagerDown, Up as IsUp, Blank, Out, Another, Unreachable as CantReach, Stopped}
use Rattle.zb_types.specs.declared.lines.Line.{Line}
use Rattle.zb_types.specs.declared.lines.Line.TheVariants.{Call as CallLine, Job as JobLine, Steps, StepTo, Event as EventLine}
use Rattle.zb_types.specs.declared.lines.Said.{Said}
use Rattle.zb_types.specs.declared.lines.Said.TheVariants.{Reply as Replied, Buffered, Kept, Failed, Dropped, Unfinished}
use Rattle.zb_types.specs.declared.lines.Ended.TheVariants.{Retired, Needed, Mending}
use Rattle.zb_types.specs.declared.lines.Pass.{Pass}
use Rattle.zb_types.specs.declared.lines.Pass.TheVariants.{Nothing, Done as PassDone, Failed as PassFailed, Dropped as PassDropped}
use Rattle.zb_types.specs.declared.lines.Mended.{Mended}
use Rattle.zb_types.specs.declared.lines.Mended.TheVariants.{Copied, Another as RefusedFor, Failed as MendFailed, Server as FailedServer, Dropped as MendDropped}
use Rattle.zb_types.specs.declared.lines.Told.{Told}
use Rattle.zb_types.specs.declared.lines.Told.TheVariants.{Arm}
use Rattle.zb_types.specs.declared.lines.Outcome.{Outcome}
use Rattle.zb_types.specs.declared.lines.Outcome.TheVariants.{Call as OfCall, Clean as OfClean, Rebuild as OfRebuild, Event as OfEvent}
use Rattle.zb_claims.specs.Points.{Subject, calls, cleans, rebuilds, crashes, arms, ups, loses, told_of, asked, has_plus, is_event}
use Rattle.zb_claims.specs.Fits.{Clock, clock_of_run}
use Rattle.zb_headline.specs.Reasons.{Shown, Place, Since, begun_in, is_under_way, is_copied, puts_up, are_begun, copies_begun, WasArmed, ServerReason, ManagerReason, NodeReason, CauseReason, crashed_from, dropped_in, InSpan, breaks, MendedFails, PassReason, MendReason, SaidReason, UpReason, platter_of, StoppedReason, EventReason, HasReason}
use Rattle.zb_laws.proofs.Tests.{both, first_true, last_true, or_left, or_right, or_cases}
use Rattle.zb_given.specs.Given.{Given, with_item, with_finish, script_of, point, clock_of_given}
use Rattle.zb_given.specs.Gives.{without_steps, with_plus}
use Rattle.zb_given.specs.Reasoning.{ReasonStays, ReasonFinished, IsRightThere, LiftsReason, LiftsReasonThreads}
use Rattle.zb_given.proofs.Small.{nat_le_is}
use Rattle.zb_given.proofs.StepLines.{steps_twice}
use Rattle.zb_given.proofs.Plus.{same_place}
use Rattle.zb_given.proofs.Carry.{Extends, found, pair_of}
use Rattle.zb_given.proofs.StepLifting.{steps_extend, steps_carry, same_front}
use Rattle.zb_given.proofs.MoreGiving.{more_extend, more_carry, same_longer, finish_carry}
use Rattle.zb_given.proofs.RunLifting.{plus_carry}

-- Tests.

or_both : (a b c : Bool) → (b ≡ true → c ≡ true) → (a || b) ≡ true → (a || c) ≡ true
or_both true b c f h = refl
or_both false b c f h = f h

and_both : (a b c d : Bool) → (a ≡ true → b ≡ true) → (c ≡ true → d ≡ true) → (a && c) ≡ true → (b && d) ≡ true
and_both a b c d f g h = both b d (f (first_true a c h)) (g (last_true a c h))

or_each : (a b c d : Bool) → (a ≡ true → b ≡ true) → (c ≡ true → d ≡ true) → (a || c) ≡ true → (b || d) ≡ true
or_each a b c d f g h = elim (or_cases a c h) as (λ _. (b || d) ≡ true) [ inl e ↦ or_left b d (f e) | inr e ↦ or_right b d (g e) ]

plus_event : (line : Line) (event : Event) → with_plus line ≡ EventLine event → line ≡ EventLine event
plus_event (CallLine plus client call) event h = absurd cc
plus_event (JobLine plus job) event h = absurd cc
plus_event (Steps actor count) event h = absurd cc
plus_event (StepTo actor kind) event h = absurd cc
plus_event (EventLine other) event h = h

-- A rebuild that is told has no plus in B only if it has none in A, or was begun where all these lines stood.
abbrev pub AtOnceIn : List Line → List Line → Clock → List Outcome → Outcome → Type 0
AtOnceIn A B u before (OfRebuild server end) =
    (j place : ℕ) (l line : Line) → asked A (rebuilds server.0) (suc (told_of (rebuilds server.0) before)) ≡ Some (j, l) → asked B (rebuilds server.0) (suc (told_of (rebuilds server.0) before)) ≡ Some (place, line)
    → (front rest : List Outcome) → before ≡ front ++ rest → u.begun front j ≡ true → (has_plus l ≡ false → rest ≡ []) → has_plus line ≡ false → rest ≡ []
AtOnceIn A B u before line = Unit {0}

-- Behind these lines B's clock says yes wherever A's does, and A claims an order.
pub record Tells (A B : List Line) (u v : Clock) (before : List Outcome) (told : Outcome) : Type 0 where
  pub extends : Extends A B
  pub ordered : u.ordered ≡ true
  pub begun : (s : Subject) (n j place : ℕ) (l line : Line) → asked A s n ≡ Some (j, l) → asked B s n ≡ Some (place, line) → (front rest : List Outcome) → before ≡ front ++ rest → u.begun front j ≡ true → v.begun front place ≡ true
  pub over : (front rest : List Outcome) → before ≡ front ++ rest → u.over front ≡ true → v.over front ≡ true
  pub at_once : v.ordered ≡ true → AtOnceIn A B u before told

module _ (A B : List Line) (u v : Clock) (before : List Outcome) (told : Outcome) (shown : Shown) (c : Tells A B u v before told) where
  abbrev one : Place
  one = record { script = A; clock = u; before = before; shown = shown }

  abbrev two : Place
  two = record { script = B; clock = v; before = before; shown = shown }

  to_begun : (s : Subject) (n : ℕ) (front rest : List Outcome) → before ≡ front ++ rest → begun_in u front (asked A s n) ≡ true → begun_in v front (asked B s n) ≡ true
  to_begun s n front rest split h = by_found (asked A s n) refl h
    where
      by_found : (o : Option (ℕ × Line)) → asked A s n ≡ o → begun_in u front o ≡ true → begun_in v front (asked B s n) ≡ true
      by_found None e h = absurd cc
      by_found (Some at) e h =
          let there = found A B c.extends s n at.0 at.1 e in
          ap (begun_in v front) there.is ∙ c.begun s n at.0 there.place at.1 there.line e there.is front rest split h

  to_are_begun : (front rest : List Outcome) → before ≡ front ++ rest → (i : ℕ) (seen lines : List Outcome) → are_begun one front i seen lines ≡ true → are_begun two front i seen lines ≡ true
  to_are_begun front rest split i seen [] h = refl
  to_are_begun front rest split i seen (line ∷ lines) h =
      both (not (is_copied i line) || begun_in v front (asked B (rebuilds i) (suc (told_of (rebuilds i) seen)))) (are_begun two front i (seen ++ line ∷ []) lines)
      (or_both (not (is_copied i line)) (begun_in u front (asked A (rebuilds i) (suc (told_of (rebuilds i) seen)))) (begun_in v front (asked B (rebuilds i) (suc (told_of (rebuilds i) seen))))
      (to_begun (rebuilds i) (suc (told_of (rebuilds i) seen)) front rest split)
      (first_true (not (is_copied i line) || begun_in u front (asked A (rebuilds i) (suc (told_of (rebuilds i) seen)))) (are_begun one front i (seen ++ line ∷ []) lines) h))
      (to_are_begun front rest split i (seen ++ line ∷ []) lines (last_true (not (is_copied i line) || begun_in u front (asked A (rebuilds i) (suc (told_of (rebuilds i) seen)))) (are_begun one front i (seen ++ line ∷ []) lines) h))

  to_copies : (front rest : List Outcome) → before ≡ front ++ rest → (node : Node) (lines : List Outcome) → copies_begun one front node lines ≡ true → copies_begun two front node lines ≡ true
  to_copies front rest split (Server i) lines h = to_are_begun front rest split i front lines h
  to_copies front rest split (Client i) lines h = refl
  to_copies front rest split Manager lines h = refl
  to_copies front rest split Cleaner lines h = refl
  to_copies front rest split Mender lines h = refl

  to_armed : (node : Node) (platter : ℕ) → WasArmed one node platter → WasArmed two node platter
  to_armed node platter w =
      let spent = w.spent c.ordered in
      let there = found A B c.extends (arms node) (suc (told_of (arms node) w.front)) spent.place (EventLine (ArmOf node spent.count)) spent.is in
      record {
        front = w.front;
        rest = w.rest;
        split = w.split;
        spent = λ h. record {
          since = spent.since;
          copies = to_copies w.front (OfEvent (Arm node) EventDone ∷ w.rest) w.split node w.rest spent.copies;
          place = there.place;
          count = spent.count;
          is = there.is ∙ ap (λ (l : Line). Some (there.place, l)) (plus_event there.line (ArmOf node spent.count) there.same);
          spent = spent.spent;
        };
      }

  whole : before ≡ before ++ []
  whole = sym (append-nil before)

  to_way : (s : Subject) → is_under_way one s ≡ true → is_under_way two s ≡ true
  to_way s h = to_begun s (suc (told_of s before)) before [] whole h

  to_since : (marks : Outcome → Bool) (P : List Outcome → Type 0) → Since one marks P → Since two marks P
  to_since marks P r = record {
    front = r.front;
    rest = r.rest;
    split = r.split;
    since = or_both (not (list_any marks r.rest)) (u.over r.front) (v.over r.front) (c.over r.front r.rest r.split) r.since;
    holds = r.holds;
  }

  to_server : (i : ℕ) → ServerReason one i → ServerReason two i
  to_server i (inl h) = inl h
  to_server i (inr (inl h)) = inr (inl (to_since (puts_up i) (λ front. shown.rose i (length front)) h))
  to_server i (inr (inr (inl h))) = inr (inr (inl (to_armed (Server i) i h)))
  to_server i (inr (inr (inr (inl h)))) = inr (inr (inr (inl (record {
    unfit = λ _. h.unfit c.ordered;
    begun = or_each (is_under_way one (loses i)) (is_under_way two (loses i)) (is_under_way one (rebuilds i)) (is_under_way two (rebuilds i)) (to_way (loses i)) (to_way (rebuilds i)) h.begun;
  }))))
  to_server i (inr (inr (inr (inr h)))) = inr (inr (inr (inr (record { unfit = λ _. h.unfit c.ordered; ended = h.ended }))))

  to_manager : ManagerReason one → ManagerReason two
  to_manager (inl h) = inl h
  to_manager (inr (inl h)) = inr (inl (to_armed Manager 0 h))
  to_manager (inr (inr h)) = inr (inr (to_since (is_event (ups Manager)) (λ front. shown.rose 0 (length front)) h))

  to_node : (node : Node) → NodeReason one node → NodeReason two node
  to_node (Server i) h = to_server i h
  to_node (Client i) h = h
  to_node Manager h = to_manager h
  to_node Cleaner h = h
  to_node Mender h = h

  to_cause : (most : ℕ) (cause : Cause) → CauseReason one most cause → CauseReason two most cause
  to_cause most (Unreachable a b) h = (to_server a.0 h.0, to_server b.0 h.1)
  to_cause most Down h = to_manager h
  to_cause most (NoSpace server) h = h

  to_crashed : (node : Node) (j place : ℕ) → ((front rest : List Outcome) → before ≡ front ++ rest → u.begun front j ≡ true → v.begun front place ≡ true) → (so still : Bool) → (so ≡ true → still ≡ true) → (seen lines : List Outcome) → before ≡ seen ++ lines
      → crashed_from so one node j seen lines ≡ true → crashed_from still two node place seen lines ≡ true
  to_crashed node j place up so still le seen [] split h = le h
  to_crashed node j place up so still le seen (line ∷ lines) split h =
      to_crashed node j place up (is_event (crashes node) line || (so && (not (is_event (ups node) line) || u.begun seen j))) (is_event (crashes node) line || (still && (not (is_event (ups node) line) || v.begun seen place)))
      (or_both (is_event (crashes node) line) (so && (not (is_event (ups node) line) || u.begun seen j)) (still && (not (is_event (ups node) line) || v.begun seen place))
      (and_both so still (not (is_event (ups node) line) || u.begun seen j) (not (is_event (ups node) line) || v.begun seen place) le
      (or_both (not (is_event (ups node) line)) (u.begun seen j) (v.begun seen place) (up seen (line ∷ lines) split))))
      (seen ++ line ∷ []) lines (split ∙ sym (append_assoc seen (line ∷ []) lines)) h

  to_dropped : (node : Node) (s : Subject) (n : ℕ) → dropped_in one node (asked A s n) ≡ true → dropped_in two node (asked B s n) ≡ true
  to_dropped node s n h = by_found (asked A s n) refl h
    where
      by_found : (o : Option (ℕ × Line)) → asked A s n ≡ o → dropped_in one node o ≡ true → dropped_in two node (asked B s n) ≡ true
      by_found None e h = absurd cc
      by_found (Some at) e h =
          let there = found A B c.extends s n at.0 at.1 e in
          ap (dropped_in two node) there.is
          ∙ to_crashed node at.0 there.place (λ front rest split k. c.begun s n at.0 there.place at.1 there.line e there.is front rest split k) false false (λ k. k) [] before refl h

  to_pass : (pass : Pass) → PassReason one pass → PassReason two pass
  to_pass Nothing h = h
  to_pass (PassDone log stripe copied rejected Retired) h = h
  to_pass (PassDone log stripe copied rejected Needed) h = h
  to_pass (PassDone log stripe copied rejected Mending) h = h
  to_pass (PassFailed cause) h = to_cause 0 cause h
  to_pass PassDropped h = to_dropped Cleaner cleans (suc (told_of cleans before)) h

  -- a span goes on where the line told is its rebuild's
  to_span : (server : ServerId) (end : Mended) (P : List Outcome → List Outcome → Type 0) → AtOnceIn A B u before (OfRebuild server end) → InSpan one (rebuilds server.0) P → InSpan two (rebuilds server.0) P
  to_span server end P at_once h =
      let n : ℕ = suc (told_of (rebuilds server.0) before) in
      let there = found A B c.extends (rebuilds server.0) (suc (told_of (rebuilds server.0) before)) h.begins.place h.begins.line h.begins.is in
      record {
        front = h.front;
        rest = h.rest;
        split = h.split;
        begins = record {
          place = there.place;
          line = there.line;
          is = there.is;
          begun = c.begun (rebuilds server.0) (suc (told_of (rebuilds server.0) before)) h.begins.place there.place h.begins.line there.line h.begins.is there.is h.front h.rest h.split h.begins.begun;
          at_once = at_once h.begins.place there.place h.begins.line there.line h.begins.is there.is h.front h.rest h.split h.begins.begun h.begins.at_once;
        };
        holds = h.holds;
      }

  to_fails : (server : ServerId) (end : Mended) → AtOnceIn A B u before (OfRebuild server end) → MendedFails one server.0 → MendedFails two server.0
  to_fails server end at_once (inl h) = inl (to_span server end (λ front rest. (list_any (breaks server.0) rest ≡ true) ⊎ shown.rose server.0 (length front)) at_once h)
  to_fails server end at_once (inr h) = inr h

  to_mend : (server : ServerId) (end : Mended) → (v.ordered ≡ true → AtOnceIn A B u before (OfRebuild server end)) → MendReason one server.0 end → MendReason two server.0 end
  to_mend server (Copied count) at_once h = tt
  to_mend server (RefusedFor other) at_once h = to_server other.0 h
  to_mend server (MendFailed cause) at_once h = to_cause 0 cause h
  to_mend server FailedServer at_once h = λ order. to_fails server FailedServer (at_once order) (h c.ordered)
  to_mend server MendDropped at_once h = to_dropped Mender (rebuilds server.0) (suc (told_of (rebuilds server.0) before)) h

  to_said : (client n : ℕ) (said : Said) → SaidReason one client n said → SaidReason two client n said
  to_said client n (Replied reply) h = tt
  to_said client n Buffered h = tt
  to_said client n (Kept cause) h = to_cause 4 cause h
  to_said client n (Failed cause) h = to_cause 4 cause h
  to_said client n Dropped h = to_dropped (Client client) (calls client) n h
  to_said client n (Unfinished cause) h = to_cause 4 cause h

  to_up : (node : Node) → UpReason one node → UpReason two node
  to_up (Server i) (inl h) = inl h
  to_up (Server i) (inr (inl h)) = inr (inl (record {
    front = h.front;
    fall = h.fall;
    rest = h.rest;
    split = h.split;
    is = h.is;
    last = h.last;
    begun = to_begun (rebuilds i) (suc (told_of (rebuilds i) h.front)) before [] whole h.begun;
  }))
  to_up (Server i) (inr (inr h)) = let no_order : (not true && is_some (asked A (rebuilds i) 1)) ≡ true = ap (λ (b : Bool). not b && is_some (asked A (rebuilds i) 1)) (sym c.ordered) ∙ h in absurd cc
  to_up (Client i) h = h
  to_up Manager h = h
  to_up Cleaner h = h
  to_up Mender h = h

  to_stopped : (event : Told) (node : Node) → StoppedReason one event node → StoppedReason two event node
  to_stopped event node (inl h) = inl h
  to_stopped event node (inr h) = inr (h.0, to_armed node (platter_of node) h.1)

  to_event : (event : Told) (answer : EventAnswer) → EventReason one event answer → EventReason two event answer
  to_event event EventDone h = tt
  to_event event (IsDown node) h = to_node node h
  to_event event ManagerDown h = to_manager h
  to_event event (IsUp node) h = to_up node h
  to_event event (Blank server) h = h
  to_event event (Out server) (inl h) = inl h
  to_event event (Out server) (inr (inl h)) = inr (inl h)
  to_event event (Out server) (inr (inr h)) = inr (inr (to_manager h))
  to_event event (Another server) h = h
  to_event event (CantReach a b) h = (to_server a.0 h.0, to_server b.0 h.1)
  to_event event (Stopped node) h = to_stopped event node h

  to_line : (line : Outcome) → (v.ordered ≡ true → AtOnceIn A B u before line) → HasReason one line → HasReason two line
  to_line (OfCall client n said) at_once h = to_said client n said h
  to_line (OfClean pass) at_once h = to_pass pass h
  to_line (OfRebuild server end) at_once h = to_mend server end at_once h
  to_line (OfEvent event answer) at_once h = to_event event answer h

  pub to_reason : HasReason one told → HasReason two told
  to_reason h = to_line told c.at_once h

-- The laws.

-- where both have the same lines, those of a rebuild too
same_lines : (A B : List Line) (u : Clock) (before : List Outcome) → ((s : Subject) (n j place : ℕ) (l line : Line) → asked A s n ≡ Some (j, l) → asked B s n ≡ Some (place, line) → l ≡ line) → (told : Outcome) → AtOnceIn A B u before told
same_lines A B u before same (OfCall client n said) = tt
same_lines A B u before same (OfClean pass) = tt
same_lines A B u before same (OfRebuild server end) = λ j place l line a b front rest split begun once none. once (ap has_plus (same (rebuilds server.0) (suc (told_of (rebuilds server.0) before)) j place l line a b) ∙ none)
same_lines A B u before same (OfEvent event answer) = tt

pub reason_stays : ReasonStays
reason_stays given line at before shown told h =
    to_reason (script_of given) (script_of (with_item given line at)) (clock_of_given given) (clock_of_given (with_item given line at)) before told shown
    (record {
      extends = more_extend given line at;
      ordered = refl;
      begun = (more_carry given line at before).begun;
      over = λ front rest split over. over;
      at_once = λ order. same_lines (script_of given) (script_of (with_item given line at)) (clock_of_given given) before (λ s n j place l other a b. (same_longer given line at s n j place l other a b).1) told;
    }) h

pub reason_finished : ReasonFinished
reason_finished given at before shown told h =
    let carries = finish_carry given before at in
    to_reason (script_of given) (script_of given) (clock_of_given given) (clock_of_given (with_finish given at)) before told shown
    (record {
      extends = carries.extends;
      ordered = refl;
      begun = carries.begun;
      over = carries.over;
      at_once = λ order. same_lines (script_of given) (script_of given) (clock_of_given given) before (λ s n j place l line a b. (pair_of (asked (script_of given) s n) j place l line a b).1) told;
    }) h

right_there : (S : List Line) (given : Given) (before : List Outcome) (told : Outcome) → IsRightThere S given before told → AtOnceIn (map with_plus S) S (clock_of_given given) before told
right_there S given before (OfCall client n said) at = tt
right_there S given before (OfClean pass) at = tt
right_there S given before (OfRebuild server end) at = λ j place l line a b front rest split begun once none.
    let same : j ≡ place = same_place (rebuilds server.0) (suc (told_of (rebuilds server.0) before)) S j place l line a b in
    let long : length before ≤ point given.items place = at place line b none in
    let short : point given.items j ≤ length front = nat_le_is (point given.items j) (length front) begun in
    none_left rest (omega (arith, long, short, ap (point given.items) same, ap length split, length-append front rest))
  where
    none_left : (rest : List Outcome) → length rest ≤ 0 → rest ≡ []
    none_left [] le = refl
    none_left (x ∷ rest) le = absurd (omega (arith, le))
right_there S given before (OfEvent event answer) at = tt

pub lifts_reason : LiftsReason
lifts_reason script given lines before rest shown told gives split there h =
    let S : List Line = without_steps script in
    let carried = plus_carry (without_steps script) given lines gives.begun gives.over gives.at_once gives.items in
    let stepped = steps_carry (without_steps script) script (steps_twice script) true before in
    let start : HasReason (record { script = map with_plus (without_steps script); clock = clock_of_given given; before = before; shown = shown }) told =
    subst (λ (x : List Line). HasReason (record { script = x; clock = clock_of_given given; before = before; shown = shown }) told) gives.items h in
    let on_lines : (front more : List Outcome) → before ≡ front ++ more → lines ≡ front ++ (more ++ rest) =
    λ front more e. split ∙ ap (λ (x : List Outcome). x ++ rest) e ∙ append_assoc front more rest in
    let here = to_reason (map with_plus (without_steps script)) (without_steps script) (clock_of_given given) (clock_of_run true (without_steps script)) before told shown
    (record {
      extends = carried.extends;
      ordered = refl;
      begun = λ s n j place l line a b front more e k. carried.begun s n j place l line a b front (more ++ rest) (on_lines front more e) k;
      over = λ front more e k. carried.over front (more ++ rest) (on_lines front more e) k;
      at_once = λ order. right_there (without_steps script) given before told there;
    }) start in
    to_reason (without_steps script) script (clock_of_run true (without_steps script)) (clock_of_run true script) before told shown
    (record {
      extends = steps_extend (without_steps script) script (steps_twice script);
      ordered = refl;
      begun = stepped.begun;
      over = stepped.over;
      at_once = λ order. same_lines (without_steps script) script (clock_of_run true (without_steps script)) before (λ s n j place l line a b. (same_front (without_steps script) script (steps_twice script) s n j place l line a b).1) told;
    }) here

pub lifts_reason_threads : LiftsReasonThreads
lifts_reason_threads script given before shown told gives h =
    to_reason (script_of given) script (clock_of_given given) (clock_of_run false script) before told shown
    (record {
      extends = gives;
      ordered = refl;
      begun = λ s n j place l line a b front rest split k. refl;
      over = λ front rest split k. refl;
      at_once = λ order. absurd cc;
    }) h
