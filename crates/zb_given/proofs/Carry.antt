-- Lines that fit one script fit another that asks for as much, if its clock says so.
use Rattle.std.proofs.Common.{◌≡◌, ℕ, zero, suc, ◌<◌, ◌≤◌, Bool, true, false, not, ◌||◌, List, [], ◌∷◌, ◌++◌, length, take, Option, Some, None, refl, sym, ap, subst, ◌∙◌, append_assoc, arith, inl, inr}
use Rattle.std.specs.Prelude.{map, slice_get, nat_lt, ◌==◌, ◌⊎◌}
use Rattle.std.specs.List.{AllByRecursion}
use Rattle.std.proofs.lemmas.Option.{slice_get_within}
use Rattle.std.proofs.lemmas.List.{append-nil, length-map}
use Rattle.zb_types.specs.declared.calls.Call.{Call}
use Rattle.zb_types.specs.declared.calls.Reply.{Reply}
use Rattle.zb_types.specs.declared.nodes.Node.TheVariants.{Manager}
use Rattle.zb_types.specs.declared.lines.Line.{Line}
use Rattle.zb_types.specs.declared.lines.Line.TheVariants.{Call as CallLine}
use Rattle.zb_types.specs.declared.lines.Said.{Said}
use Rattle.zb_types.specs.declared.lines.Said.TheVariants.{Reply as Replied, Buffered, Kept, Failed, Dropped, Unfinished}
use Rattle.zb_types.specs.declared.lines.Outcome.{Outcome}
use Rattle.zb_types.specs.declared.lines.Outcome.TheVariants.{Call as OfCall, Clean as OfClean, Rebuild as OfRebuild, Event as OfEvent}
use Rattle.zb_types.specs.Tree.{Tree}
use Rattle.zb_types.specs.Apply.{is_update, reply_to}
use Rattle.zb_types.specs.History.{tree_after}
use Rattle.zb_claims.specs.Points.{Subject, calls, crashes, subject_of, told_of, asked, asked_of, call_of, did_if, did_of, dids, tree_at, crash_from, is_before_crash}
use Rattle.zb_claims.specs.Fits.{Clock, are_ended, ReadFitsBy, SaidFitsBy, CallFitsBy, EventFitsBy, FitsNextBy, FitsFromBy, FitsBy}
use Rattle.zb_laws.specs.Histories.{read_if, read_of, reads}
use Rattle.zb_given.specs.Gives.{with_plus, about}
use Rattle.zb_given.specs.Lifts.{SameHistory}
use Rattle.zb_given.proofs.Asking.{asked_zero, is_in_about, asks, option_plus, get_plus, line_call, call_of_about, call_of_zero, plus_call}
use Rattle.zb_given.proofs.Small.{get_before, all_push, all_front}

-- the lines of each subject are those of the first script, and maybe more
abbrev pub Extends : List Line → List Line → Type 0
Extends A B = (s : Subject) → (more : List Line) × (map with_plus (about s B) ≡ map with_plus (about s A) ++ more)

-- the call that a line names is one of the script
abbrev pub IsAsked : List Line → Outcome → Type 0
IsAsked script (OfCall client n said) = (m : ℕ) × (n ≡ suc m) × (m < length (about (calls client) script))
IsAsked script line = Unit {0}

pub asked_pos : (A : List Line) (s : Subject) (n place : ℕ) (line : Line) → asked A s n ≡ Some (place, line) → (m : ℕ) × (n ≡ suc m) × (m < length (about s A))
asked_pos A s zero place line is = let e : ◌≡◌ {A = Option (ℕ × Line)} None (Some (place, line)) = sym (asked_zero 0 s A) ∙ is in absurd cc
asked_pos A s (suc m) place line is = (m, refl, slice_get_within (about s A) m line (is_in_about s m A place line is))

-- What is asked for in both.

pub call_agrees : (A B : List Line) → Extends A B → (client m : ℕ) → m < length (about (calls client) A) → call_of B client (suc m) ≡ call_of A client (suc m)
call_agrees A B ext client m lt =
    call_of_about B client m
    ∙ ap (λ (l : List Line). line_call (slice_get l m)) (ext (calls client)).1
    ∙ ap line_call (get_before (map with_plus (about (calls client) A)) (ext (calls client)).0 m (omega (arith, lt, length-map (about (calls client) A) with_plus)))
    ∙ sym (call_of_about A client m)

ended_agrees : (A B : List Line) → Extends A B → (before : List Outcome) (client n : ℕ) → n ≤ suc (length (about (calls client) A)) → are_ended B before client n ≡ are_ended A before client n
ended_agrees A B ext before client zero le = refl
ended_agrees A B ext before client (suc zero) le = rw (call_of_zero A client, call_of_zero B client) refl
ended_agrees A B ext before client (suc (suc m)) le = rw (call_agrees A B ext client m (omega (arith, le)), ended_agrees A B ext before client (suc m) (omega (arith, le))) refl

-- The history.

pub named_agrees : {T : Type 0} (f : Option Call → T) (A B : List Line) → Extends A B → (client n : ℕ) → (m : ℕ) × (n ≡ suc m) × (m < length (about (calls client) A)) → f (call_of B client n) ≡ f (call_of A client n)
named_agrees f A B ext client n at = ap f (ap (call_of B client) at.1 ∙ call_agrees A B ext client at.0 at.2 ∙ ap (call_of A client) (sym at.1))

did_agrees : (A B : List Line) → Extends A B → (line : Outcome) → IsAsked A line → did_of B line ≡ did_of A line
did_agrees A B ext (OfCall client n (Replied reply)) at = named_agrees (did_if client n reply) A B ext client n at
did_agrees A B ext (OfCall client n Buffered) at = refl
did_agrees A B ext (OfCall client n (Kept cause)) at = refl
did_agrees A B ext (OfCall client n (Failed cause)) at = refl
did_agrees A B ext (OfCall client n Dropped) at = refl
did_agrees A B ext (OfCall client n (Unfinished cause)) at = refl
did_agrees A B ext (OfClean pass) at = refl
did_agrees A B ext (OfRebuild server end) at = refl
did_agrees A B ext (OfEvent event answer) at = refl

read_agrees : (A B : List Line) → Extends A B → (line : Outcome) → IsAsked A line → read_of B line ≡ read_of A line
read_agrees A B ext (OfCall client n (Replied reply)) at = named_agrees (read_if client n reply) A B ext client n at
read_agrees A B ext (OfCall client n Buffered) at = refl
read_agrees A B ext (OfCall client n (Kept cause)) at = refl
read_agrees A B ext (OfCall client n (Failed cause)) at = refl
read_agrees A B ext (OfCall client n Dropped) at = refl
read_agrees A B ext (OfCall client n (Unfinished cause)) at = refl
read_agrees A B ext (OfClean pass) at = refl
read_agrees A B ext (OfRebuild server end) at = refl
read_agrees A B ext (OfEvent event answer) at = refl

pub dids_agree : (A B : List Line) → Extends A B → (lines : List Outcome) → AllByRecursion (IsAsked A) lines → dids B lines ≡ dids A lines
dids_agree A B ext [] at = refl
dids_agree A B ext (line ∷ lines) at = rw (did_agrees A B ext line at.0, dids_agree A B ext lines at.1) refl

pub reads_agree : (A B : List Line) → Extends A B → (lines : List Outcome) → AllByRecursion (IsAsked A) lines → reads B lines ≡ reads A lines
reads_agree A B ext [] at = refl
reads_agree A B ext (line ∷ lines) at = rw (read_agrees A B ext line at.0, reads_agree A B ext lines at.1) refl

pub same_history : (A B : List Line) → Extends A B → (lines : List Outcome) → AllByRecursion (IsAsked A) lines → SameHistory B A lines
same_history A B ext lines at = record { dids = dids_agree A B ext lines at; reads = reads_agree A B ext lines at; tree = ap tree_after (dids_agree A B ext lines at) }

pub next_asked : (w : Clock) (A : List Line) (before : List Outcome) (line : Outcome) → FitsNextBy w A before line → IsAsked A line
next_asked w A before (OfCall client n said) f = asked_pos A (calls client) n f.place (CallLine f.plus client f.call) f.is
next_asked w A before (OfClean pass) f = tt
next_asked w A before (OfRebuild server end) f = tt
next_asked w A before (OfEvent event answer) f = tt

pub all_asked : (w : Clock) (A : List Line) (before lines : List Outcome) → FitsFromBy w A before lines → AllByRecursion (IsAsked A) lines
all_asked w A before [] f = tt
all_asked w A before (line ∷ lines) f = (next_asked w A before line f.0, all_asked w A (before ++ line ∷ []) lines f.1)

-- Places.

pub pair_of : (o : Option (ℕ × Line)) (j place : ℕ) (l line : Line) → o ≡ Some (j, l) → o ≡ Some (place, line) → (j ≡ place) × (l ≡ line)
pair_of o j place l line a b =
    let both : ◌≡◌ {A = Option (ℕ × Line)} (Some (j, l)) (Some (place, line)) = sym a ∙ b in
    let pair : ◌≡◌ {A = ℕ × Line} (j, l) (place, line) = cc in
    (ap (λ (q : ℕ × Line). q.0) pair, ap (λ (q : ℕ × Line). q.1) pair)

-- the same crashes of the file manager came before
pub before_crash_by : (A B : List Line) (before : List Outcome) (j place : ℕ) → asked_of (crashes Manager) (take j A) ≡ asked_of (crashes Manager) (take place B) → is_before_crash A before j ≡ is_before_crash B before place
before_crash_by A B before j place same = ap (λ k. (crash_from 0 0 before == 0) || nat_lt k (crash_from 0 0 before)) same

-- Clocks.

-- where a read of the other script is to be answered at once, it was so in the first, or its reply is that of the last state
abbrev pub StaysAtOnce : List Line → List Line → Clock → Clock → List Outcome → Type 0
StaysAtOnce A B u v all = (before after : List Outcome) (client n : ℕ) (reply : Reply) → all ≡ before ++ OfCall client n (Replied reply) ∷ after
    → (j place : ℕ) (p q : Bool) (call : Call) → asked A (calls client) n ≡ Some (j, CallLine p client call) → asked B (calls client) n ≡ Some (place, CallLine q client call) → is_update call ≡ false
    → (v.at_once ≡ true → q ≡ false → (u.at_once ≡ true) × (p ≡ false)) ⊎ (reply ≡ reply_to (tree_at B before) call)

-- what holds by the first script's clock holds by the other's, at each point of these lines
pub record Carries (A B : List Line) (u v : Clock) (all : List Outcome) : Type 0 where
  pub extends : Extends A B
  pub begun : (s : Subject) (n j place : ℕ) (l line : Line) → asked A s n ≡ Some (j, l) → asked B s n ≡ Some (place, line) → (front rest : List Outcome) → all ≡ front ++ rest → u.begun front j ≡ true → v.begun front place ≡ true
  pub manager : (s : Subject) (n j place : ℕ) (l line : Line) → asked A s n ≡ Some (j, l) → asked B s n ≡ Some (place, line) → (before : List Outcome) → (not u.ordered || is_before_crash A before j) ≡ true → (not v.ordered || is_before_crash B before place) ≡ true
  pub over : (front rest : List Outcome) → all ≡ front ++ rest → u.over front ≡ true → v.over front ≡ true
  pub at_once : StaysAtOnce A B u v all

-- the line that the other script has for it
pub record Found (A B : List Line) (s : Subject) (n : ℕ) (l : Line) : Type 0 where
  pub place : ℕ
  pub line : Line
  pub is : asked B s n ≡ Some (place, line)
  pub same : with_plus line ≡ with_plus l

some_plus : (o : Option Line) (l : Line) → option_plus o ≡ Some l → (line : Line) × (o ≡ Some line) × (with_plus line ≡ l)
some_plus None l is = absurd cc
some_plus (Some line) l is = let same : with_plus line ≡ l = cc in (line, refl, same)

found_next : (A B : List Line) → Extends A B → (s : Subject) (m j : ℕ) (l : Line) → asked A s (suc m) ≡ Some (j, l) → Found A B s (suc m) l
found_next A B ext s m j l is =
    let here : slice_get (about s A) m ≡ Some l = is_in_about s m A j l is in
    let lt : m < length (about s A) = slice_get_within (about s A) m l here in
    let there : option_plus (slice_get (about s B) m) ≡ Some (with_plus l) =
    sym (get_plus (about s B) m) ∙ ap (λ (x : List Line). slice_get x m) (ext s).1
    ∙ get_before (map with_plus (about s A)) (ext s).0 m (omega (arith, lt, length-map (about s A) with_plus))
    ∙ get_plus (about s A) m ∙ ap option_plus here in
    let other = some_plus (slice_get (about s B) m) (with_plus l) there in
    let a = asks s m B other.0 other.1 in
    record { place = a.place; line = other.0; is = a.is; same = other.2 }

pub found : (A B : List Line) → Extends A B → (s : Subject) (n j : ℕ) (l : Line) → asked A s n ≡ Some (j, l) → Found A B s n l
found A B ext s zero j l is = let e : ◌≡◌ {A = Option (ℕ × Line)} None (Some (j, l)) = sym (asked_zero 0 s A) ∙ is in absurd cc
found A B ext s (suc m) j l is = found_next A B ext s m j l is

module _ (A B : List Line) (u v : Clock) (all : List Outcome) (c : Carries A B u v all) where
  tree_agrees : (lines : List Outcome) → AllByRecursion (IsAsked A) lines → tree_at B lines ≡ tree_at A lines
  tree_agrees lines at = ap tree_after (dids_agree A B c.extends lines at)

  carry_read : (before after : List Outcome) (client n j place : ℕ) (p q : Bool) (call : Call) (reply : Reply) → all ≡ before ++ OfCall client n (Replied reply) ∷ after → AllByRecursion (IsAsked A) before
      → asked A (calls client) n ≡ Some (j, CallLine p client call) → asked B (calls client) n ≡ Some (place, CallLine q client call) → v.begun before place ≡ true
      → ReadFitsBy u A before client j p call reply → (v.at_once ≡ true → q ≡ false → (u.at_once ≡ true) × (p ≡ false)) ⊎ (reply ≡ reply_to (tree_at B before) call) → ReadFitsBy v B before client place q call reply
  carry_read before after client n j place p q call reply at asked_before a b begun r (inl once) = record {
    front = r.front;
    rest = r.rest;
    split = r.split;
    after_begin = c.begun (calls client) n j place (CallLine p client call) (CallLine q client call) a b r.front (r.rest ++ OfCall client n (Replied reply) ∷ after)
        (at ∙ ap (λ (l : List Outcome). l ++ OfCall client n (Replied reply) ∷ after) r.split ∙ append_assoc r.front r.rest (OfCall client n (Replied reply) ∷ after)) r.after_begin;
    after_own = r.after_own;
    at_once = λ g h. let was = once g h in r.at_once was.0 was.1;
    same = r.same ∙ ap (λ (t : Tree). reply_to t call) (sym (tree_agrees r.front (all_front (IsAsked A) r.front r.rest (subst (AllByRecursion (IsAsked A)) r.split asked_before))));
  }
  carry_read before after client n j place p q call reply at asked_before a b begun r (inr now) = record {
    front = before;
    rest = [];
    split = sym (append-nil before);
    after_begin = begun;
    after_own = refl;
    at_once = λ g h. refl;
    same = now;
  }

  carry_said : (before after : List Outcome) (client n j place : ℕ) (p q : Bool) (call : Call) (said : Said) → all ≡ before ++ OfCall client n said ∷ after → AllByRecursion (IsAsked A) before
      → asked A (calls client) n ≡ Some (j, CallLine p client call) → asked B (calls client) n ≡ Some (place, CallLine q client call) → v.begun before place ≡ true
      → SaidFitsBy u A before client n j p call said → SaidFitsBy v B before client n place q call said
  carry_said before after client n j place p q call (Replied reply) at asked_before a b begun f =
      let top = asked_pos A (calls client) n j (CallLine p client call) a in
      record {
        earlier = ended_agrees A B c.extends before client n (omega (arith, top.1, top.2)) ∙ f.earlier;
        manager = c.manager (calls client) n j place (CallLine p client call) (CallLine q client call) a b before f.manager;
        first = f.first;
        update = λ is. f.update is ∙ ap (λ (t : Tree). reply_to t call) (sym (tree_agrees before asked_before));
        read = λ is. carry_read before after client n j place p q call reply at asked_before a b begun (f.read is) (c.at_once before after client n reply at j place p q call a b is);
      }
  carry_said before after client n j place p q call Buffered at asked_before a b begun f = f
  carry_said before after client n j place p q call (Kept cause) at asked_before a b begun f = f
  carry_said before after client n j place p q call (Failed cause) at asked_before a b begun f = f
  carry_said before after client n j place p q call Dropped at asked_before a b begun f = tt
  carry_said before after client n j place p q call (Unfinished cause) at asked_before a b begun f = record { update = f.update; all = c.over before (OfCall client n (Unfinished cause) ∷ after) at f.all; kept = f.kept }

  carry_event : (before after : List Outcome) (s : Subject) → all ≡ before ++ after → EventFitsBy u A before s → EventFitsBy v B before s
  carry_event before after s at f =
      let g = found A B c.extends s (suc (told_of s before)) f.place f.line f.is in
      record { place = g.place; line = g.line; is = g.is; begun = c.begun s (suc (told_of s before)) f.place g.place f.line g.line f.is g.is before after at f.begun }

  carry_call : (before after : List Outcome) (client n : ℕ) (said : Said) → all ≡ before ++ OfCall client n said ∷ after → AllByRecursion (IsAsked A) before → CallFitsBy u A before client n said → CallFitsBy v B before client n said
  carry_call before after client n said at asked_before f =
      let g = found A B c.extends (calls client) n f.place (CallLine f.plus client f.call) f.is in
      let k = plus_call g.line client f.call g.same in
      let here : asked B (calls client) n ≡ Some (g.place, CallLine k.plus client f.call) = g.is ∙ ap (λ (l : Line). Some (g.place, l)) k.is in
      let begun : v.begun before g.place ≡ true = c.begun (calls client) n f.place g.place (CallLine f.plus client f.call) (CallLine k.plus client f.call) f.is here before (OfCall client n said ∷ after) at f.begun in
      record {
        place = g.place;
        plus = k.plus;
        call = f.call;
        is = here;
        begun = begun;
        unended = f.unended;
        next = f.next;
        fits = carry_said before after client n f.place g.place f.plus k.plus f.call said at asked_before f.is here begun f.fits;
      }

  carry_next : (before after : List Outcome) (line : Outcome) → all ≡ before ++ line ∷ after → AllByRecursion (IsAsked A) before → FitsNextBy u A before line → FitsNextBy v B before line
  carry_next before after (OfCall client n said) at asked_before f = carry_call before after client n said at asked_before f
  carry_next before after (OfClean pass) at asked_before f = carry_event before (OfClean pass ∷ after) (subject_of (OfClean pass)) at f
  carry_next before after (OfRebuild server end) at asked_before f = carry_event before (OfRebuild server end ∷ after) (subject_of (OfRebuild server end)) at f
  carry_next before after (OfEvent event answer) at asked_before f = carry_event before (OfEvent event answer ∷ after) (subject_of (OfEvent event answer)) at f

  carry_from : (before lines : List Outcome) → all ≡ before ++ lines → AllByRecursion (IsAsked A) before → FitsFromBy u A before lines → FitsFromBy v B before lines
  carry_from before [] at asked_before f = tt
  carry_from before (line ∷ lines) at asked_before f = (
    carry_next before lines line at asked_before f.0,
    carry_from (before ++ line ∷ []) lines (at ∙ sym (append_assoc before (line ∷ []) lines)) (all_push (IsAsked A) before line asked_before (next_asked u A before line f.0)) f.1,
  )

pub carry : (A B : List Line) (u v : Clock) (lines : List Outcome) → Carries A B u v lines → FitsBy u A lines → FitsBy v B lines
carry A B u v lines c f = carry_from A B u v lines c [] lines refl tt f
