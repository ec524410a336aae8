-- What a program gives, line by line of the script and of the report.
use Rattle.std.proofs.Common.{◌≡◌, ℕ, zero, suc, ◌+◌, true, false, List, [], ◌∷◌, ◌++◌, length, take, Option, Some, None, refl, sym, ap, subst, ◌∙◌, append_assoc, arith}
use Rattle.std.specs.Prelude.{map}
use Rattle.std.specs.List.{AllByRecursion}
use Rattle.std.proofs.lemmas.List.{append-nil, length-map, map-append}
use Rattle.std.proofs.lemmas.List.Elements.{filter-append}
use Rattle.std.proofs.Math.Seq.{take-length}
use Rattle.zb_types.specs.declared.calls.Reply.{Reply}
use Rattle.zb_types.specs.declared.lines.Line.{Line}
use Rattle.zb_types.specs.declared.lines.Line.TheVariants.{Call as CallLine, Job as JobLine, Steps, StepTo, Event as EventLine}
use Rattle.zb_types.specs.declared.lines.Said.TheVariants.{Reply as Replied, Buffered, Kept, Failed, Dropped, Unfinished}
use Rattle.zb_types.specs.declared.lines.Outcome.{Outcome}
use Rattle.zb_types.specs.declared.lines.Outcome.TheVariants.{Call as OfCall, Clean as OfClean, Rebuild as OfRebuild, Event as OfEvent}
use Rattle.zb_types.specs.Tree.{Tree}
use Rattle.zb_types.specs.Apply.{reply_to}
use Rattle.zb_types.specs.History.{tree_after}
use Rattle.zb_claims.specs.Points.{calls, is_about, asked, is_begun, tree_at}
use Rattle.zb_laws.proofs.Tests.{both, first_true, last_true}
use Rattle.zb_given.specs.Given.{Item, Given, with_item, with_finish, script_of, clock_of_given, FitGiven}
use Rattle.zb_given.specs.Gives.{is_item, without_steps, with_plus, about, are_begun, are_over, IsNow, IsAtOnce, AreAtOnce, Gives}
use Rattle.zb_given.proofs.Small.{all_push}
use Rattle.zb_given.proofs.Asking.{asked_some, asked_more}
use Rattle.zb_given.proofs.Plus.{asked_of_plus}
use Rattle.zb_given.proofs.StepLines.{steps_push, steps_same}
use Rattle.zb_given.proofs.Begun.{begun_lines, begun_longer, begun_steps}
use Rattle.zb_given.proofs.Carry.{Extends, IsAsked, dids_agree, all_asked}

-- One line of the script more.

begun_push : (S : List Line) (l : Line) (lines : List Outcome) (place : ℕ) (items : List Item) (x : Item) → place + length items ≡ length S → are_begun S lines place items ≡ true → is_begun S (take x.at lines) (length S) ≡ true → are_begun (S ++ l ∷ []) lines place (items ++ x ∷ []) ≡ true
begun_push S l lines place [] x at h now =
    let here : place ≡ length S = omega (arith, at) in
    both (is_begun (S ++ l ∷ []) (take x.at lines) place) true (begun_longer S (l ∷ []) (take x.at lines) place (omega (arith, here)) ∙ ap (is_begun S (take x.at lines)) here ∙ now) refl
begun_push S l lines place (item ∷ items) x at h now =
    both (is_begun (S ++ l ∷ []) (take item.at lines) place) (are_begun (S ++ l ∷ []) lines (suc place) (items ++ x ∷ []))
    (begun_longer S (l ∷ []) (take item.at lines) place (omega (arith, at)) ∙ first_true (is_begun S (take item.at lines) place) (are_begun S lines (suc place) items) h)
    (begun_push S l lines (suc place) items x (omega (arith, at)) (last_true (is_begun S (take item.at lines) place) (are_begun S lines (suc place) items) h) now)

now_of : (A B : List Line) (before : List Outcome) (reply : Reply) (o : Option (ℕ × Line)) → tree_at A before ≡ tree_at B before → IsNow A before reply o → IsNow B before reply o
now_of A B before reply None same h = tt
now_of A B before reply (Some (place, CallLine false client call)) same h = λ read. h read ∙ ap (λ (t : Tree). reply_to t call) same
now_of A B before reply (Some (place, CallLine true client call)) same h = tt
now_of A B before reply (Some (place, JobLine plus job)) same h = tt
now_of A B before reply (Some (place, Steps actor count)) same h = tt
now_of A B before reply (Some (place, StepTo actor kind)) same h = tt
now_of A B before reply (Some (place, EventLine event)) same h = tt

longer_extends : (S more : List Line) → Extends S (S ++ more)
longer_extends S more s = (map with_plus (about s more), ap (map with_plus) (filter-append (is_about s) S more) ∙ map-append with_plus (about s S) (about s more))

once_more : (S more : List Line) (before : List Outcome) (line : Outcome) → AllByRecursion (IsAsked S) before → IsAsked S line → IsAtOnce S before line → IsAtOnce (S ++ more) before line
once_more S more before (OfCall client n (Replied reply)) earlier at h =
    let same : tree_at S before ≡ tree_at (S ++ more) before = sym (ap tree_after (dids_agree S (S ++ more) (longer_extends S more) before earlier)) in
    let some = asked_some S (calls client) at.0 at.2 in
    let is : asked S (calls client) n ≡ Some some.0 = ap (asked S (calls client)) at.1 ∙ some.1 in
    subst (IsNow (S ++ more) before reply) (sym (asked_more 0 (calls client) n S more some.0 is)) (now_of S (S ++ more) before reply (Some some.0) same (subst (IsNow S before reply) is h))
once_more S more before (OfCall client n Buffered) earlier at h = tt
once_more S more before (OfCall client n (Kept cause)) earlier at h = tt
once_more S more before (OfCall client n (Failed cause)) earlier at h = tt
once_more S more before (OfCall client n Dropped) earlier at h = tt
once_more S more before (OfCall client n (Unfinished cause)) earlier at h = tt
once_more S more before (OfClean pass) earlier at h = tt
once_more S more before (OfRebuild server end) earlier at h = tt
once_more S more before (OfEvent event answer) earlier at h = tt

all_once_more : (S more : List Line) (before lines : List Outcome) → AllByRecursion (IsAsked S) before → AllByRecursion (IsAsked S) lines → AreAtOnce S before lines → AreAtOnce (S ++ more) before lines
all_once_more S more before [] earlier at h = tt
all_once_more S more before (line ∷ lines) earlier at h = (once_more S more before line earlier at.0 h.0, all_once_more S more (before ++ line ∷ []) lines (all_push (IsAsked S) before line earlier at.0) at.1 h.1)

asked_plus : (S : List Line) (line : Outcome) → IsAsked (map with_plus S) line → IsAsked S line
asked_plus S (OfCall client n said) at = (at.0, at.1, omega (arith, at.2, asked_of_plus (calls client) S))
asked_plus S (OfClean pass) at = tt
asked_plus S (OfRebuild server end) at = tt
asked_plus S (OfEvent event answer) at = tt

all_asked_plus : (S : List Line) (lines : List Outcome) → AllByRecursion (IsAsked (map with_plus S)) lines → AllByRecursion (IsAsked S) lines
all_asked_plus S [] at = tt
all_asked_plus S (line ∷ lines) at = (asked_plus S line at.0, all_asked_plus S lines at.1)

-- one more call, job or event, where the script so far was begun to its end
pub gives_row : (script : List Line) (given : Given) (lines : List Outcome) (line : Line) → is_item line ≡ true → given.finishes ≡ [] → FitGiven given lines → is_begun script lines (length script) ≡ true → Gives script given lines
    → Gives (script ++ line ∷ []) (with_item given (with_plus line) (length lines)) lines
gives_row script given lines line is none g now gives =
    let S : List Line = without_steps script in
    let x : Item = record { line = with_plus line; at = length lines } in
    let longer : without_steps (script ++ line ∷ []) ≡ without_steps script ++ line ∷ [] = steps_push script line is in
    let count : 0 + length given.items ≡ length (without_steps script) = omega (arith, ap length gives.items, length-map given.items (λ (item : Item). item.line), length-map (without_steps script) with_plus) in
    let here : is_begun (without_steps script) (take (length lines) lines) (length (without_steps script)) ≡ true = ap (λ (l : List Outcome). is_begun (without_steps script) l (length (without_steps script))) (take-length lines) ∙ begun_steps script lines ∙ now in
    record {
      items = map-append (λ (item : Item). item.line) given.items (record { line = with_plus line; at = length lines } ∷ []) ∙ ap (λ (l : List Line). l ++ with_plus line ∷ []) gives.items
          ∙ sym (map-append with_plus (without_steps script) (line ∷ [])) ∙ ap (map with_plus) (sym longer);
      begun = ap (λ (l : List Line). are_begun l lines 0 (given.items ++ record { line = with_plus line; at = length lines } ∷ [])) longer
          ∙ begun_push (without_steps script) line lines 0 given.items (record { line = with_plus line; at = length lines }) count gives.begun here;
      over = ap (are_over (without_steps (script ++ line ∷ [])) lines) none;
      at_once = subst (λ (l : List Line). AreAtOnce l [] lines) (sym longer)
          (all_once_more (without_steps script) (line ∷ []) [] lines tt
          (all_asked_plus (without_steps script) lines (subst (λ (l : List Line). AllByRecursion (IsAsked l) lines) gives.items (all_asked (clock_of_given given) (script_of given) [] lines g.fits))) gives.at_once);
    }

pub gives_steps : (script : List Line) (given : Given) (lines : List Outcome) (line : Line) → is_item line ≡ false → Gives script given lines → Gives (script ++ line ∷ []) given lines
gives_steps script given lines line is gives =
    let same : without_steps script ≡ without_steps (script ++ line ∷ []) = sym (steps_same script line is) in
    record {
      items = gives.items ∙ ap (map with_plus) same;
      begun = ap (λ (l : List Line). are_begun l lines 0 given.items) (sym same) ∙ gives.begun;
      over = ap (λ (l : List Line). are_over l lines given.finishes) (sym same) ∙ gives.over;
      at_once = subst (λ (l : List Line). AreAtOnce l [] lines) same gives.at_once;
    }

-- One line of the report more.

take_longer : {X : Type 0} (at : ℕ) (xs ys : List X) → (zs : List X) × (take at (xs ++ ys) ≡ take at xs ++ zs)
take_longer zero xs ys = ([], refl)
take_longer (suc at) [] ys = (take (suc at) ys, refl)
take_longer {X} (suc at) (x ∷ xs) ys = let more = take_longer at xs ys in (more.0, ap (λ (l : List X). x ∷ l) more.1)

begun_later : (S : List Line) (lines more : List Outcome) (at place : ℕ) → is_begun S (take at lines) place ≡ true → is_begun S (take at (lines ++ more)) place ≡ true
begun_later S lines more at place h =
    let longer = take_longer at lines more in
    ap (λ (l : List Outcome). is_begun S l place) longer.1 ∙ begun_lines S (take at lines) longer.0 place h

are_begun_later : (S : List Line) (lines more : List Outcome) (place : ℕ) (items : List Item) → are_begun S lines place items ≡ true → are_begun S (lines ++ more) place items ≡ true
are_begun_later S lines more place [] h = refl
are_begun_later S lines more place (item ∷ items) h =
    both (is_begun S (take item.at (lines ++ more)) place) (are_begun S (lines ++ more) (suc place) items)
    (begun_later S lines more item.at place (first_true (is_begun S (take item.at lines) place) (are_begun S lines (suc place) items) h))
    (are_begun_later S lines more (suc place) items (last_true (is_begun S (take item.at lines) place) (are_begun S lines (suc place) items) h))

are_over_later : (S : List Line) (lines more : List Outcome) (finishes : List ℕ) → are_over S lines finishes ≡ true → are_over S (lines ++ more) finishes ≡ true
are_over_later S lines more [] h = refl
are_over_later S lines more (at ∷ finishes) h =
    both (is_begun S (take at (lines ++ more)) (length S)) (are_over S (lines ++ more) finishes)
    (begun_later S lines more at (length S) (first_true (is_begun S (take at lines) (length S)) (are_over S lines finishes) h))
    (are_over_later S lines more finishes (last_true (is_begun S (take at lines) (length S)) (are_over S lines finishes) h))

once_append : (S : List Line) (before lines more : List Outcome) → AreAtOnce S before lines → AreAtOnce S (before ++ lines) more → AreAtOnce S before (lines ++ more)
once_append S before [] more h now = subst (λ (b : List Outcome). AreAtOnce S b more) (append-nil before) now
once_append S before (x ∷ lines) more h now = (h.0, once_append S (before ++ x ∷ []) lines more h.1 (subst (λ (b : List Outcome). AreAtOnce S b more) (sym (append_assoc before (x ∷ []) lines)) now))

-- lines that are at once
pub gives_lines : (script : List Line) (given : Given) (lines more : List Outcome) → AreAtOnce (without_steps script) lines more → Gives script given lines → Gives script given (lines ++ more)
gives_lines script given lines more now gives = record {
  items = gives.items;
  begun = are_begun_later (without_steps script) lines more 0 given.items gives.begun;
  over = are_over_later (without_steps script) lines more given.finishes gives.over;
  at_once = once_append (without_steps script) [] lines more gives.at_once now;
}

over_push : (S : List Line) (lines : List Outcome) (finishes : List ℕ) (at : ℕ) → are_over S lines finishes ≡ true → is_begun S (take at lines) (length S) ≡ true → are_over S lines (finishes ++ at ∷ []) ≡ true
over_push S lines [] at h now = both (is_begun S (take at lines) (length S)) true now refl
over_push S lines (x ∷ finishes) at h now =
    both (is_begun S (take x lines) (length S)) (are_over S lines (finishes ++ at ∷ []))
    (first_true (is_begun S (take x lines) (length S)) (are_over S lines finishes) h)
    (over_push S lines finishes at (last_true (is_begun S (take x lines) (length S)) (are_over S lines finishes) h) now)

pub gives_finish : (script : List Line) (given : Given) (lines : List Outcome) → is_begun script lines (length script) ≡ true → Gives script given lines → Gives script (with_finish given (length lines)) lines
gives_finish script given lines now gives = record {
  items = gives.items;
  begun = gives.begun;
  over = over_push (without_steps script) lines given.finishes (length lines) gives.over (ap (λ (l : List Outcome). is_begun (without_steps script) l (length (without_steps script))) (take-length lines) ∙ begun_steps script lines ∙ now);
  at_once = gives.at_once;
}
