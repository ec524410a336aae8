-- The calls that lines answer with a reply: the updates, or the reads.
use Rattle.std.proofs.Common.{◌≡◌, ℕ, Bool, true, false, not, cond, List, [], ◌∷◌, ◌++◌, Option, Some, None, refl, sym, ap, subst, ◌∙◌, arith, inl, inr}
use Rattle.std.specs.Prelude.{◌↔◌}
use Rattle.std.specs.List.{flat_map, AllByRecursion, Contains}
use Rattle.std.proofs.lemmas.List.Elements.{All-from_recursion, All-contains, Contains-append_left, Contains-append_right, Contains-append_cases, Contains-push, Contains-push_cases}
use Rattle.zb_types.specs.declared.calls.Call.{Call}
use Rattle.zb_types.specs.declared.calls.Reply.{Reply}
use Rattle.zb_types.specs.declared.history.Did.{Did}
use Rattle.zb_types.specs.declared.lines.Line.{Line}
use Rattle.zb_types.specs.declared.lines.Said.TheVariants.{Reply as Replied, Buffered, Kept, Failed, Dropped, Unfinished}
use Rattle.zb_types.specs.declared.lines.Outcome.{Outcome}
use Rattle.zb_types.specs.declared.lines.Outcome.TheVariants.{Call as OfCall, Clean as OfClean, Rebuild as OfRebuild, Event as OfEvent}
use Rattle.zb_types.specs.Apply.{is_update}
use Rattle.zb_claims.specs.Points.{call_of, did_if, did_of, dids}
use Rattle.zb_laws.specs.Histories.{read_if, read_of, reads, IsAnswered}
use Rattle.zb_laws.proofs.Each.{each_append}

-- an update, or a read
abbrev pub is_kind : Bool → Call → Bool
is_kind true call = is_update call
is_kind false call = not (is_update call)

kind_is : (u : Bool) (call : Call) → is_kind u call ≡ true → is_update call ≡ u
kind_is true call h = h
kind_is false call h = elim (is_update call) as (λ b. not b ≡ true → b ≡ false) [ true ↦ λ e. absurd cc | false ↦ λ e. refl ] h

is_of_kind : (u : Bool) (call : Call) → is_update call ≡ u → is_kind u call ≡ true
is_of_kind true call h = h
is_of_kind false call h = ap not h

abbrev pub pick_if : Bool → ℕ → ℕ → Reply → Option Call → List Did
pick_if u client n reply None = []
pick_if u client n reply (Some call) = cond (is_kind u call) (record { client = client; number = n; call = call; reply = reply } ∷ []) []

abbrev pub pick_of : Bool → List Line → Outcome → List Did
pick_of u script (OfCall client n (Replied reply)) = pick_if u client n reply (call_of script client n)
pick_of u script line = []

abbrev pub picked : Bool → List Line → List Outcome → List Did
picked u script lines = flat_map (pick_of u script) lines

-- what holds where a line answers nothing, and where it has a reply, holds of each line
pub at_pick : (P : Outcome → List Did → Type 0) (u : Bool) (script : List Line) → ((line : Outcome) → P line []) → ((client n : ℕ) (reply : Reply) → P (OfCall client n (Replied reply)) (pick_if u client n reply (call_of script client n))) → (line : Outcome) → P line (pick_of u script line)
at_pick P u script none some (OfCall client n (Replied reply)) = some client n reply
at_pick P u script none some (OfCall client n Buffered) = none (OfCall client n Buffered)
at_pick P u script none some (OfCall client n (Kept cause)) = none (OfCall client n (Kept cause))
at_pick P u script none some (OfCall client n (Failed cause)) = none (OfCall client n (Failed cause))
at_pick P u script none some (OfCall client n Dropped) = none (OfCall client n Dropped)
at_pick P u script none some (OfCall client n (Unfinished cause)) = none (OfCall client n (Unfinished cause))
at_pick P u script none some (OfClean pass) = none (OfClean pass)
at_pick P u script none some (OfRebuild server end) = none (OfRebuild server end)
at_pick P u script none some (OfEvent event answer) = none (OfEvent event answer)

-- a call of this kind gives its answer, and one of the other gives none
pub pick_some : (P : List Did → Type 0) (u : Bool) (client n : ℕ) (reply : Reply) (call : Call) → (is_update call ≡ u → P (record { client = client; number = n; call = call; reply = reply } ∷ [])) → P [] → P (pick_if u client n reply (Some call))
pick_some P u client n reply call some none =
    elim (is_kind u call) as (λ b. is_kind u call ≡ b → P (cond b (record { client = client; number = n; call = call; reply = reply } ∷ []) [])) [
      | true ↦ λ e. some (kind_is u call e)
      | false ↦ λ e. none
    ] refl

if_update : (client n : ℕ) (reply : Reply) (o : Option Call) → pick_if true client n reply o ≡ did_if client n reply o
if_update client n reply None = refl
if_update client n reply (Some call) = refl

if_read : (client n : ℕ) (reply : Reply) (o : Option Call) → pick_if false client n reply o ≡ read_if client n reply o
if_read client n reply None = refl
if_read client n reply (Some call) =
    let did : Did = record { client = client; number = n; call = call; reply = reply } in
    elim (is_update call) as (λ b. cond (not b) (did ∷ []) [] ≡ cond b [] (did ∷ [])) [ true ↦ refl | false ↦ refl ]

of_update : (script : List Line) (line : Outcome) → pick_of true script line ≡ did_of script line
of_update script (OfCall client n (Replied reply)) = if_update client n reply (call_of script client n)
of_update script (OfCall client n Buffered) = refl
of_update script (OfCall client n (Kept cause)) = refl
of_update script (OfCall client n (Failed cause)) = refl
of_update script (OfCall client n Dropped) = refl
of_update script (OfCall client n (Unfinished cause)) = refl
of_update script (OfClean pass) = refl
of_update script (OfRebuild server end) = refl
of_update script (OfEvent event answer) = refl

of_read : (script : List Line) (line : Outcome) → pick_of false script line ≡ read_of script line
of_read script (OfCall client n (Replied reply)) = if_read client n reply (call_of script client n)
of_read script (OfCall client n Buffered) = refl
of_read script (OfCall client n (Kept cause)) = refl
of_read script (OfCall client n (Failed cause)) = refl
of_read script (OfCall client n Dropped) = refl
of_read script (OfCall client n (Unfinished cause)) = refl
of_read script (OfClean pass) = refl
of_read script (OfRebuild server end) = refl
of_read script (OfEvent event answer) = refl

pub picked-updates : (script : List Line) (lines : List Outcome) → picked true script lines ≡ dids script lines
picked-updates script [] = refl
picked-updates script (line ∷ lines) = ap (λ (l : List Did). l ++ picked true script lines) (of_update script line) ∙ ap (λ (l : List Did). did_of script line ++ l) (picked-updates script lines)

pub picked-reads : (script : List Line) (lines : List Outcome) → picked false script lines ≡ reads script lines
picked-reads script [] = refl
picked-reads script (line ∷ lines) = ap (λ (l : List Did). l ++ picked false script lines) (of_read script line) ∙ ap (λ (l : List Did). read_of script line ++ l) (picked-reads script lines)

-- They are just the answered calls of their kind.

pub record IsPicked (u : Bool) (script : List Line) (lines : List Outcome) (did : Did) : Type 0 where
  pub answered : IsAnswered script lines did
  pub kind : is_update did.call ≡ u

if_picked : (u : Bool) (script : List Line) (all : List Outcome) (client n : ℕ) (reply : Reply) (o : Option Call) → call_of script client n ≡ o → Contains all (OfCall client n (Replied reply)) → AllByRecursion (IsPicked u script all) (pick_if u client n reply o)
if_picked u script all client n reply None is has = tt
if_picked u script all client n reply (Some call) is has = pick_some (AllByRecursion (IsPicked u script all)) u client n reply call (λ k. (record { answered = record { call = is; line = has }; kind = k }, tt)) tt

of_picked : (u : Bool) (script : List Line) (all : List Outcome) (line : Outcome) → Contains all line → AllByRecursion (IsPicked u script all) (pick_of u script line)
of_picked u script all line has =
    at_pick (λ l ds. Contains all l → AllByRecursion (IsPicked u script all) ds) u script (λ _ _. tt) (λ client n reply h. if_picked u script all client n reply (call_of script client n) refl h) line has

all_picked : (u : Bool) (script : List Line) (all lines : List Outcome) → ((x : Outcome) → Contains lines x → Contains all x) → AllByRecursion (IsPicked u script all) (picked u script lines)
all_picked u script all [] within = tt
all_picked u script all (line ∷ lines) within =
    each_append (IsPicked u script all) (pick_of u script line) (picked u script lines)
    (of_picked u script all line (within line (Contains-append_left (line ∷ []) lines line (Contains-push [] line))))
    (all_picked u script all lines (λ x has. within x (Contains-append_right (line ∷ []) lines x has)))

pub are_picked : (u : Bool) (script : List Line) (lines : List Outcome) → AllByRecursion (IsPicked u script lines) (picked u script lines)
are_picked u script lines = all_picked u script lines lines (λ x has. has)

-- a call with a reply line is there
here : (u : Bool) (script : List Line) (did : Did) → call_of script did.client did.number ≡ Some did.call → is_update did.call ≡ u → Contains (pick_if u did.client did.number did.reply (call_of script did.client did.number)) did
here u script did is kind =
    let some : pick_if u did.client did.number did.reply (call_of script did.client did.number) ≡ did ∷ [] = ap (pick_if u did.client did.number did.reply) is ∙ ap (λ (b : Bool). cond b (did ∷ []) []) (is_of_kind u did.call kind) in
    subst (λ (l : List Did). Contains l did) (sym some) (Contains-push [] did)

none_there : {X C : Type 0} (x : X) → Contains [] x → C
none_there x h = absurd (omega (arith, h.1))

there : (u : Bool) (script : List Line) (lines : List Outcome) (did : Did) → call_of script did.client did.number ≡ Some did.call → is_update did.call ≡ u → Contains lines (OfCall did.client did.number (Replied did.reply)) → Contains (picked u script lines) did
there u script [] did is kind has = none_there (OfCall did.client did.number (Replied did.reply)) has
there u script (line ∷ lines) did is kind has =
    let told : Outcome = OfCall did.client did.number (Replied did.reply) in
    elim (Contains-append_cases (line ∷ []) lines told has) as (λ _. Contains (picked u script (line ∷ lines)) did) [
      | inl first ↦ elim (Contains-push_cases [] line told first) as (λ _. Contains (picked u script (line ∷ lines)) did) [
        | inl none ↦ none_there told none
        | inr same ↦ Contains-append_left (pick_of u script line) (picked u script lines) did (subst (λ (l : Outcome). Contains (pick_of u script l) did) (sym same) (here u script did is kind))
      ]
      | inr later ↦ Contains-append_right (pick_of u script line) (picked u script lines) did (there u script lines did is kind later)
    ]

pub exact : (u : Bool) (script : List Line) (lines : List Outcome) (did : Did) → Contains (picked u script lines) did ↔ (IsAnswered script lines did × (is_update did.call ≡ u))
exact u script lines did = (
  λ has. let p = All-contains (IsPicked u script lines) (picked u script lines) did (All-from_recursion (IsPicked u script lines) (picked u script lines) (are_picked u script lines)) has in (p.answered, p.kind),
  λ h. there u script lines did h.0.call h.1 h.0.line,
)
