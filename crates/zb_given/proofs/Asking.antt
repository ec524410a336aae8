-- Which line of a script is asked for, by the lines of its subject.
use Rattle.std.proofs.Common.{◌≡◌, ℕ, zero, suc, ◌-◌, ◌<◌, Bool, true, false, cond, eqb, List, [], ◌∷◌, ◌++◌, length, Option, Some, None, refl, sym, ap, ◌∙◌, arith}
use Rattle.std.specs.Prelude.{map, filter, slice_get, get_or}
use Rattle.std.proofs.lemmas.Bool.Decides.{nat_tests}
use Rattle.std.proofs.lemmas.Option.{slice_get-get_or}
use Rattle.zb_types.specs.declared.calls.Call.{Call}
use Rattle.zb_types.specs.declared.nodes.Event.TheVariants.{Checkpoint as CheckpointOf}
use Rattle.zb_types.specs.declared.lines.Line.{Line}
use Rattle.zb_types.specs.declared.lines.Line.TheVariants.{Call as CallLine, Job as JobLine, Steps, StepTo, Event as EventLine}
use Rattle.zb_types.specs.declared.lines.Job.TheVariants.{Clean, Rebuild}
use Rattle.zb_claims.specs.Points.{Subject, calls, is_about, asked_from, asked, call_in, call_of}
use Rattle.zb_given.specs.Gives.{with_plus, about}

-- line `zero` is never asked for
pub asked_zero : (place : ℕ) (s : Subject) (script : List Line) → asked_from place s 0 script ≡ None
asked_zero place s [] = refl
asked_zero place s (line ∷ lines) = elim (is_about s line) as (λ b. cond b (asked_from (suc place) s 0 lines) (asked_from (suc place) s 0 lines) ≡ None) [ true ↦ asked_zero (suc place) s lines | false ↦ asked_zero (suc place) s lines ]

abbrev pub line_found : Option (ℕ × Line) → Option Line
line_found None = None
line_found (Some found) = Some found.1

-- one step of the search
pub asked_cons : (place : ℕ) (s : Subject) (n : ℕ) (line : Line) (lines : List Line)
    → asked_from place s (suc n) (line ∷ lines) ≡ cond (is_about s line) (cond (eqb n 0) (Some (place, line)) (asked_from (suc place) s n lines)) (asked_from (suc place) s (suc n) lines)
asked_cons place s n line lines =
    let one : eqb (suc n) 1 ≡ eqb n 0 = grind (arith, nat_tests) in
    let less : suc n - 1 ≡ n = omega arith in
    ap (λ (b : Bool). cond (is_about s line) (cond b (Some (place, line)) (asked_from (suc place) s (suc n - 1) lines)) (asked_from (suc place) s (suc n) lines)) one
    ∙ ap (λ (m : ℕ). cond (is_about s line) (cond (eqb n 0) (Some (place, line)) (asked_from (suc place) s m lines)) (asked_from (suc place) s (suc n) lines)) less

pub asked_about : (place : ℕ) (s : Subject) (n : ℕ) (script : List Line) → line_found (asked_from place s (suc n) script) ≡ slice_get (about s script) n
asked_about place s n [] = refl
asked_about place s n (line ∷ lines) =
    ap line_found (asked_cons place s n line lines)
    ∙ elim (is_about s line) as (λ b. line_found (cond b (cond (eqb n 0) (Some (place, line)) (asked_from (suc place) s n lines)) (asked_from (suc place) s (suc n) lines)) ≡ slice_get (cond b (line ∷ filter (is_about s) lines) (filter (is_about s) lines)) n) [
      | true ↦ at_line (λ m. asked_about (suc place) s m lines) n
      | false ↦ asked_about (suc place) s n lines
    ]
  where
    at_line : ((m : ℕ) → line_found (asked_from (suc place) s (suc m) lines) ≡ slice_get (filter (is_about s) lines) m) → (m : ℕ) → line_found (cond (eqb m 0) (Some (place, line)) (asked_from (suc place) s m lines)) ≡ slice_get (line ∷ filter (is_about s) lines) m
    at_line rec zero = refl
    at_line rec (suc m) = let not_first : eqb (suc m) 0 ≡ false = grind (arith, nat_tests) in ap (λ (b : Bool). line_found (cond b (Some (place, line)) (asked_from (suc place) s (suc m) lines))) not_first ∙ rec m

-- what is asked for is found, and what is found is asked for
pub is_in_about : (s : Subject) (n : ℕ) (script : List Line) (place : ℕ) (line : Line) → asked script s (suc n) ≡ Some (place, line) → slice_get (about s script) n ≡ Some line
is_in_about s n script place line is = sym (asked_about 0 s n script) ∙ ap line_found is

pub record Asks (script : List Line) (s : Subject) (n : ℕ) (line : Line) : Type 0 where
  pub place : ℕ
  pub is : asked script s n ≡ Some (place, line)

pub asks : (s : Subject) (n : ℕ) (script : List Line) (line : Line) → slice_get (about s script) n ≡ Some line → Asks script s (suc n) line
asks s n script line is = by_found (asked script s (suc n)) refl (asked_about 0 s n script ∙ is)
  where
    by_found : (o : Option (ℕ × Line)) → asked script s (suc n) ≡ o → line_found o ≡ Some line → Asks script s (suc n) line
    by_found None e f = absurd cc
    by_found (Some found) e f = let same : found.1 ≡ line = cc in record { place = found.0; is = e ∙ ap (λ (l : Line). Some (found.0, l)) same }

pub asked_some : (S : List Line) (s : Subject) (m : ℕ) → m < length (about s S) → (found : ℕ × Line) × (asked S s (suc m) ≡ Some found)
asked_some S s m lt =
    let a = asks s m S (get_or (about s S) m (EventLine CheckpointOf)) (slice_get-get_or (about s S) m (EventLine CheckpointOf) lt) in
    ((a.place, get_or (about s S) m (EventLine CheckpointOf)), a.is)

-- a script that goes on has the same line there
pub asked_more : (place : ℕ) (s : Subject) (n : ℕ) (script more : List Line) (found : ℕ × Line) → asked_from place s n script ≡ Some found → asked_from place s n (script ++ more) ≡ Some found
asked_more place s n [] more found is = absurd cc
asked_more place s n (line ∷ lines) more found is =
    elim (is_about s line) as (λ b. cond b (cond (eqb n 1) (Some (place, line)) (asked_from (suc place) s (n - 1) lines)) (asked_from (suc place) s n lines) ≡ Some found → cond b (cond (eqb n 1) (Some (place, line)) (asked_from (suc place) s (n - 1) (lines ++ more))) (asked_from (suc place) s n (lines ++ more)) ≡ Some found) [
      | true ↦ elim (eqb n 1) as (λ e. cond e (Some (place, line)) (asked_from (suc place) s (n - 1) lines) ≡ Some found → cond e (Some (place, line)) (asked_from (suc place) s (n - 1) (lines ++ more)) ≡ Some found) [
        | true ↦ λ h. h
        | false ↦ λ h. asked_more (suc place) s (n - 1) lines more found h
      ]
      | false ↦ λ h. asked_more (suc place) s n lines more found h
    ] is

-- The call of a line.

abbrev pub line_call : Option Line → Option Call
line_call None = None
line_call (Some (CallLine plus client call)) = Some call
line_call (Some (JobLine plus job)) = None
line_call (Some (Steps actor count)) = None
line_call (Some (StepTo actor kind)) = None
line_call (Some (EventLine event)) = None

call_found : (o : Option (ℕ × Line)) → call_in o ≡ line_call (line_found o)
call_found None = refl
call_found (Some (place, CallLine plus client call)) = refl
call_found (Some (place, JobLine plus job)) = refl
call_found (Some (place, Steps actor count)) = refl
call_found (Some (place, StepTo actor kind)) = refl
call_found (Some (place, EventLine event)) = refl

abbrev pub option_plus : Option Line → Option Line
option_plus None = None
option_plus (Some line) = Some (with_plus line)

call_plus : (o : Option Line) → line_call (option_plus o) ≡ line_call o
call_plus None = refl
call_plus (Some (CallLine plus client call)) = refl
call_plus (Some (JobLine plus job)) = refl
call_plus (Some (Steps actor count)) = refl
call_plus (Some (StepTo actor kind)) = refl
call_plus (Some (EventLine event)) = refl

pub get_plus : (xs : List Line) (n : ℕ) → slice_get (map with_plus xs) n ≡ option_plus (slice_get xs n)
get_plus [] n = refl
get_plus (x ∷ xs) zero = refl
get_plus (x ∷ xs) (suc n) = get_plus xs n

pub call_of_about : (script : List Line) (client n : ℕ) → call_of script client (suc n) ≡ line_call (slice_get (map with_plus (about (calls client) script)) n)
call_of_about script client n =
    call_found (asked script (calls client) (suc n)) ∙ ap line_call (asked_about 0 (calls client) n script) ∙ sym (call_plus (slice_get (about (calls client) script) n))
    ∙ ap line_call (sym (get_plus (about (calls client) script) n))

pub call_of_zero : (script : List Line) (client : ℕ) → call_of script client 0 ≡ None
call_of_zero script client = ap call_in (asked_zero 0 (calls client) script)

-- a line that is there a call is one
pub record IsCallLine (line : Line) (client : ℕ) (call : Call) : Type 0 where
  pub plus : Bool
  pub is : line ≡ CallLine plus client call

abbrev client_in : Line → ℕ
client_in (CallLine plus client call) = client
client_in (JobLine plus job) = 0
client_in (Steps actor count) = 0
client_in (StepTo actor kind) = 0
client_in (EventLine event) = 0

pub plus_call : (line : Line) (client : ℕ) (call : Call) → with_plus line ≡ CallLine true client call → IsCallLine line client call
plus_call (CallLine plus c d) client call is =
    let one : c ≡ client = ap client_in is in
    let two : Some d ≡ Some call = ap (λ (l : Line). line_call (Some l)) is in
    let same : d ≡ call = cc in
    record { plus = plus; is = ap (λ (x : ℕ). CallLine plus x d) one ∙ ap (CallLine plus client) same }
plus_call (JobLine plus job) client call is = absurd cc
plus_call (Steps actor count) client call is = absurd cc
plus_call (StepTo actor kind) client call is = absurd cc
plus_call (EventLine event) client call is = absurd cc

pub about_plus : (s : Subject) (line : Line) → is_about s (with_plus line) ≡ is_about s line
about_plus s (CallLine plus client call) = refl
about_plus s (JobLine plus Clean) = refl
about_plus s (JobLine plus (Rebuild server)) = refl
about_plus s (Steps actor count) = refl
about_plus s (StepTo actor kind) = refl
about_plus s (EventLine event) = refl

pub plus_twice : (line : Line) → with_plus (with_plus line) ≡ with_plus line
plus_twice (CallLine plus client call) = refl
plus_twice (JobLine plus job) = refl
plus_twice (Steps actor count) = refl
plus_twice (StepTo actor kind) = refl
plus_twice (EventLine event) = refl
