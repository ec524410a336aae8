-- Crashes of the file manager, and calls that were given before them.
use Rattle.std.proofs.Common.{◌≡◌, ℕ, suc, ◌+◌, ◌≤◌, Bool, true, false, cond, ◌&&◌, ◌||◌, eqb, List, [], ◌∷◌, ◌++◌, length, take, refl, ap, ◌∙◌, arith}
use Rattle.std.specs.Prelude.{filter, nat_lt}
use Rattle.std.specs.List.{list_any}
use Rattle.std.proofs.lemmas.Bool.Decides.{nat_tests}
use Rattle.zb_types.specs.declared.nodes.Node.TheVariants.{Manager}
use Rattle.zb_types.specs.declared.nodes.EventAnswer.TheVariants.{Done as EventDone, Down as IsDown, ManagerDown, Up as IsUp, Blank, Out, Another, Unreachable as CantReach, Stopped}
use Rattle.zb_types.specs.declared.lines.Told.TheVariants.{Crash, Arm, Up, Lose, Checkpoint}
use Rattle.zb_types.specs.declared.lines.Outcome.{Outcome}
use Rattle.zb_types.specs.declared.lines.Outcome.TheVariants.{Call as OfCall, Clean as OfClean, Rebuild as OfRebuild, Event as OfEvent}
use Rattle.zb_claims.specs.Points.{Subject, crashes, ups, asked_of, told_of, same_subject, subject_of, is_event, crash_from}
use Rattle.zb_laws.proofs.Tests.{or_right, first_false, last_false}
use Rattle.zb_given.specs.Stays.{NoCrash, CallLeaves, CrashIsLater}

up_is_no_crash : (line : Outcome) → is_event (ups Manager) line ≡ true → same_subject (crashes Manager) (subject_of line) ≡ false
up_is_no_crash (OfCall client n said) h = refl
up_is_no_crash (OfClean pass) h = refl
up_is_no_crash (OfRebuild server end) h = refl
up_is_no_crash (OfEvent (Crash node) EventDone) h = absurd cc
up_is_no_crash (OfEvent (Crash node) (IsDown other)) h = absurd cc
up_is_no_crash (OfEvent (Crash node) ManagerDown) h = absurd cc
up_is_no_crash (OfEvent (Crash node) (IsUp other)) h = absurd cc
up_is_no_crash (OfEvent (Crash node) (Blank server)) h = absurd cc
up_is_no_crash (OfEvent (Crash node) (Out server)) h = absurd cc
up_is_no_crash (OfEvent (Crash node) (Another server)) h = absurd cc
up_is_no_crash (OfEvent (Crash node) (CantReach a b)) h = absurd cc
up_is_no_crash (OfEvent (Crash node) (Stopped other)) h = absurd cc
up_is_no_crash (OfEvent (Arm node) answer) h = refl
up_is_no_crash (OfEvent (Up node) answer) h = refl
up_is_no_crash (OfEvent (Lose server) answer) h = refl
up_is_no_crash (OfEvent Checkpoint answer) h = refl

told_cons : (s : Subject) (x : Outcome) (xs : List Outcome) → told_of s (x ∷ xs) ≡ cond (same_subject s (subject_of x)) (suc (told_of s xs)) (told_of s xs)
told_cons s x xs = elim (same_subject s (subject_of x)) as (λ b. length (cond b (x ∷ filter (λ line. same_subject s (subject_of line)) xs) (filter (λ line. same_subject s (subject_of line)) xs)) ≡ cond b (suc (told_of s xs)) (told_of s xs)) [ true ↦ refl | false ↦ refl ]

-- one line further
abbrev crash_step : Bool → Bool → Bool → ℕ → ℕ → ℕ
crash_step up crash done n at = cond up 0 (cond crash (cond done (suc n) at) at)

abbrev crash_next : ℕ → ℕ → Outcome → ℕ
crash_next n at line = crash_step (is_event (ups Manager) line) (same_subject (crashes Manager) (subject_of line)) (is_event (crashes Manager) line && eqb at 0) n at

crash_push : (n at : ℕ) (lines : List Outcome) (line : Outcome) → crash_from n at (lines ++ line ∷ []) ≡ crash_next (n + told_of (crashes Manager) lines) (crash_from n at lines) line
crash_push n at [] line =
    let here : n ≡ n + 0 = omega arith in
    ap (λ (k : ℕ). crash_next k at line) here
crash_push n at (x ∷ lines) line = by_tests (is_event (ups Manager) x) (same_subject (crashes Manager) (subject_of x)) refl refl (crash_push n 0 lines line) (crash_push (suc n) (cond (is_event (crashes Manager) x && eqb at 0) (suc n) at) lines line) (crash_push n at lines line)
  where
    by_tests : (up crash : Bool) → is_event (ups Manager) x ≡ up → same_subject (crashes Manager) (subject_of x) ≡ crash
        → crash_from n 0 (lines ++ line ∷ []) ≡ crash_next (n + told_of (crashes Manager) lines) (crash_from n 0 lines) line
        → crash_from (suc n) (cond (is_event (crashes Manager) x && eqb at 0) (suc n) at) (lines ++ line ∷ []) ≡ crash_next (suc n + told_of (crashes Manager) lines) (crash_from (suc n) (cond (is_event (crashes Manager) x && eqb at 0) (suc n) at) lines) line
        → crash_from n at (lines ++ line ∷ []) ≡ crash_next (n + told_of (crashes Manager) lines) (crash_from n at lines) line
        → crash_from n at (x ∷ lines ++ line ∷ []) ≡ crash_next (n + told_of (crashes Manager) (x ∷ lines)) (crash_from n at (x ∷ lines)) line
    by_tests true crash is_up is_crash a b c = rw (is_up, up_is_no_crash x is_up) a
    by_tests false true is_up is_crash a b c =
        let on_one : suc n + told_of (crashes Manager) lines ≡ n + suc (told_of (crashes Manager) lines) = omega arith in
        rw (is_up, is_crash) (b ∙ ap (λ (k : ℕ). crash_next k (crash_from (suc n) (cond (is_event (crashes Manager) x && eqb at 0) (suc n) at) lines) line) on_one)
    by_tests false false is_up is_crash a b c = rw (is_up, is_crash) c

later_by : (up crash done : Bool) (r t few : ℕ) → few ≤ t → (eqb r 0 || nat_lt few r) ≡ true → (eqb (crash_step up crash done t r) 0 || nat_lt few (crash_step up crash done t r)) ≡ true
later_by true crash done r t few le h = refl
later_by false true true r t few le h = or_right (eqb (suc t) 0) (nat_lt few (suc t)) (grind (arith, nat_tests))
later_by false true false r t few le h = h
later_by false false done r t few le h = h

pub crash_is_later : CrashIsLater
crash_is_later script lines line place few before =
    ap (λ (k : ℕ). eqb k 0 || nat_lt (asked_of (crashes Manager) (take place script)) k) (crash_push 0 0 lines line)
    ∙ later_by (is_event (ups Manager) line) (same_subject (crashes Manager) (subject_of line)) (is_event (crashes Manager) line && eqb (crash_from 0 0 lines) 0) (crash_from 0 0 lines) (0 + told_of (crashes Manager) lines) (asked_of (crashes Manager) (take place script)) (omega (arith, few)) before

-- where it never crashed it isn't down

never_down : (n : ℕ) (lines : List Outcome) → list_any (is_event (crashes Manager)) lines ≡ false → crash_from n 0 lines ≡ 0
never_down n [] h = refl
never_down n (line ∷ lines) h =
    let rest : list_any (is_event (crashes Manager)) lines ≡ false = last_false (is_event (crashes Manager) line) (list_any (is_event (crashes Manager)) lines) h in
    by_tests (is_event (ups Manager) line) (same_subject (crashes Manager) (subject_of line)) (is_event (crashes Manager) line) (first_false (is_event (crashes Manager) line) (list_any (is_event (crashes Manager)) lines) h)
    (never_down n lines rest) (never_down (suc n) lines rest)
  where
    by_tests : (up crash done : Bool) → done ≡ false → crash_from n 0 lines ≡ 0 → crash_from (suc n) 0 lines ≡ 0
        → cond up (crash_from n 0 lines) (cond crash (crash_from (suc n) (cond (done && true) (suc n) 0) lines) (crash_from n 0 lines)) ≡ 0
    by_tests true crash done not_done a b = a
    by_tests false true true not_done a b = absurd cc
    by_tests false true false not_done a b = b
    by_tests false false done not_done a b = a

pub no_crash : NoCrash
no_crash script lines place none = ap (λ (k : ℕ). eqb k 0 || nat_lt (asked_of (crashes Manager) (take place script)) k) (never_down 0 lines none)

-- a line of a call is none of a crash
pub call_leaves_crashes : CallLeaves
call_leaves_crashes script lines client n said place = ap (λ (k : ℕ). eqb k 0 || nat_lt (asked_of (crashes Manager) (take place script)) k) (crash_push 0 0 lines (OfCall client n said))
