-- How runs of calls go on.
use Rattle.std.proofs.Common.{inl, inr, ⊎_elim, ℕ, ◌≤◌, refl, arith}
use Rattle.zb_outside.specs.Meaning.{Moment, Standing, IsMoment, Meaning, During, Remembers}
use Rattle.zb_outside.specs.Runs.{Ticks, AtPlatter, Spares}

-- nothing has happened
pub still : (P : Moment → Type 0) (w : Meaning) → During P w w
still P w = record { later = omega arith; no_other = λ t m le left. inl left }

-- one run after another
pub then : {P : Moment → Type 0} {a b c : Meaning} → During P a b → During P b c → During P a c
then {P} {a} {b} {c} first second = record {
  later = omega (arith, first.later, second.later);
  no_other = λ t m le left. ⊎_elim (first.no_other t m le) (λ h. inr h) (second.no_other t m (omega (arith, le, first.later)) left);
}

pub weaker : {P Q : Moment → Type 0} {a b : Meaning} → ((m : Moment) → P m → Q m) → During P a b → During Q a b
weaker {P} {Q} {a} {b} f run = record {
  later = run.later;
  no_other = λ t m le left. ⊎_elim (λ h. inl h) (λ h. inr (f m h)) (run.no_other t m le left);
}

-- each moment since the start has P, if the start has it
pub each : {P : Moment → Type 0} {a b : Meaning} → ((m : Moment) → IsMoment a.now m → P m) → During P a b → (m : Moment) → b.since a.clock m → P m
each {P} {a} {b} at_start run m left = ⊎_elim (λ h. at_start m (a.only_now m h)) (λ h. h) (run.no_other a.clock m (omega arith) left)

pub spares_same : (p : ℕ) (s : Standing) → Spares p s s
spares_same p s = record {
  seen = λ q ne. refl;
  may_leave = λ q ne c h. h;
  taken = refl;
  printed = refl;
  faults = λ q ne. refl;
  rises = λ q. omega arith;
  writes = λ q ne. refl;
  counts = λ q. omega arith;
  read_faults = refl;
  write_faults = refl;
}

pub forgets_none : (w : Meaning) → Remembers w w
forgets_none w = record { kept = λ t m le h. h; recording = λ h. h }

pub remembers_then : {a b c : Meaning} → a.clock ≤ b.clock → Remembers a b → Remembers b c → Remembers a c
remembers_then {a} {b} {c} later f g = record {
  kept = λ t m le h. g.kept t m (omega (arith, le, later)) (f.kept t m le h);
  recording = λ h. f.recording (g.recording h);
}

pub ticks_same : (p : ℕ) (w : Meaning) → Ticks p w w
ticks_same p w = record { time = still (AtPlatter p (w.now.may_leave p) w.now) w; remembers = forgets_none w; spares = spares_same p w.now; here = λ c h. h }
