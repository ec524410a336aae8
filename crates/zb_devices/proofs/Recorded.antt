-- One event more in the record of an outside in memory.
use Rattle.std.proofs.Common.{◌≡◌, ◌≢◌, ◌⊎◌, inl, inr, ℕ, ◌+◌, ◌≤◌, ◌==◌, Bool, true, false, if◌then◌else◌, List, [], ◌∷◌, ◌++◌, length, take, refl, sym, ◌∙◌, ap, subst, arith, length-append}
use Rattle.std.proofs.lemmas.List.{take-append-le}
use Rattle.std.proofs.lemmas.Bool.{cases_eq, cases_lt}
use Rattle.std.proofs.lemmas.Bool.Decides.{nat_tests}
use Rattle.zb_outside.specs.Meaning.{Moment, Standing, IsMoment, During, Remembers}
use Rattle.zb_outside.specs.Runs.{Spares, Ticks, AtPlatter}
use Rattle.zb_outside.specs.Streams.{SparesAll}
use Rattle.zb_outside.proofs.Time.{weaker, spares_same}
use Rattle.zb_outside.proofs.Runs.{at_now}
use Rattle.zb_devices.specs.Record.{PlatterState, fresh, changed, step, after, stands, Flow, still, flowed, flow_after, flows, MayLeave, standing, stood, Since}
use Rattle.zb_devices.specs.Memory.{told, last_stood}
use Rattle.zb_devices.specs.declared.device.Change.{Change}
use Rattle.zb_devices.specs.declared.device.Change.TheVariants.{Wrote, Synced, Restarted, Blanked, Fault, WriteFault}
use Rattle.zb_devices.specs.declared.device.Event.{Event}
use Rattle.zb_devices.specs.declared.device.Event.TheVariants.{At}

after_push : (p : ℕ) (es : List Event) (e : Event) (s : PlatterState) → after p (es ++ e ∷ []) s ≡ step p e (after p es s)
after_push p [] e s = refl
after_push p (d ∷ es) e s = after_push p es e (step p d s)

flow_push : (es : List Event) (e : Event) (f : Flow) → flow_after (es ++ e ∷ []) f ≡ flowed e (flow_after es f)
flow_push [] e f = refl
flow_push (d ∷ es) e f = flow_push es e (flowed d f)

pub flows_on : (es : List Event) (e : Event) → flows (es ++ e ∷ []) ≡ flowed e (flows es)
flows_on es e = flow_push es e still

pub stands_here : (es : List Event) (p : ℕ) (x : Change) → stands (es ++ At p x ∷ []) p ≡ changed x (stands es p)
stands_here es p x =
    let yes : (p == p) ≡ true = grind (arith, nat_tests) in
    after_push p es (At p x) fresh ∙ ap (λ (b : Bool). if b then changed x (stands es p) else stands es p) yes

pub stands_there : (es : List Event) (p : ℕ) (x : Change) (q : ℕ) → q ≢ p → stands (es ++ At p x ∷ []) q ≡ stands es q
stands_there es p x q ne =
    let no : (p == q) ≡ false = grind (arith, nat_tests) in
    after_push q es (At p x) fresh ∙ ap (λ (b : Bool). if b then changed x (stands es q) else stands es q) no

-- an event of the streams changes no platter
pub stands_on : (es : List Event) (e : Event) (q : ℕ) → step q e (stands es q) ≡ stands es q → stands (es ++ e ∷ []) q ≡ stands es q
stands_on es e q same = after_push q es e fresh ∙ same

module _ (script : List ℕ) (es : List Event) (e : Event) (works still_works : Bool) where
  longer : length (es ++ e ∷ []) ≡ length es + 1
  longer = omega (arith, length-append es (e ∷ []))

  stood_same : (k : ℕ) → k ≤ length es → stood script (es ++ e ∷ []) k ≡ stood script es k
  stood_same k le = ap (standing script) (take-append-le k es (e ∷ []) le)

  earlier : (t : ℕ) (m : Moment) → t ≤ length es → Since script (es ++ e ∷ []) t m → Since script es t m ⊎ IsMoment (standing script (es ++ e ∷ [])) m
  earlier t m le past = elim (cases_lt (length es) past.0) [
    | inl lt ↦ inr (last_stood script (es ++ e ∷ []) past.0 m (omega (arith, longer)) past.3)
    | inr ge ↦ inl (past.0, past.1, ge, subst (λ (s : Standing). IsMoment s m) (stood_same past.0 ge) past.3)
  ]

  kept : (t : ℕ) (m : Moment) → t ≤ length es → Since script es t m → Since script (es ++ e ∷ []) t m
  kept t m le past = (past.0, past.1, omega (arith, past.2, longer), subst (λ (s : Standing). IsMoment s m) (sym (stood_same past.0 past.2)) past.3)

  pub during : During (IsMoment (standing script (es ++ e ∷ []))) (told script es works) (told script (es ++ e ∷ []) still_works)
  during = record { later = omega (arith, longer); no_other = earlier }

  pub remembers : (still_works ≡ true → works ≡ true) → Remembers (told script es works) (told script (es ++ e ∷ []) still_works)
  remembers on = record { kept = kept; recording = on }

faults_rise : (x : Change) (s : PlatterState) → s.faults ≤ (changed x s).faults
faults_rise (Wrote at bytes) s = omega arith
faults_rise Synced s = omega arith
faults_rise (Restarted choice) s = omega arith
faults_rise Blanked s = omega arith
faults_rise Fault s = omega arith
faults_rise (WriteFault at n) s = omega arith

writes_rise : (x : Change) (s : PlatterState) → s.writes ≤ (changed x s).writes
writes_rise (Wrote at bytes) s = omega arith
writes_rise Synced s = omega arith
writes_rise (Restarted choice) s = omega arith
writes_rise Blanked s = omega arith
writes_rise Fault s = omega arith
writes_rise (WriteFault at n) s = omega arith

-- what an event at a platter leaves of the rest
module _ (script : List ℕ) (es : List Event) (p : ℕ) (x : Change) (works still_works : Bool) (on : still_works ≡ true → works ≡ true) where
  there : (q : ℕ) → q ≢ p → stands (es ++ At p x ∷ []) q ≡ stands es q
  there q ne = stands_there es p x q ne

  same_flow : flows (es ++ At p x ∷ []) ≡ flows es
  same_flow = flows_on es (At p x)

  more_faults : (q : ℕ) → q ≡ p → (stands es q).faults ≤ (stands (es ++ At p x ∷ []) q).faults
  more_faults q is = subst (λ (k : ℕ). (stands es k).faults ≤ (stands (es ++ At p x ∷ []) k).faults) (sym is)
      (omega (arith, ap (λ (s : PlatterState). s.faults) (stands_here es p x), faults_rise x (stands es p)))

  more_writes : (q : ℕ) → q ≡ p → (stands es q).writes ≤ (stands (es ++ At p x ∷ []) q).writes
  more_writes q is = subst (λ (k : ℕ). (stands es k).writes ≤ (stands (es ++ At p x ∷ []) k).writes) (sym is)
      (omega (arith, ap (λ (s : PlatterState). s.writes) (stands_here es p x), writes_rise x (stands es p)))

  pub spares : Spares p (standing script es) (standing script (es ++ At p x ∷ []))
  spares = record {
    seen = λ q ne. ap (λ (s : PlatterState). s.seen) (there q ne);
    may_leave = λ q ne image h. subst (λ (s : PlatterState). MayLeave s image) (there q ne) h;
    taken = ap (λ (f : Flow). take f.taken script) same_flow;
    printed = ap (λ (f : Flow). f.printed) same_flow;
    faults = λ q ne. ap (λ (s : PlatterState). s.faults) (there q ne);
    rises = λ q. elim (cases_eq q p) [
      | inl is ↦ more_faults q is
      | inr ne ↦ omega (arith, ap (λ (s : PlatterState). s.faults) (there q ne))
    ];
    writes = λ q ne. ap (λ (s : PlatterState). s.writes) (there q ne);
    counts = λ q. elim (cases_eq q p) [
      | inl is ↦ more_writes q is
      | inr ne ↦ omega (arith, ap (λ (s : PlatterState). s.writes) (there q ne))
    ];
    read_faults = ap (λ (f : Flow). f.read_faults) same_flow;
    write_faults = ap (λ (f : Flow). f.write_faults) same_flow;
  }

  pub ticks : Ticks p (told script es works) (told script (es ++ At p x ∷ []) still_works)
  ticks = record { time = weaker (at_now spares (λ image h. h)) (during script es (At p x) works still_works); remembers = remembers script es (At p x) works still_works on; spares = spares; here = λ image h. h }

-- what an event of the streams leaves of the platters
pub spares_all : (script : List ℕ) (es : List Event) (e : Event) → ((q : ℕ) → step q e (stands es q) ≡ stands es q) → SparesAll (standing script es) (standing script (es ++ e ∷ []))
spares_all script es e same = record {
  seen = λ q. ap (λ (s : PlatterState). s.seen) (stands_on es e q (same q));
  may_leave = λ q image h. subst (λ (s : PlatterState). MayLeave s image) (stands_on es e q (same q)) h;
  faults = λ q. ap (λ (s : PlatterState). s.faults) (stands_on es e q (same q));
  writes = λ q. ap (λ (s : PlatterState). s.writes) (stands_on es e q (same q));
}

-- There is no memory left for the record: nothing is noted, and all stands as before.
module _ (script : List ℕ) (es : List Event) (works still_works : Bool) (on : still_works ≡ true → works ≡ true) where
  pub frozen_during : (P : Moment → Type 0) → During P (told script es works) (told script es still_works)
  frozen_during P = record { later = omega arith; no_other = λ t m le h. inl h }

  pub frozen_remembers : Remembers (told script es works) (told script es still_works)
  frozen_remembers = record { kept = λ t m le h. h; recording = on }

  pub frozen_ticks : (p : ℕ) → Ticks p (told script es works) (told script es still_works)
  frozen_ticks p = record { time = frozen_during (AtPlatter p (MayLeave (stands es p)) (standing script es)); remembers = frozen_remembers; spares = spares_same p (standing script es); here = λ image h. h }
