-- What each event of the streams in the record tells of its call.
use Rattle.std.proofs.Common.{◌≡◌, ℕ, ◌+◌, min, Bool, true, false, not, List, [], ◌∷◌, ◌++◌, length, take, drop, Ok, Err, Vec, refl, sym, ◌∙◌, ap, subst, arith}
use Rattle.std.proofs.lemmas.List.{append-nil, take-append-drop, nil_from_length}
use Rattle.std.proofs.Math.Seq.{take-add}
use Rattle.std.specs.declared.alloc.Global.{Global}
use Rattle.zb_outside.specs.Meaning.{Meaning, IsMoment}
use Rattle.zb_outside.specs.Streams.{TakeTold, PutTold}
use Rattle.zb_devices.specs.Record.{PlatterState, step, stands, Flow, flowed, flows, standing}
use Rattle.zb_devices.specs.Memory.{told, IsKept, Noted, Same, Steady, FailsStream, meaning_of_device, streams_of_device, platter_of_device}
use Rattle.zb_devices.specs.declared.device.Counts.{Counts}
use Rattle.zb_devices.specs.declared.device.Event.{Event}
use Rattle.zb_devices.specs.declared.device.Event.TheVariants.{Took, Printed}
use Rattle.zb_devices.specs.declared.device.Device.{Device}
use Rattle.zb_devices.proofs.Called.{on, meaning_is, same_meaning, frozen_on, frozen_is}
use Rattle.zb_devices.proofs.Recorded.{flows_on, stands_on, during, remembers, spares_all, frozen_during, frozen_remembers}

-- nothing but counts has changed
steady_on : (script : List ℕ) (es : List Event) (e : Event) (works still_works : Bool) → (still_works ≡ true → works ≡ true) → ((q : ℕ) (s : PlatterState) → step q e s ≡ s) → ((f : Flow) → (flowed e f).taken ≡ f.taken) → ((f : Flow) → (flowed e f).printed ≡ f.printed)
    → Steady (told script es works) (told script (es ++ e ∷ []) still_works)
steady_on script es e works still_works on quiet taken printed = record {
  time = during script es e works still_works;
  remembers = remembers script es e works still_works on;
  spares = spares_all script es e (λ q. quiet q (stands es q));
  taken = ap (λ (f : Flow). take f.taken script) (flows_on es e) ∙ ap (λ (n : ℕ). take n script) (taken (flows es));
  printed = ap (λ (f : Flow). f.printed) (flows_on es e) ∙ printed (flows es);
}

-- a call of a stream failed, and was noted
pub fails_stream : (old new : Device) (e : Event) → Noted e old new → ((q : ℕ) (s : PlatterState) → step q e s ≡ s) → ((f : Flow) → (flowed e f).taken ≡ f.taken) → ((f : Flow) → (flowed e f).printed ≡ f.printed)
    → new.counts.faults ≡ old.counts.faults → new.counts.writes ≡ old.counts.writes → new.taken ≡ old.taken → FailsStream old new
fails_stream old new e n quiet taken printed faults writes still = record {
  steady = subst (λ (m : Meaning). Steady (meaning_of_device old) m) (sym (meaning_is old new n))
      (steady_on old.script.items old.events.items e (not old.is_frozen) (not new.is_frozen) (on old new n) quiet taken printed);
  left = λ i. drop (still i) (n.script i);
  faults = faults;
  writes = writes;
  states = λ p. ap (λ (l : List Event). stands l p) n.events ∙ stands_on old.events.items e p (quiet p (stands old.events.items p));
}

-- there was no memory to note it
pub steady_frozen : (old mid : Device) → Same old mid → Steady (meaning_of_device old) (told mid.script.items mid.events.items false)
steady_frozen old mid same = subst (λ (m : Meaning). Steady (meaning_of_device old) m) (sym (frozen_is old mid same)) (record {
  time = frozen_during old.script.items old.events.items (not old.is_frozen) false (frozen_on old mid same) (IsMoment (standing old.script.items old.events.items));
  remembers = frozen_remembers old.script.items old.events.items (not old.is_frozen) false (frozen_on old mid same);
  spares = record { seen = λ q. refl; may_leave = λ q image h. h; faults = λ q. refl; writes = λ q. refl };
  taken = refl;
  printed = refl;
})

-- a call failed after nothing had happened
pub stream_after : (old mid new : Device) → Same old mid → FailsStream mid new → FailsStream old new
stream_after old mid new same h = record {
  steady = subst (λ (x : Meaning). Steady x (meaning_of_device new)) (same_meaning old mid same) h.steady;
  left = h.left ∙ λ i. drop (same.taken i) (same.script i);
  faults = h.faults ∙ ap (λ (x : Counts). x.faults) same.counts;
  writes = h.writes ∙ ap (λ (x : Counts). x.writes) same.counts;
  states = λ p. h.states p ∙ ap (λ (l : List Event). stands l p) same.events;
}

-- what a failed take and a failed put tell
pub take_failed : {E : Type 0} (buf : List ℕ) (e : E) (old new : Device) → FailsStream old new → TakeTold buf (Err e) (streams_of_device old) (streams_of_device new) (meaning_of_device old) (meaning_of_device new)
take_failed buf e old new h = record {
  time = h.steady.time;
  remembers = h.steady.remembers;
  spares = h.steady.spares;
  taken = h.steady.taken;
  script = λ i. h.steady.taken i ++ h.left i;
  printed = h.steady.printed;
  ends = tt;
}

pub put_failed : {T E : Type 0} (bytes : List ℕ) (e : E) (old new : Device) → FailsStream old new → PutTold {T = T} bytes (Err e) (streams_of_device old) (streams_of_device new) (meaning_of_device old) (meaning_of_device new)
put_failed bytes e old new h = record {
  time = h.steady.time;
  remembers = h.steady.remembers;
  spares = h.steady.spares;
  printed = (0, h.steady.printed ∙ sym (append-nil (meaning_of_device old).now.printed));
  taken = h.steady.taken;
  left = h.left;
  recorded = tt;
}

-- n bytes were taken
pub took : {E : Type 0} (old new : Device) (n : ℕ) (buf : List ℕ) → IsKept old → IsKept new → Noted (Took n) old new → n ≡ min (length (drop old.taken old.script.items)) (length buf) → take n buf ≡ take n (drop old.taken old.script.items)
    → TakeTold {E = E} buf (Ok n) (streams_of_device old) (streams_of_device new) (meaning_of_device old) (meaning_of_device new)
took {E} old new n buf kept kept_new noted size copied =
    let es = old.events.items in
    let script = old.script.items in
    let t : ℕ = (flows es).taken in
    let was : old.taken ≡ t = kept.keeps.taken in
    let now : new.taken ≡ t + n = kept_new.keeps.taken ∙ ap (λ (l : List Event). (flows l).taken) noted.events ∙ ap (λ (f : Flow). f.taken) (flows_on es (Took n)) in
    let taken_is : take (flows (es ++ Took n ∷ [])).taken script ≡ take (t + n) script = ap (λ (f : Flow). take f.taken script) (flows_on es (Took n)) in
    subst (λ (m : Meaning). TakeTold {E = E} buf (Ok n) (streams_of_device old) (streams_of_device new) (meaning_of_device old) m) (sym (meaning_is old new noted)) (record {
      time = during script es (Took n) (not old.is_frozen) (not new.is_frozen);
      remembers = remembers script es (Took n) (not old.is_frozen) (not new.is_frozen) (on old new noted);
      spares = spares_all script es (Took n) (λ q. refl);
      taken = taken_is ∙ take-add t n script ∙ ap (λ (bytes : List ℕ). take t script ++ bytes) (ap (λ (k : ℕ). take n (drop k script)) (sym was) ∙ sym copied);
      script = (λ i. taken_is i ++ drop (now i) (noted.script i)) ∙ take-append-drop (t + n) script ∙ sym (take-append-drop t script) ∙ (λ i. take t script ++ drop (sym was i) script);
      printed = ap (λ (f : Flow). f.printed) (flows_on es (Took n));
      ends = λ room. (λ none. nil_from_length (drop old.taken script) (omega (arith, size)), λ at_end. omega (arith, size, ap length at_end));
    })

-- the bytes were printed
pub put : {T E : Type 0} (x : T) (old new : Device) (bytes : List ℕ) (copy : Vec ℕ Global) → copy.items ≡ bytes → Noted (Printed copy) old new → new.taken ≡ old.taken
    → PutTold {E = E} bytes (Ok x) (streams_of_device old) (streams_of_device new) (meaning_of_device old) (meaning_of_device new)
put {T} {E} x old new bytes copy copied noted still =
    let es = old.events.items in
    let script = old.script.items in
    subst (λ (m : Meaning). PutTold {E = E} bytes (Ok x) (streams_of_device old) (streams_of_device new) (meaning_of_device old) m) (sym (meaning_is old new noted)) (record {
      time = during script es (Printed copy) (not old.is_frozen) (not new.is_frozen);
      remembers = remembers script es (Printed copy) (not old.is_frozen) (not new.is_frozen) (on old new noted);
      spares = spares_all script es (Printed copy) (λ q. refl);
      printed = ap (λ (f : Flow). f.printed) (flows_on es (Printed copy)) ∙ ap (λ (xs : List ℕ). (flows es).printed ++ xs) copied;
      taken = ap (λ (f : Flow). take f.taken script) (flows_on es (Printed copy));
      left = λ i. drop (still i) (noted.script i);
      recorded = ap not noted.works;
    })

-- the platters after an event of the streams
pub same_states : (old new : Device) (e : Event) → Noted e old new → ((q : ℕ) (s : PlatterState) → step q e s ≡ s) → (p : ℕ) → platter_of_device new p ≡ platter_of_device old p
same_states old new e n quiet p = ap (λ (l : List Event). stands l p) n.events ∙ stands_on old.events.items e p (quiet p (stands old.events.items p))
