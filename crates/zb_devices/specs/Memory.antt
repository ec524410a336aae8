-- What an outside in memory means, by its record, and what it keeps.
use Rattle.std.specs.Prelude.{◌≡◌, ℕ, ◌<◌, ◌≤◌, Bool, true, false, not, List, [], ◌∷◌, ◌++◌, length, drop, Result, slice_index, slice_index_or}
use Rattle.std.proofs.Common.{refl, sym, subst, arith}
use Rattle.std.proofs.lemmas.List.{take_all}
use Rattle.zb_outside.specs.Meaning.{Moment, IsMoment, Meaning, During, Remembers}
use Rattle.zb_outside.specs.Ranges.{Torn}
use Rattle.zb_outside.specs.Runs.{Ticks}
use Rattle.zb_outside.specs.Counts.{Counts, AreExact, raised, at_last}
use Rattle.zb_outside.specs.Streams.{Streams, AreCounted, SparesAll}
use Rattle.zb_devices.specs.Answers.{Answers, Refuses, StreamAnswers}
use Rattle.zb_devices.specs.Record.{PlatterState, fresh, stands, flows, standing, stood, Since, Tally, IsTallied}
use Rattle.zb_devices.specs.declared.device.Event.{Event}
use Rattle.zb_devices.specs.declared.device.Device.{Device}
use Rattle.zb_devices.specs.declared.plate.Plate.{Plate}
use Rattle.zb_devices.specs.Plates.{Shows}
use Rattle.zb_devices.specs.Images.{seen_may_be_left}

-- the end of the record is now
pub last_stood : (script : List ℕ) (es : List Event) (k : ℕ) (m : Moment) → length es ≤ k → IsMoment (stood script es k) m → IsMoment (standing script es) m
last_stood script es k m le h = subst (λ (l : List Event). IsMoment (standing script l) m) (take_all k es le) h

-- now is the end of the record
pub now_stood : (script : List ℕ) (es : List Event) (t : ℕ) (m : Moment) → t ≤ length es → IsMoment (standing script es) m → Since script es t m
now_stood script es t m le h = (length es, le, omega arith, subst (λ (l : List Event). IsMoment (standing script l) m) (sym (take_all (length es) es (omega arith))) h)

-- what the record tells
abbrev pub told : List ℕ → List Event → Bool → Meaning
told script es works =
    record {
      now = standing script es;
      clock = length es;
      is_recording = works;
      since = Since script es;
      counts_now = now_stood script es;
      only_now = λ m h. last_stood script es h.0 m h.1 h.3;
      seen_now = seen_may_be_left es;
    }

-- what a device counts
abbrev pub tally : Device → Tally
tally d = record { faults = slice_index d.counts.faults; writes = slice_index d.counts.writes; read_faults = d.counts.read_faults; write_faults = d.counts.write_faults }

-- what a device tells
abbrev pub meaning_of_device : Device → Meaning
meaning_of_device d = told d.script.items d.events.items (not d.is_frozen)

-- what is left of the script of a device, and how often its streams failed
abbrev pub streams_of_device : Device → Streams
streams_of_device d = record { left = drop d.taken d.script.items; read_faults = d.counts.read_faults; write_faults = d.counts.write_faults }

-- what is counted of a device
abbrev pub counts_of_device : Device → Counts
counts_of_device d = record {
  faults = slice_index d.counts.faults;
  full = λ p. at_last (slice_index d.counts.faults p);
  writes = slice_index d.counts.writes;
  streams = streams_of_device d;
}

-- what stands in memory is what the record says
pub record Keeps (d : Device) : Type 0 where
  pub long : length d.plates.items ≡ 256
  pub shown : (p : ℕ) (x : Plate) → p < length d.plates.items → Shows (slice_index_or d.plates.items p x) (stands d.events.items p)
  pub taken : d.taken ≡ (flows d.events.items).taken
  pub within : d.taken ≤ length d.script.items
  pub printed : d.printed.items ≡ (flows d.events.items).printed

-- and so are the counts, until there is no memory for the record
pub record IsKept (d : Device) : Type 0 where
  pub keeps : Keeps d
  pub tallied : d.is_frozen ≡ false → IsTallied d.events.items (tally d)

-- any device may follow another
abbrev pub AnyFollows : Device → Device → Type 0
AnyFollows _ _ = Unit {0}

-- one event more stands in the record, which counts it
pub record Noted (e : Event) (old new : Device) : Type 0 where
  pub events : new.events.items ≡ old.events.items ++ e ∷ []
  pub script : new.script.items ≡ old.script.items
  pub thawed : old.is_frozen ≡ false
  pub works : new.is_frozen ≡ false
  pub starved : new.starved ≡ old.starved

-- the streams are as before
pub record Leaves (old new : Device) : Type 0 where
  pub taken : new.taken ≡ old.taken
  pub read_faults : new.counts.read_faults ≡ old.counts.read_faults
  pub write_faults : new.counts.write_faults ≡ old.counts.write_faults

-- nothing has happened
pub record Same (old new : Device) : Type 0 where
  pub taken : new.taken ≡ old.taken
  pub events : new.events.items ≡ old.events.items
  pub script : new.script.items ≡ old.script.items
  pub counts : new.counts ≡ old.counts
  pub frozen : new.is_frozen ≡ old.is_frozen
  pub starved : new.starved ≡ old.starved

-- how a platter stands, by the record
abbrev pub platter_of_device : Device → ℕ → PlatterState
platter_of_device d p = stands d.events.items p

-- a call of platter p that is due to fail or not answers so, and leaves the platter done or failed
abbrev pub AnswersOf : {T E : Type 0} → ℕ → Bool → Result T E → Device → Device → (PlatterState → PlatterState) → (PlatterState → PlatterState) → Type 0
AnswersOf p is_due result old new done undone =
    Answers p is_due (not new.is_frozen) result old.starved new.starved (platter_of_device old) (platter_of_device new) (done (platter_of_device old p)) (undone (platter_of_device old p))

-- a call of platter p that fails answers so
abbrev pub RefusesOf : ℕ → Bool → Device → Device → (PlatterState → PlatterState) → Type 0
RefusesOf p is_due old new undone = Refuses p is_due (not new.is_frozen) old.starved new.starved (platter_of_device old) (platter_of_device new) (undone (platter_of_device old p))

-- a call of a stream that is due to fail or not answers so
abbrev pub StreamAnswersOf : {T E : Type 0} → Bool → Result T E → Device → Device → Type 0
StreamAnswersOf is_due result old new = StreamAnswers is_due (not new.is_frozen) result old.starved new.starved (platter_of_device old) (platter_of_device new)

-- a write failed: what it may have torn may be left, and reads give what they gave
pub record Spoils (p at : ℕ) (bytes : List ℕ) (old new : Meaning) : Type 0 where
  pub ticks : Ticks p old new
  pub seen : new.now.seen p ≡ old.now.seen p
  pub crash : (image : List ℕ) → new.now.may_leave p image → (former : List ℕ) × old.now.may_leave p former × Torn at (length bytes) former image

-- the bytes taken and printed and all platters are as before, and each moment on the way is one of now
pub record Steady (old new : Meaning) : Type 0 where
  pub time : During (IsMoment new.now) old new
  pub remembers : Remembers old new
  pub spares : SparesAll old.now new.now
  pub taken : new.now.taken ≡ old.now.taken
  pub printed : new.now.printed ≡ old.now.printed

-- what a call of a stream that failed leaves
pub record FailsStream (old new : Device) : Type 0 where
  pub steady : Steady (meaning_of_device old) (meaning_of_device new)
  pub left : drop new.taken new.script.items ≡ drop old.taken old.script.items
  pub faults : new.counts.faults ≡ old.counts.faults
  pub writes : new.counts.writes ≡ old.counts.writes
  pub states : (p : ℕ) → platter_of_device new p ≡ platter_of_device old p

-- what a take that failed leaves, with its count
pub record FailsTake (old new : Device) : Type 0 where
  pub stream : FailsStream old new
  pub read_faults : new.counts.read_faults ≡ raised old.counts.read_faults
  pub write_faults : new.counts.write_faults ≡ old.counts.write_faults

-- what a put that failed leaves, with its count
pub record FailsPut (old new : Device) : Type 0 where
  pub stream : FailsStream old new
  pub write_faults : new.counts.write_faults ≡ raised old.counts.write_faults
  pub read_faults : new.counts.read_faults ≡ old.counts.read_faults

-- platters that were never written
abbrev pub AllEmpty : List Plate → Type 0
AllEmpty plates = (p : ℕ) (x : Plate) → p < length plates → Shows (slice_index_or plates p x) fresh

-- what isn't so is false
not_frozen : (b : Bool) → not b ≡ true → b ≡ false
not_frozen false h = refl
not_frozen true h = absurd (cc h)

-- while there is memory for the record, it counts what is counted of the platters
pub exact_counts : (d : Device) → IsKept d → not d.is_frozen ≡ true → AreExact (meaning_of_device d).now (counts_of_device d)
exact_counts d kept records = let t = kept.tallied (not_frozen d.is_frozen records) in record { faults = λ p. sym (t.faults p); writes = λ p. sym (t.writes p) }

-- and of the streams
pub exact_streams : (d : Device) → IsKept d → not d.is_frozen ≡ true → AreCounted (meaning_of_device d).now (streams_of_device d)
exact_streams d kept records = let t = kept.tallied (not_frozen d.is_frozen records) in record { read_faults = sym t.read_faults; write_faults = sym t.write_faults }
