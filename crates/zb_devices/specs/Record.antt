-- What the record of an outside in memory says.
use Rattle.std.specs.Prelude.{◌≡◌, ℕ, ◌+◌, ◌-◌, ◌≤◌, ◌==◌, if◌then◌else◌, List, [], ◌∷◌, ◌++◌, length, take, drop, replicate}
use Rattle.zb_outside.specs.Meaning.{Moment, Standing, IsMoment}
use Rattle.zb_outside.specs.Ranges.{Torn}
use Rattle.zb_outside.specs.Counts.{raised}
use Rattle.zb_devices.specs.declared.device.Change.{Change}
use Rattle.zb_devices.specs.declared.device.Change.TheVariants.{Wrote, Synced, Restarted, Blanked, Fault, WriteFault}
use Rattle.zb_devices.specs.declared.device.Event.{Event}
use Rattle.zb_devices.specs.declared.device.Event.TheVariants.{Took, Printed, TakeFault, PutFault, At}

-- an image and zeros up to a length
abbrev pub padded : List ℕ → ℕ → List ℕ
padded old n = old ++ replicate (n - length old) 0

-- an image with these bytes written over it, and zeros between its end and them
abbrev pub overlaid : List ℕ → ℕ → List ℕ → List ℕ
overlaid old at bytes = take at (padded old (at + length bytes)) ++ bytes ++ drop (at + length bytes) (padded old (at + length bytes))

-- how a platter stands: what a read gives, what the last sync left, the ranges written since, the oldest first, and
-- its counts
pub record PlatterState : Type 0 where
  pub seen : List ℕ
  pub base : List ℕ
  pub ranges : List (ℕ × ℕ)
  pub faults : ℕ
  pub writes : ℕ

-- a platter that was never written
abbrev pub fresh : PlatterState
fresh = record { seen = []; base = []; ranges = []; faults = 0; writes = 0 }

-- after a write
abbrev pub written : ℕ → List ℕ → PlatterState → PlatterState
written at bytes s = record { seen = overlaid s.seen at bytes; base = s.base; ranges = s.ranges ++ (at, length bytes) ∷ []; faults = s.faults; writes = raised s.writes }

-- with nothing unsynced
abbrev pub becomes : List ℕ → PlatterState → PlatterState
becomes image s = record { seen = image; base = image; ranges = []; faults = s.faults; writes = s.writes }

-- after a sync
abbrev pub synced : PlatterState → PlatterState
synced s = becomes s.seen s

-- after a blank
abbrev pub blanked : PlatterState → PlatterState
blanked s = becomes [] s

-- each of these ranges filled with a byte
abbrev pub filled : ℕ → List (ℕ × ℕ) → List ℕ → List ℕ
filled byte [] image = image
filled byte (r ∷ rs) image = filled byte rs (overlaid image r.0 (replicate r.1 byte))

-- what a restart leaves: for 0 no range written since the sync, for 1 all, and for another value that byte in each
abbrev pub chosen : ℕ → PlatterState → List ℕ
chosen choice s = if choice == 0 then s.base else (if choice == 1 then s.seen else filled choice s.ranges s.base)

-- after a restart
abbrev pub restarted : ℕ → PlatterState → PlatterState
restarted choice s = becomes (chosen choice s) s

-- after a call that failed
abbrev pub failed : PlatterState → PlatterState
failed s = record { seen = s.seen; base = s.base; ranges = s.ranges; faults = raised s.faults; writes = s.writes }

-- after a write that failed, which counts as a range written
abbrev pub write_failed : ℕ → ℕ → PlatterState → PlatterState
write_failed at n s = record { seen = s.seen; base = s.base; ranges = s.ranges ++ (at, n) ∷ []; faults = raised s.faults; writes = raised s.writes }

-- after what a call did
abbrev pub changed : Change → PlatterState → PlatterState
changed (Wrote at bytes) s = written at bytes.items s
changed Synced s = synced s
changed (Restarted choice) s = restarted choice s
changed Blanked s = blanked s
changed Fault s = failed s
changed (WriteFault at n) s = write_failed at n s

-- what an event does to platter p
abbrev pub step : ℕ → Event → PlatterState → PlatterState
step p (At q change) s = if q == p then changed change s else s
step p (Took n) s = s
step p (Printed bytes) s = s
step p TakeFault s = s
step p PutFault s = s

-- after these events, one behind the other
abbrev pub after : ℕ → List Event → PlatterState → PlatterState
after p [] s = s
after p (e ∷ es) s = after p es (step p e s)

-- how platter p stands after these events
abbrev pub stands : List Event → ℕ → PlatterState
stands es p = after p es fresh

-- how far both streams have come, and how often each failed
pub record Flow : Type 0 where
  pub taken : ℕ
  pub printed : List ℕ
  pub read_faults : ℕ
  pub write_faults : ℕ

-- before anything was taken or printed
abbrev pub still : Flow
still = record { taken = 0; printed = []; read_faults = 0; write_faults = 0 }

-- what an event does to the streams
abbrev pub flowed : Event → Flow → Flow
flowed (Took n) f = record { taken = f.taken + n; printed = f.printed; read_faults = f.read_faults; write_faults = f.write_faults }
flowed (Printed bytes) f = record { taken = f.taken; printed = f.printed ++ bytes.items; read_faults = f.read_faults; write_faults = f.write_faults }
flowed TakeFault f = record { taken = f.taken; printed = f.printed; read_faults = raised f.read_faults; write_faults = f.write_faults }
flowed PutFault f = record { taken = f.taken; printed = f.printed; read_faults = f.read_faults; write_faults = raised f.write_faults }
flowed (At p change) f = f

-- what events do to the streams, one behind the other
abbrev pub flow_after : List Event → Flow → Flow
flow_after [] f = f
flow_after (e ∷ es) f = flow_after es (flowed e f)

-- how the streams stand after these events
abbrev pub flows : List Event → Flow
flows es = flow_after es still

-- a crash may have torn each of these writes
abbrev pub TornBy : List (ℕ × ℕ) → List ℕ → List ℕ → Type 0
TornBy [] base image = image ≡ base
TornBy (r ∷ rs) base image = (former : List ℕ) × Torn r.0 r.1 base former × TornBy rs former image

-- a crash may leave this of the platter
abbrev pub MayLeave : PlatterState → List ℕ → Type 0
MayLeave s image = TornBy s.ranges s.base image

-- what is counted
pub record Tally : Type 0 where
  pub faults : ℕ → ℕ
  pub writes : ℕ → ℕ
  pub read_faults : ℕ
  pub write_faults : ℕ

-- how all stands after these events
abbrev pub standing : List ℕ → List Event → Standing
standing script es = record {
  seen = λ p. (stands es p).seen;
  may_leave = λ p. MayLeave (stands es p);
  taken = take (flows es).taken script;
  printed = (flows es).printed;
  faults = λ p. (stands es p).faults;
  writes = λ p. (stands es p).writes;
  read_faults = (flows es).read_faults;
  write_faults = (flows es).write_faults;
}

-- how all stood after k of the events
abbrev pub stood : List ℕ → List Event → ℕ → Standing
stood script es k = standing script (take k es)

-- a moment after one of the events from the t-th on
abbrev pub Since : List ℕ → List Event → ℕ → Moment → Type 0
Since script es t m = (k : ℕ) × (t ≤ k) × (k ≤ length es) × IsMoment (stood script es k) m

-- the counts are those of the record
pub record IsTallied (es : List Event) (tally : Tally) : Type 0 where
  pub faults : (p : ℕ) → tally.faults p ≡ (stands es p).faults
  pub writes : (p : ℕ) → tally.writes p ≡ (stands es p).writes
  pub read_faults : tally.read_faults ≡ (flows es).read_faults
  pub write_faults : tally.write_faults ≡ (flows es).write_faults
