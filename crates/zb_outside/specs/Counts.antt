-- What is counted of an outside, and what calls may do to the counts.
use Rattle.std.specs.Prelude.{◌≡◌, ◌≢◌, ◌≤◌, ◌<◌, ◌+◌, ◌-◌, ◌^◌, min, max, ℕ, Bool}
use Rattle.std.specs.Bool.{OnTrue}
use Rattle.zb_outside.specs.Meaning.{Standing}
use Rattle.zb_outside.specs.Streams.{Streams, Rose}

-- of each platter how many of its calls failed, how many parts of that count stand at their last value, so that a rise may
-- not show, and how many writes it was asked for; and what is counted of the streams
pub record Counts : Type 0 where
  pub faults : ℕ → ℕ
  pub full : ℕ → ℕ
  pub writes : ℕ → ℕ
  pub streams : Streams

-- a call of platter p failed in between: its count rose, or a part of it stands at its last value
abbrev pub HasFault : ℕ → Counts → Counts → Type 0
HasFault p old new = old.faults p < new.faults p + new.full p

-- no count of platter q has moved
pub record SameAt (q : ℕ) (old new : Counts) : Type 0 where
  pub faults : new.faults q ≡ old.faults q
  pub full : new.full q ≡ old.full q
  pub writes : new.writes q ≡ old.writes q

-- what a call of platter p, or a run of them, leaves alone: where it tells that one failed, one has; p was asked for no more
-- than so many writes; no count of another platter has moved; the streams are as they were; and one follows the other
pub record Touches {B : Type 0} (counts : B → Counts) (leads : B → B → Type 0) (p most : ℕ) (tells_fault : Bool) (old new : B) : Type 0 where
  pub failed : OnTrue tells_fault (HasFault p (counts old) (counts new))
  pub faults : (counts old).faults p ≤ (counts new).faults p
  pub full : (counts old).full p ≤ (counts new).full p
  pub writes : (counts old).writes p ≤ (counts new).writes p
  pub most_writes : (counts new).writes p ≤ (counts old).writes p + most
  pub others : (q : ℕ) → q ≢ p → SameAt q (counts old) (counts new)
  pub streams : (counts new).streams ≡ (counts old).streams
  pub follows : leads old new

-- what takes of the script leave alone: where it is told that one failed, the count of failed takes rose
pub record TouchesScript {B : Type 0} (counts : B → Counts) (leads : B → B → Type 0) (tells_fault : Bool) (old new : B) : Type 0 where
  pub failed : OnTrue tells_fault (Rose (counts old).streams.read_faults (counts new).streams.read_faults)
  pub read_faults : (counts old).streams.read_faults ≤ (counts new).streams.read_faults
  pub write_faults : (counts new).streams.write_faults ≡ (counts old).streams.write_faults
  pub platters : (q : ℕ) → SameAt q (counts old) (counts new)
  pub follows : leads old new

-- what puts into the report leave alone: where it is told that one failed, the count of failed puts rose
pub record TouchesReport {B : Type 0} (counts : B → Counts) (leads : B → B → Type 0) (tells_fault : Bool) (old new : B) : Type 0 where
  pub failed : OnTrue tells_fault (Rose (counts old).streams.write_faults (counts new).streams.write_faults)
  pub write_faults : (counts old).streams.write_faults ≤ (counts new).streams.write_faults
  pub read_faults : (counts new).streams.read_faults ≡ (counts old).streams.read_faults
  pub platters : (q : ℕ) → SameAt q (counts old) (counts new)
  pub follows : leads old new

-- what calls of any platters and streams do: no count falls, and one follows the other
pub record GoesOn {B : Type 0} (counts : B → Counts) (leads : B → B → Type 0) (old new : B) : Type 0 where
  pub faults : (q : ℕ) → (counts old).faults q ≤ (counts new).faults q
  pub full : (q : ℕ) → (counts old).full q ≤ (counts new).full q
  pub writes : (q : ℕ) → (counts old).writes q ≤ (counts new).writes q
  pub read_faults : (counts old).streams.read_faults ≤ (counts new).streams.read_faults
  pub write_faults : (counts old).streams.write_faults ≤ (counts new).streams.write_faults
  pub follows : leads old new

-- a count that is higher by n, up to the last value of a u64
abbrev pub raised_by : ℕ → ℕ → ℕ
raised_by n count = max count (min (count + n) (2 ^ 64 - 1))

-- a count one higher, up to the last value of a u64
abbrev pub raised : ℕ → ℕ
raised count = raised_by 1 count

-- platter p was asked for n writes in between
abbrev pub HasWritten : ℕ → ℕ → Counts → Counts → Type 0
HasWritten p n old new = new.writes p ≡ raised_by n (old.writes p)

-- 1 where a count of 64 bits stands at its last value, and else 0
abbrev pub at_last : ℕ → ℕ
at_last n = n + 1 - (2 ^ 64 - 1)

-- this count is one higher, and the others are the same
pub record Raises (p : ℕ) (old new : ℕ → ℕ) : Type 0 where
  pub one : new p ≡ raised (old p)
  pub others : (q : ℕ) → q ≢ p → new q ≡ old q

-- moments count what is told of the platters
pub record AreExact (now : Standing) (counts : Counts) : Type 0 where
  pub faults : (p : ℕ) → now.faults p ≡ counts.faults p
  pub writes : (p : ℕ) → now.writes p ≡ counts.writes p
