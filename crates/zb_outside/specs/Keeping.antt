-- What holds at each moment of a run, of calls of any platters and streams.
use Rattle.std.specs.Prelude.{◌≢◌, ◌≤◌, ◌+◌, ℕ, List, length, Result}
use Rattle.zb_outside.specs.Meaning.{Moment, Standing, IsMoment, Meaning, During, Remembers}
use Rattle.zb_outside.specs.Ranges.{Torn, SameBeside}
use Rattle.zb_outside.specs.Runs.{AtPlatter, Run, IsSettled}
use Rattle.zb_outside.specs.Streams.{Streams, TakeTold, PutTold}

-- each moment that a crash now may leave has this
pub record Holds (Inv : Moment → Type 0) (s : Standing) : Type 0 where
  pub holds : (m : Moment) → IsMoment s m → Inv m

-- time went on, no moment was forgotten, and each new one has this, as those of the end do
pub record Keeps (Inv : Moment → Type 0) (old new : Meaning) : Type 0 where
  pub time : During Inv old new
  pub remembers : Remembers old new
  pub at_end : Holds Inv new.now

-- a run keeps what its start has
abbrev pub NothingKeeps : Type 1
NothingKeeps = (Inv : Moment → Type 0) (w : Meaning) → Holds Inv w.now → Keeps Inv w w

-- one run after another keeps what both keep
abbrev pub KeepsGoOn : Type 1
KeepsGoOn = (Inv : Moment → Type 0) (a b c : Meaning) → Keeps Inv a b → Keeps Inv b c → Keeps Inv a c

-- a run on a platter keeps what each of its moments has
abbrev pub RunKeeps : Type 1
RunKeeps = (p : ℕ) (Q : List ℕ → Type 0) (Inv : Moment → Type 0) (a b : Meaning) → Run p Q a b → ((m : Moment) → AtPlatter p Q a.now m → Inv m) → Keeps Inv a b

-- a take keeps what its end has
abbrev pub TakeKeeps : Type 1
TakeKeeps = (E : Type 0) (buf : List ℕ) (r : Result ℕ E) (before after : Streams) (Inv : Moment → Type 0) (a b : Meaning) → TakeTold buf r before after a b → Holds Inv b.now → Keeps Inv a b

-- a put keeps what its end has
abbrev pub PutKeeps : Type 1
PutKeeps = (T E : Type 0) (bytes : List ℕ) (r : Result T E) (before after : Streams) (Inv : Moment → Type 0) (a b : Meaning) → PutTold bytes r before after a b → Holds Inv b.now → Keeps Inv a b

-- what holds at the start and is kept holds at each moment since the start
abbrev pub EachKeeps : Type 1
EachKeeps = (Inv : Moment → Type 0) (a b : Meaning) → Holds Inv a.now → Keeps Inv a b → (m : Moment) → b.since a.clock m → Inv m

-- where the second run's images have what the first's have, both are one run
abbrev pub RunGoesOn : Type 1
RunGoesOn = (p : ℕ) (Q R : List ℕ → Type 0) (a b c : Meaning) → Run p Q a b → Run p R b c → ((image : List ℕ) → R image → Q image) → Run p Q a c

-- a run on one platter leaves the others settled
abbrev pub ElsewhereSettled : Type 1
ElsewhereSettled = (p q : ℕ) (Q : List ℕ → Type 0) (a b : Meaning) → Run p Q a b → q ≢ p → IsSettled q a.now → IsSettled q b.now

-- what a write within the platter may have torn is the same beside its range
abbrev pub BesideATornRange : Type 0
BesideATornRange = (at n : ℕ) (old new : List ℕ) → at + n ≤ length old → Torn at n old new → SameBeside at n old new
