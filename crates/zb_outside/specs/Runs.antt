-- What a call of any layer on one platter does, moment by moment.
use Rattle.std.specs.Prelude.{◌≡◌, ◌≢◌, ◌≤◌, ℕ, List}
use Rattle.zb_outside.specs.Meaning.{Moment, Standing, Meaning, During, Remembers}

-- all but one platter is as before, and its counts are no lower
pub record Spares (p : ℕ) (old new : Standing) : Type 0 where
  pub seen : (q : ℕ) → q ≢ p → new.seen q ≡ old.seen q
  pub may_leave : (q : ℕ) → q ≢ p → (image : List ℕ) → new.may_leave q image → old.may_leave q image
  pub taken : new.taken ≡ old.taken
  pub printed : new.printed ≡ old.printed
  pub faults : (q : ℕ) → q ≢ p → new.faults q ≡ old.faults q
  pub rises : (q : ℕ) → old.faults q ≤ new.faults q
  pub writes : (q : ℕ) → q ≢ p → new.writes q ≡ old.writes q
  pub counts : (q : ℕ) → old.writes q ≤ new.writes q
  pub read_faults : new.read_faults ≡ old.read_faults
  pub write_faults : new.write_faults ≡ old.write_faults

-- a moment where the image of platter p has Q, and all else is as it stood
pub record AtPlatter (p : ℕ) (Q : List ℕ → Type 0) (s : Standing) (m : Moment) : Type 0 where
  pub here : Q (m.images p)
  pub elsewhere : (q : ℕ) → q ≢ p → s.may_leave q (m.images q)
  pub taken : m.taken ≡ s.taken
  pub printed : m.printed ≡ s.printed
  pub rises : (q : ℕ) → s.faults q ≤ m.faults q
  pub faults : (q : ℕ) → q ≢ p → m.faults q ≡ s.faults q
  pub counts : (q : ℕ) → s.writes q ≤ m.writes q
  pub writes : (q : ℕ) → q ≢ p → m.writes q ≡ s.writes q
  pub read_faults : m.read_faults ≡ s.read_faults
  pub write_faults : m.write_faults ≡ s.write_faults

-- calls on platter p lead from old to new, and each image of p on the way and at the end has Q
pub record Run (p : ℕ) (Q : List ℕ → Type 0) (old new : Meaning) : Type 0 where
  pub time : During (AtPlatter p Q old.now) old new
  pub remembers : Remembers old new
  pub spares : Spares p old.now new.now
  pub here : (image : List ℕ) → new.now.may_leave p image → Q image

-- calls on platter p lead from old to new, whatever becomes of its image: at each moment on the way and at the end all else is
-- as before
abbrev pub SparesOthers : ℕ → Meaning → Meaning → Type 0
SparesOthers p old new = Run p (λ _. Unit {0}) old new

-- on the way p has an image that it may have at the end
abbrev pub Ticks : ℕ → Meaning → Meaning → Type 0
Ticks p old new = Run p (new.now.may_leave p) old new

-- a crash leaves this and nothing else
abbrev pub Only : List ℕ → (List ℕ → Type 0) → Type 0
Only image may_leave = (other : List ℕ) → may_leave other → other ≡ image

-- no write of p is unsynced
pub record IsSettled (p : ℕ) (s : Standing) : Type 0 where
  pub only : Only (s.seen p) (s.may_leave p)

-- platter p is as it was
pub record Held (p : ℕ) (old new : Meaning) : Type 0 where
  pub ticks : Ticks p old new
  pub seen : new.now.seen p ≡ old.now.seen p
  pub left : (image : List ℕ) → new.now.may_leave p image → old.now.may_leave p image
