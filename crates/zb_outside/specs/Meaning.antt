-- What an outside means: how it stands, and the moments that it has been through.
use Rattle.std.specs.Prelude.{◌≡◌, ◌⊎◌, ◌≤◌, ℕ, Bool, true, List, []}

-- one image for each platter that a crash may leave, with what was taken, printed and counted by then
pub record Moment : Type 0 where
  pub images : ℕ → List ℕ
  pub taken : List ℕ
  pub printed : List ℕ
  pub faults : ℕ → ℕ
  pub writes : ℕ → ℕ
  pub read_faults : ℕ
  pub write_faults : ℕ

-- how the outside stands at one time: of each platter what a read gives and which images a crash may leave,
-- the bytes taken and printed, and the counts
pub record Standing : Type 1 where
  pub seen : ℕ → List ℕ
  pub may_leave : ℕ → List ℕ → Type 0
  pub taken : List ℕ
  pub printed : List ℕ
  pub faults : ℕ → ℕ
  pub writes : ℕ → ℕ
  pub read_faults : ℕ
  pub write_faults : ℕ

-- a crash may leave this now
pub record IsMoment (s : Standing) (m : Moment) : Type 0 where
  pub images : (p : ℕ) → s.may_leave p (m.images p)
  pub taken : m.taken ≡ s.taken
  pub printed : m.printed ≡ s.printed
  pub faults : (p : ℕ) → m.faults p ≡ s.faults p
  pub writes : (p : ℕ) → m.writes p ≡ s.writes p
  pub read_faults : m.read_faults ≡ s.read_faults
  pub write_faults : m.write_faults ≡ s.write_faults

-- how the outside stands now, and the moments since each time of its clock
pub record Meaning : Type 1 where
  pub now : Standing
  pub clock : ℕ
  -- there is memory for the record; once there is none, each put fails, and moments count no more faults
  pub is_recording : Bool
  pub since : ℕ → Moment → Type 0
  -- the moments of now are among them, and are all since now
  pub counts_now : (t : ℕ) (m : Moment) → t ≤ clock → IsMoment now m → since t m
  pub only_now : (m : Moment) → since clock m → IsMoment now m
  -- a crash may leave what a read gives
  pub seen_now : (p : ℕ) → now.may_leave p (now.seen p)

-- time went from `old` to `new`, and each moment on the way has P
pub record During (P : Moment → Type 0) (old new : Meaning) : Type 0 where
  pub later : old.clock ≤ new.clock
  pub no_other : (t : ℕ) (m : Moment) → t ≤ old.clock → new.since t m → old.since t m ⊎ P m

-- no moment is forgotten, and the record that once had no memory left has none
pub record Remembers (old new : Meaning) : Type 0 where
  pub kept : (t : ℕ) (m : Moment) → t ≤ old.clock → old.since t m → new.since t m
  pub recording : new.is_recording ≡ true → old.is_recording ≡ true

-- nothing was taken, printed or counted, and the platters are empty
pub record IsFresh (now : Standing) : Type 0 where
  pub seen : (p : ℕ) → now.seen p ≡ []
  pub may_leave : (p : ℕ) (image : List ℕ) → now.may_leave p image → image ≡ []
  pub taken : now.taken ≡ []
  pub printed : now.printed ≡ []
  pub faults : (p : ℕ) → now.faults p ≡ 0
  pub writes : (p : ℕ) → now.writes p ≡ 0
  pub read_faults : now.read_faults ≡ 0
  pub write_faults : now.write_faults ≡ 0
