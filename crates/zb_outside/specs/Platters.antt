-- What each call on a platter does.
use Rattle.std.specs.Prelude.{◌≡◌, ◌⊎◌, ℕ, List, [], length, Result, OnOk}
use Rattle.zb_outside.specs.Meaning.{Standing, Meaning}
use Rattle.zb_outside.specs.Ranges.{Torn, Written, Reads}
use Rattle.zb_outside.specs.Runs.{Run, Ticks, Only, IsSettled}

-- a read gives the bytes that stand there, and adds no image
pub record ReadTold {T E : Type 0} (p at : ℕ) (bytes : List ℕ) (result : Result T E) (old new : Meaning) : Type 0 where
  pub ticks : Ticks p old new
  pub seen : new.now.seen p ≡ old.now.seen p
  pub crash : (image : List ℕ) → new.now.may_leave p image → old.now.may_leave p image
  pub read : OnOk result (Reads (old.now.seen p) at bytes)

-- each new image is an old one that the write may have torn; a read gives the bytes written, or torn ones where it failed
pub record WriteTold {T E : Type 0} (p at : ℕ) (bytes : List ℕ) (result : Result T E) (old new : Meaning) : Type 0 where
  pub ticks : Ticks p old new
  pub crash : (image : List ℕ) → new.now.may_leave p image → (former : List ℕ) × old.now.may_leave p former × Torn at (length bytes) former image
  pub torn : Torn at (length bytes) (old.now.seen p) (new.now.seen p)
  pub written : OnOk result (Written at bytes (old.now.seen p) (new.now.seen p))

-- a sync leaves what a read gives as the one image; where it failed it adds none
pub record SyncTold {T E : Type 0} (p : ℕ) (result : Result T E) (old new : Meaning) : Type 0 where
  pub ticks : Ticks p old new
  pub seen : new.now.seen p ≡ old.now.seen p
  pub crash : (image : List ℕ) → new.now.may_leave p image → old.now.may_leave p image
  pub durable : OnOk result (Only (old.now.seen p) (new.now.may_leave p))

-- the platter has become one of its images, for good where the restart is answered Ok
pub record RestartTold {T E : Type 0} (p : ℕ) (result : Result T E) (old new : Meaning) : Type 0 where
  pub ticks : Ticks p old new
  pub crash : (image : List ℕ) → new.now.may_leave p image → old.now.may_leave p image
  pub seen : old.now.may_leave p (new.now.seen p)
  pub ok : OnOk result (IsSettled p new.now)

-- a read of platter p gives this, and a crash leaves it
pub record Becomes (p : ℕ) (image : List ℕ) (new : Standing) : Type 0 where
  pub seen : new.seen p ≡ image
  pub only : Only image (new.may_leave p)

-- the platter is empty for good, or where the blank failed empty or one of its images
pub record BlankTold {T E : Type 0} (p : ℕ) (result : Result T E) (old new : Meaning) : Type 0 where
  pub ticks : Ticks p old new
  pub crash : (image : List ℕ) → new.now.may_leave p image → (image ≡ []) ⊎ old.now.may_leave p image
  pub seen : (new.now.seen p ≡ []) ⊎ old.now.may_leave p (new.now.seen p)
  pub ok : OnOk result (Becomes p [] new.now)

-- a write and its sync from a settled platter: on the way it may be torn, and in the end it stands alone
pub record WriteSyncedTold {T E : Type 0} (p at : ℕ) (bytes : List ℕ) (result : Result T E) (old new : Meaning) : Type 0 where
  pub run : Run p (Torn at (length bytes) (old.now.seen p)) old new
  pub written : OnOk result (Written at bytes (old.now.seen p) (new.now.seen p))
  pub settled : OnOk result (IsSettled p new.now)
