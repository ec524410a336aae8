-- What taking bytes of the script and printing bytes of the report do.
use Rattle.std.specs.Prelude.{◌≡◌, ◌<◌, ◌≤◌, ◌+◌, ◌-◌, ◌^◌, ◌↔◌, min, ℕ, true, List, [], ◌++◌, length, take, Result, MatchResult, IfOk, OnOk}
use Rattle.zb_outside.specs.Meaning.{Standing, IsMoment, Meaning, During, Remembers}

-- the bytes of the script that are left, where they are told, and how often a take and a put failed
pub record Streams : Type 0 where
  pub left : List ℕ
  pub read_faults : ℕ
  pub write_faults : ℕ

-- what moments count of the streams is what is told of them
pub record AreCounted (now : Standing) (streams : Streams) : Type 0 where
  pub read_faults : now.read_faults ≡ streams.read_faults
  pub write_faults : now.write_faults ≡ streams.write_faults

-- each platter is as before
pub record SparesAll (old new : Standing) : Type 0 where
  pub seen : (q : ℕ) → new.seen q ≡ old.seen q
  pub may_leave : (q : ℕ) (c : List ℕ) → new.may_leave q c → old.may_leave q c
  pub faults : (q : ℕ) → new.faults q ≡ old.faults q
  pub writes : (q : ℕ) → new.writes q ≡ old.writes q

-- bytes went from what is left of the script to what is taken, none where it failed; 0 is the script's end
pub record TakeTold {E : Type 0} (buf : List ℕ) (result : Result ℕ E) (before after : Streams) (old new : Meaning) : Type 0 where
  pub time : During (IsMoment new.now) old new
  pub remembers : Remembers old new
  pub spares : SparesAll old.now new.now
  pub taken : MatchResult result (λ n. new.now.taken ≡ old.now.taken ++ take n buf) (λ _. new.now.taken ≡ old.now.taken)
  pub script : new.now.taken ++ after.left ≡ old.now.taken ++ before.left
  pub printed : new.now.printed ≡ old.now.printed
  pub ends : IfOk result (λ n. 0 < length buf → (n ≡ 0) ↔ (before.left ≡ []))

-- all of the bytes were printed, which are on record, or a front of them where it failed
pub record PutTold {T E : Type 0} (bytes : List ℕ) (result : Result T E) (before after : Streams) (old new : Meaning) : Type 0 where
  pub time : During (IsMoment new.now) old new
  pub remembers : Remembers old new
  pub spares : SparesAll old.now new.now
  pub printed : MatchResult result (λ _. new.now.printed ≡ old.now.printed ++ bytes) (λ _. (k : ℕ) × (new.now.printed ≡ old.now.printed ++ take k bytes))
  pub taken : new.now.taken ≡ old.now.taken
  pub left : after.left ≡ before.left
  pub recorded : OnOk result (new.is_recording ≡ true)

-- the count rose, or stands at the last value of a u64
abbrev pub Rose : ℕ → ℕ → Type 0
Rose before now = min (before + 1) (2 ^ 64 - 1) ≤ now
