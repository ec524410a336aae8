-- Held stripes in one piece of memory.
use Rattle.std.specs.Prelude.{◌≡◌, ℕ, ◌+◌, ◌-◌, ◌^◌, ◌<◌, Bool, true, false, List, length, vec_capacity}
use Rattle.std.specs.List.{list_any}
use Rattle.std.specs.Prelude.{◌==◌}
use Rattle.std.specs.declared.vec.Vec.{Vec}
use Rattle.std.specs.List.Sorted.{IsStrictlySortedBy, IsPartitionPoint}
use Rattle.zb_types.specs.declared.ids.LogId.{LogId}
use Rattle.zb_types.specs.declared.ids.Piece.{Piece}
use Rattle.zb_types.specs.declared.tables.HeldUse.{HeldUse}
use Rattle.zb_tables.specs.Fold.{is_before}
use Rattle.zb_tables.specs.Checkpoint.{held_cmp}

-- the stripes, and for how many more there is room
pub record SeenHeld : Type 0 where
  pub stripes : List HeldUse
  pub room : ℕ

-- for how many more there is room without memory
abbrev pub room_of : {X Z : Type 0} → Vec X Z → ℕ
room_of v = vec_capacity v - length v.items

-- a stripe with nothing committed, to be compared with others
abbrev pub key_of : LogId → ℕ → HeldUse
key_of log stripe = record { log = log; stripe = stripe; end = 0; born = 0 }

-- the stripes before place i are before this one, and those from there on aren't
abbrev pub IsPlace : List HeldUse → LogId → ℕ → ℕ → Type 0
IsPlace stripes log stripe i = IsPartitionPoint (λ h. is_before h (key_of log stripe) ≡ true) (λ h. is_before h (key_of log stripe) ≡ false) stripes i

-- a log holds a stripe
abbrev pub holds_any : ℕ → List HeldUse → Bool
holds_any log stripes = list_any (λ h. h.log.0 == log) stripes

-- the end of a piece has room in four bytes
abbrev pub EndFits : Piece → Type 0
EndFits p = p.offset + p.len < 2 ^ 32

-- the stripes rise
abbrev pub IsInOrder : List HeldUse → Type 0
IsInOrder stripes = IsStrictlySortedBy held_cmp stripes
