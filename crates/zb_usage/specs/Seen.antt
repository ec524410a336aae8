-- What contracts see of the use of stripes that is kept.
use Rattle.std.specs.Prelude.{◌≡◌, ℕ, ◌%◌, ◌^◌, ◌==◌, ◌&&◌, Bool, List, Option, Some, None, IsSome}
use Rattle.std.specs.Map.{lookup}
use Rattle.zb_types.specs.declared.ids.LogId.{LogId}
use Rattle.zb_types.specs.declared.ids.Ptr.{Ptr}
use Rattle.zb_types.specs.declared.tables.HeldUse.{HeldUse}
use Rattle.zb_tables.specs.Tables.{Tables}
use Rattle.zb_usage.specs.Uses.{stripe_use}

-- the held stripes other than the last one of a live log, and counts by log and stripe
pub record SeenUsage : Type 0 where
  pub stripes : List HeldUse
  pub counts : List ((ℕ × ℕ) × ℕ)

-- are a log and a stripe these?
abbrev pub is_key : ℕ × ℕ → ℕ × ℕ → Bool
is_key key other = key.0 == other.0 && key.1 == other.1

-- what is kept for a log and a stripe
abbrev pub found_at : List ((ℕ × ℕ) × ℕ) → ℕ × ℕ → Option ℕ
found_at counts key = lookup (is_key key) counts

-- a number that was found as one of 32 bits, 0 where there is none
abbrev pub count_of : Option ℕ → ℕ
count_of None = 0
count_of (Some count) = count % 2 ^ 32

-- the count of a log and a stripe
abbrev pub count_at : List ((ℕ × ℕ) × ℕ) → ℕ × ℕ → ℕ
count_at counts key = count_of (found_at counts key)

-- the count of a stripe, which has 32 bits
abbrev pub counted : SeenUsage → LogId → ℕ → ℕ
counted u log stripe = count_at u.counts (log.0, stripe)

-- one has the stripes and the counts of the other
pub record SameUse (old new : SeenUsage) : Type 0 where
  pub stripes : new.stripes ≡ old.stripes
  pub counts : (log : LogId) (stripe : ℕ) → counted new log stripe ≡ counted old log stripe

-- the count of a stripe that is held, 0 of another
abbrev pub if_held : Option HeldUse → ℕ → ℕ
if_held None count = 0
if_held (Some h) count = count

-- the counts are the use that the tables have now, as numbers of 32 bits
abbrev pub CountsUse : SeenUsage → Tables → Type 0
CountsUse u t = (log : LogId) (stripe : ℕ) → counted u log stripe ≡ stripe_use t log stripe % 2 ^ 32

-- Room.

-- a count is kept for a log and a stripe
abbrev pub HasCount : List ((ℕ × ℕ) × ℕ) → ℕ × ℕ → Type 0
HasCount counts key = IsSome (found_at counts key)

-- so is one for the stripe of a pointer, if there is one
abbrev pub HasCountOf : List ((ℕ × ℕ) × ℕ) → Option Ptr → Type 0
HasCountOf counts None = Unit {0}
HasCountOf counts (Some p) = HasCount counts (p.log.0, p.stripe)
