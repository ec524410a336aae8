-- How stripes are chosen.
use Rattle.std.specs.Prelude.{ℕ, ◌+◌, ◌-◌, ◌*◌, ◌<◌, ◌≤◌, max, List, [], ◌∷◌, length}
use Rattle.std.specs.List.{IsFirstMaxByKey}
use Rattle.std.specs.Borrow.{Bor}
use Rattle.zb_usage.specs.declared.stripe_use.StripeUse.{StripeUse}

-- each answer to a list that isn't empty is a place of the list
abbrev pub AnswersPlace : (Bor (List StripeUse) → ℕ → Type 0) → Type 0
AnswersPlace Answers = (list : Bor (List StripeUse)) (place : ℕ) → 1 ≤ length list.now → Answers list place → place < length list.now

-- how many committed bytes of a stripe no pointer names, 0 where pointers name more
abbrev pub dead_bytes : StripeUse → ℕ
dead_bytes u = u.bytes - u.live

-- the greatest number of a first entry
abbrev pub newest : List StripeUse → ℕ
newest [] = 0
newest (u ∷ us) = max u.born (newest us)

-- dead bytes times the age in entries, from 1 for a stripe as new as the newest
abbrev pub dead_by_age : ℕ → StripeUse → ℕ
dead_by_age new u = dead_bytes u * (new - u.born + 1)

-- the first place with the greatest weight
abbrev pub IsFirstGreatest : (StripeUse → ℕ) → List StripeUse → ℕ → Type 0
IsFirstGreatest weight list place = IsFirstMaxByKey weight list (length list) place
