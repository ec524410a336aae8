-- Logs in one piece of memory.
use Rattle.std.specs.Prelude.{ℕ, ◌+◌, ◌^◌, false, ◌==◌, if◌then◌else◌, List, map, length, Option, IfSome, ◌≤◌, ◌<◌, slice_index}
use Rattle.std.specs.List.{AllByRecursion}
use Rattle.std.specs.List.Sorted.{IsStrictlySortedBy}
use Rattle.std.specs.Map.{keys_of}
use Rattle.std.specs.Ordering.{nat_cmp}
use Rattle.zb_types.specs.declared.ids.Piece.{Piece}
use Rattle.zb_tables.specs.Tables.{LogState, last_value}
use Rattle.zb_tables.specs.Fold.{following}
use Rattle.zb_log_tables.specs.declared.log.Log.{Log}

-- the logs by number, and for how many more there is room
pub record SeenLogs : Type 0 where
  pub logs : List (ℕ × LogState)
  pub room : ℕ

-- a log as the tables have it
abbrev pub state_of : Log → LogState
state_of log = record { owner = log.owner; live = log.live; batch = log.batch; replies = log.replies; last = log.last; mark = log.mark }

-- the logs as the tables have them
abbrev pub states_of : List Log → List (ℕ × LogState)
states_of logs = map (λ log. (log.number, state_of log)) logs

-- a log that ended, if it is this owner's
abbrev pub ended_log : ℕ → Log → Log
ended_log owner log = if log.owner == owner then record log { live = false } else log

-- a log that may commit behind its last stripe alone, if it lives
abbrev pub marked_log : Log → Log
marked_log log = if log.live then record log { mark = following log.last } else log

-- a stripe behind which there is another
abbrev pub IsLast : Option ℕ → Type 0
IsLast last = IfSome last (λ stripe. stripe + 1 < 2 ^ 64)

-- numbers rise, and so may the stripes
pub record AreLogs (logs : List Log) : Type 0 where
  pub rising : IsStrictlySortedBy nat_cmp (keys_of (states_of logs))
  pub last : AllByRecursion (λ log. IsLast log.last) logs

-- the numbers before place i are below this, and those from there on aren't
pub record IsPlace (logs : List (ℕ × LogState)) (number i : ℕ) : Type 0 where
  pub before : (j : ℕ) → j < i → slice_index (keys_of logs) j < number
  pub behind : (j : ℕ) → i ≤ j → j < length logs → number ≤ slice_index (keys_of logs) j

-- a piece lies in a stripe behind which there is another
abbrev pub StripeFits : Piece → Type 0
StripeFits p = p.stripe ≤ last_value
