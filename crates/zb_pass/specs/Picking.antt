-- What a pass picks.
use Rattle.std.specs.Prelude.{◌≡◌, ℕ, ◌+◌, ◌-◌, ◌%◌, ◌^◌, min, ◌==◌, if◌then◌else◌, List, [], ◌∷◌, filter, slice_get, Option, Some, None}
use Rattle.zb_types.specs.declared.ids.LogId.{LogId}
use Rattle.zb_types.specs.declared.tables.LogUse.{LogUse}
use Rattle.zb_types.specs.declared.tables.Status.{Status}
use Rattle.zb_delta.specs.declared.delta.Body.{Body}
use Rattle.zb_tables.specs.Finding.{is_into}
use Rattle.zb_usage.specs.declared.stripe_use.StripeUse.{StripeUse}
use Rattle.zb_usage.specs.Uses.{candidates_of, closed, named_bytes}
use Rattle.zb_pass.specs.declared.work.Target.{Target}

-- the stripes that may be cleaned, by a status and the pointers into the held stripes
abbrev pub candidates : Status → List Body → List StripeUse
candidates status live = candidates_of (λ log stripe. named_bytes log stripe live % 2 ^ 32) (closed status.logs status.held)

-- the pointers into a stripe
abbrev pub live_of : LogId → ℕ → List Body → List Body
live_of log stripe live = filter (λ body. is_into log stripe body.now) live

-- the last batch of a log, 0 where there is none
abbrev pub last_batch : LogId → List LogUse → ℕ
last_batch log [] = 0
last_batch log (use1 ∷ uses) = if use1.log.0 == log.0 then use1.batch else last_batch log uses

-- the number behind the last batch of a log; one at its last value stands still
abbrev pub next_batch : LogId → List LogUse → ℕ
next_batch log uses = min (last_batch log uses + 1) (2 ^ 64 - 1)

-- a stripe that was picked, with the number of the next batch of this log
abbrev pub target_of : LogId → Status → StripeUse → Target
target_of log status chosen = record { log = chosen.log; stripe = chosen.stripe; number = next_batch log status.logs }

-- one of some stripes was chosen
pub record IsOneOf (stripes : List StripeUse) (chosen : StripeUse) : Type 0 where
  pub place : ℕ
  pub is_at : slice_get stripes place ≡ Some chosen

-- one of the stripes that may be cleaned was chosen; none, where there are none
abbrev pub MayChoose : Status → List Body → Option StripeUse → Type 0
MayChoose status live None = candidates status live ≡ []
MayChoose status live (Some chosen) = IsOneOf (candidates status live) chosen
