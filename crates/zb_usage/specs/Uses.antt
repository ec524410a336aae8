-- How many bytes of a stripe pointers name, and which stripes may be cleaned.
use Rattle.std.specs.Prelude.{ℕ, ◌+◌, Bool, false, not, ◌==◌, ◌&&◌, nat_lt, if◌then◌else◌, List, [], ◌∷◌, filter, Option, Some, None}
use Rattle.std.specs.List.{flat_map, list_any}
use Rattle.zb_types.specs.declared.ids.LogId.{LogId}
use Rattle.zb_types.specs.declared.ids.Ptr.{Ptr}
use Rattle.zb_types.specs.declared.tables.HeldUse.{HeldUse}
use Rattle.zb_types.specs.declared.tables.LogUse.{LogUse}
use Rattle.zb_delta.specs.declared.delta.Body.{Body}
use Rattle.zb_tables.specs.Tables.{Tables}
use Rattle.zb_tables.specs.Finding.{is_into, live, status}
use Rattle.zb_usage.specs.declared.stripe_use.StripeUse.{StripeUse}

-- the bytes of a stripe that a pointer names, if there is one
abbrev pub bytes_in : LogId → ℕ → Option Ptr → ℕ
bytes_in log stripe None = 0
bytes_in log stripe (Some p) = if is_into log stripe p then p.len else 0

-- the bytes of a stripe that pointers name
abbrev pub named_bytes : LogId → ℕ → List Body → ℕ
named_bytes log stripe [] = 0
named_bytes log stripe (body ∷ bodies) = bytes_in log stripe (Some body.now) + named_bytes log stripe bodies

-- the use of a stripe: how many of its bytes the pointers of the tables name
abbrev pub stripe_use : Tables → LogId → ℕ → ℕ
stripe_use t log stripe = named_bytes log stripe (live t log stripe)

-- the pointers of the tables into their held stripes, one stripe behind the other
abbrev pub all_live : Tables → List Body
all_live t = flat_map (λ h. live t h.log h.stripe) t.held

-- is it this stripe?
abbrev pub is_stripe : ℕ → Option ℕ → Bool
is_stripe stripe None = false
is_stripe stripe (Some last) = last == stripe

-- does this log live, with that stripe as its last one?
abbrev pub goes_on_in : HeldUse → LogUse → Bool
goes_on_in h l = l.live && (l.log.0 == h.log.0 && is_stripe h.stripe l.last)

-- the held stripes other than the last one of a live log
abbrev pub closed : List LogUse → List HeldUse → List HeldUse
closed logs held = filter (λ h. not (list_any (goes_on_in h) logs)) held

-- a held stripe with its use
abbrev pub with_use : (LogId → ℕ → ℕ) → HeldUse → StripeUse
with_use count h = record { log = h.log; stripe = h.stripe; bytes = h.end; live = count h.log h.stripe; born = h.born }

-- some of the committed bytes are named by no pointer
abbrev pub has_dead : StripeUse → Bool
has_dead u = nat_lt u.live u.bytes

-- of some stripes those that are worth cleaning, with their use
abbrev pub candidates_of : (LogId → ℕ → ℕ) → List HeldUse → List StripeUse
candidates_of count [] = []
candidates_of count (h ∷ hs) = if has_dead (with_use count h) then with_use count h ∷ candidates_of count hs else candidates_of count hs

-- the stripes that may be cleaned: held ones by log and stripe, other than the last one of a live log, with dead bytes
abbrev pub candidates_in : Tables → List StripeUse
candidates_in t = candidates_of (stripe_use t) (closed (status t).logs t.held)
