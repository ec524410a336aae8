-- The ranges of shares in which the bytes of a pointer lie.
use Rattle.std.specs.Prelude.{◌≡◌, ℕ, ◌+◌, ◌-◌, ◌*◌, ◌/◌, ◌%◌, ◌<◌, ◌≤◌, min, max, List, map, take, drop, if◌then◌else◌, ◌==◌}
use Rattle.std.specs.List.{range_with_len, flat_map}
use Rattle.zb_holding.specs.Placing.{share_of}
use Rattle.zb_layout.specs.declared.span_list.Span.{Span}

-- where the bytes from an offset on begin that lie in share k
abbrev pub from_in : ℕ → ℕ → ℕ → ℕ
from_in f offset k = max offset (k * f)

-- and where they end, of n bytes
abbrev pub to_in : ℕ → ℕ → ℕ → ℕ → ℕ
to_in f offset n k = min (offset + n) (k * f + f)

-- the range of share k
abbrev pub span_of : ℕ → ℕ → ℕ → ℕ → Span
span_of f offset n k = record { index = k; place = from_in f offset k - k * f; len = to_in f offset n k - from_in f offset k }

-- in how many shares n bytes from an offset on lie
abbrev pub span_count : ℕ → ℕ → ℕ → ℕ
span_count f offset n = if n == 0 then 0 else (offset % f + n - 1) / f + 1

-- the ranges of n bytes from an offset on, by index
abbrev pub spans_of : ℕ → ℕ → ℕ → List Span
spans_of f offset n = map (span_of f offset n) (range_with_len (offset / f) (span_count f offset n))

-- the bytes of a stripe in a range
abbrev pub bytes_in : ℕ → List ℕ → Span → List ℕ
bytes_in f bytes span = take span.len (drop span.place (share_of f bytes span.index))

-- of every stripe the ranges, one behind the other, give the n bytes from the offset on
abbrev pub Covers : ℕ → ℕ → ℕ → List Span → Type 0
Covers f offset n spans = (bytes : List ℕ) → flat_map (bytes_in f bytes) spans ≡ take n (drop offset bytes)

-- a range with a byte, within a share that is not the parity
pub record LiesWithin (servers f : ℕ) (span : Span) : Type 0 where
  pub some : 0 < span.len
  pub room : span.place + span.len ≤ f
  pub is_share : span.index < servers - 1
