-- The bytes of a file that is written or cut, byte by byte.
use Rattle.std.specs.Prelude.{ℕ, ◌+◌, ◌-◌, max, ◌&&◌, nat_lt, nat_le, if◌then◌else◌, List, length, map, slice_index}
use Rattle.std.specs.List.{range_with_len}

-- the n bytes that a function gives
abbrev pub first_bytes : ℕ → (ℕ → ℕ) → List ℕ
first_bytes n byte = map byte (range_with_len 0 n)

-- byte i after these bytes were written over the old ones: past both ends it is zero
abbrev pub byte_over : List ℕ → ℕ → List ℕ → ℕ → ℕ
byte_over old offset bytes i = if nat_le offset i && nat_lt i (offset + length bytes) then slice_index bytes (i - offset) else slice_index old i

-- zeros fill a gap, then the bytes
abbrev pub written : List ℕ → ℕ → List ℕ → List ℕ
written old offset bytes = first_bytes (max (length old) (offset + length bytes)) (byte_over old offset bytes)

-- cut, or extended by zeros
abbrev pub resized : List ℕ → ℕ → List ℕ
resized old n = first_bytes n (slice_index old)
