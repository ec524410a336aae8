-- Numbers in bytes.
use Rattle.std.specs.Prelude.{ℕ, ◌<◌, ◌^◌, List, replicate}
use Rattle.byteorder.specs.Endian.{big_bytes}

-- a number in n bytes, the highest byte first
unfoldable pub number_text : ℕ → ℕ → List ℕ
number_text n x = big_bytes n x

-- it has room in n bytes
abbrev pub IsBelow : ℕ → ℕ → Type 0
IsBelow n x = x < 256 ^ n

-- n zero bytes
abbrev pub zeros : ℕ → List ℕ
zeros n = replicate n 0
