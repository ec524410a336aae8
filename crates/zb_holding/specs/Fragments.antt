-- What a server keeps under a fragment's name.
use Rattle.std.specs.Prelude.{ℕ, List}

-- the bytes of a share, or the parity of a stripe's shares with the length that it covers of each
pub data Fragment : Type 0 where
  share_fragment : (bytes : List ℕ) → Fragment
  parity_fragment : (lengths bytes : List ℕ) → Fragment
