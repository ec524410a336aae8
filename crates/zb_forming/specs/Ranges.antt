-- The bytes of a range of a file.
use Rattle.std.specs.Prelude.{ℕ, ◌-◌, ◌/◌, ◌%◌, List, map, slice_index}
use Rattle.std.specs.List.{range_with_len}
use Rattle.zb_types.specs.declared.ids.Ptr.{Ptr}
use Rattle.zb_types.specs.declared.tables.Found.{Found}
use Rattle.zb_types.specs.Keyed.{look}
use Rattle.zb_basis.specs.Operations.{block_bytes}

-- byte i of a file as it was looked up
abbrev pub byte_of : ℕ → (Ptr → List ℕ) → Found → ℕ → ℕ
byte_of b bytes found i = slice_index (block_bytes bytes (look (i / b) found.blocks)) (i % b)

-- the bytes from the one place to before the other
abbrev pub bytes_in : ℕ → (Ptr → List ℕ) → Found → ℕ → ℕ → List ℕ
bytes_in b bytes found from to = map (byte_of b bytes found) (range_with_len from (to - from))
