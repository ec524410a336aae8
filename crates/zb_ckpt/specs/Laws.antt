-- What is so of every checkpoint.
use Rattle.std.specs.Prelude.{◌≡◌, ◌<◌, ◌⊎◌, ◌≤◌, ℕ, List, length, slice_index}
use Rattle.zb_ckpt.specs.declared.root.Root.{Root}
use Rattle.zb_ckpt.specs.Says.{Says, Holds, IsForeign}

-- an image says one root, and one checkpoint
abbrev pub SaysOne : Type 0
SaysOne = (image : List ℕ) (root other : Root) (bytes others : List ℕ) → Says image root bytes → Says image other others → (root ≡ other) × (bytes ≡ others)

-- an image that says a root is foreign in no field
abbrev pub SaysNoForeign : Type 0
SaysNoForeign = (image : List ℕ) (root : Root) (bytes : List ℕ) (field : ℕ) → Says image root bytes → IsForeign image field → ⊥

-- an image is foreign in one field
abbrev pub ForeignOnce : Type 0
ForeignOnce = (image : List ℕ) (field other : ℕ) → IsForeign image field → IsForeign image other → field ≡ other

-- where bytes between the root cell and the pages alone change, the checkpoint is the same
abbrev pub DependsOnCellAndPages : Type 0
DependsOnCellAndPages = (image other : List ℕ) (root : Root) (bytes : List ℕ) → length other ≡ length image → ((i : ℕ) → (i < 128) ⊎ (1048576 ≤ i) → slice_index other i ≡ slice_index image i) → Holds image root bytes → Holds other root bytes
