-- The delta of one block.
use Rattle.std.specs.Prelude.{◌≡◌, ℕ, List, slice_get, Some}
use Rattle.zb_types.specs.declared.ids.Ptr.{Ptr}
use Rattle.zb_delta.specs.declared.delta.Body.{Body}
use Rattle.zb_delta.specs.declared.delta.Delta.{Delta}
use Rattle.zb_pass.specs.Moving.{moved}

-- the delta moves the block at this place from its old pointer to the new one, at the version of its file
pub record MovesOne (live : List Body) (ptrs : List Ptr) (k : ℕ) (delta : Delta) : Type 0 where
  pub body : Body
  pub ptr : Ptr
  pub from : slice_get live k ≡ Some body
  pub to : slice_get ptrs k ≡ Some ptr
  pub is : delta ≡ moved body ptr
