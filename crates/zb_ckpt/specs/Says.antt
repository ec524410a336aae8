-- What platter 0 says of the checkpoint: the root cell at 0, and the pages of the slot that it names.
use Rattle.std.specs.Prelude.{◌≡◌, ◌⊎◌, ◌<◌, ◌+◌, ◌*◌, ◌/◌, ◌%◌, ℕ, List, length, slice_index, None, Some}
use Rattle.zb_cell.specs.Cell.{value}
use Rattle.zb_ckpt.specs.declared.numbers.Numbers.{Numbers}
use Rattle.zb_ckpt.specs.declared.root.Root.{Root}
use Rattle.zb_ckpt.specs.Root.{HaveRoom, IsRoot, first_wrong, payload_text, root_text}

-- where byte i of the checkpoint in this slot stands: in pages of 65536 bytes, those of the two slots by turns
abbrev pub place_of : (slot i : ℕ) → ℕ
place_of slot i = 1048576 + (2 * (i / 65536) + slot) * 65536 + i % 65536

-- in how many pages so many bytes stand
abbrev pub pages_of : ℕ → ℕ
pages_of n = (n + 65535) / 65536

-- these bytes stand in the pages of this slot
abbrev pub BytesStand : List ℕ → (slot : ℕ) → List ℕ → Type 0
BytesStand image slot bytes = (i : ℕ) → i < length bytes → slice_index image (place_of slot i) ≡ slice_index bytes i

-- the platter reaches as far as they do
abbrev pub Reaches : List ℕ → (slot : ℕ) → List ℕ → Type 0
Reaches image slot bytes = (i : ℕ) → i < length bytes → place_of slot i < length image

-- the root cell has this root, and these are the bytes of its checkpoint
pub record Says (image : List ℕ) (root : Root) (bytes : List ℕ) : Type 0 where
  pub is : IsRoot root
  pub cell : value image 0 ≡ Some (root_text root)
  pub size : length bytes ≡ root.length
  pub stand : BytesStand image root.slot bytes

-- and the platter has all of them
pub record Holds (image : List ℕ) (root : Root) (bytes : List ℕ) : Type 0 where
  pub says : Says image root bytes
  pub reaches : Reaches image root.slot bytes

-- these 40 bytes have this as their first wrong field
pub record HasWrong (payload : List ℕ) (field : ℕ) : Type 0 where
  pub numbers : Numbers
  pub room : HaveRoom numbers
  pub text : payload_text numbers ≡ payload
  pub first : first_wrong numbers ≡ Some field

-- the root cell has no value, which is field 1, or a value with this as its first wrong field
abbrev pub IsForeign : List ℕ → ℕ → Type 0
IsForeign image field = ((value image 0 ≡ None) × (field ≡ 1)) ⊎ ((payload : List ℕ) × ((value image 0 ≡ Some payload) × HasWrong payload field))
