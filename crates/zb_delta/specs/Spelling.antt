-- The bytes of a delta.
use Rattle.std.specs.Prelude.{◌≡◌, ℕ, List, ◌∷◌, ◌++◌, Option, Some, None, IfSome}
use Rattle.zb_types.specs.declared.ids.Ptr.{Ptr}
use Rattle.zb_numbers.specs.Numbers.{number_text, IsBelow, zeros}
use Rattle.zb_delta.specs.declared.delta.Body.{Body}
use Rattle.zb_delta.specs.declared.delta.Delta.{Delta}
use Rattle.zb_delta.specs.declared.delta.Delta.TheVariants.{Update, Clean, Reject}

-- a delta has 58 bytes
abbrev pub delta_length : ℕ
delta_length = 58

-- log, stripe, offset and length
abbrev pub ptr_text : Ptr → List ℕ
ptr_text p = number_text 4 p.log.0 ++ (number_text 8 p.stripe ++ (number_text 4 p.offset ++ number_text 4 p.len))

-- 1 and the pointer, or zeros where it is absent
abbrev pub old_text : Option Ptr → List ℕ
old_text None = 0 ∷ zeros 20
old_text (Some p) = 1 ∷ ptr_text p

-- the file, its version, the block, the old pointer and the new one
abbrev pub body_text : Body → List ℕ
body_text body = number_text 4 body.fid.0 ++ (number_text 8 body.version ++ (number_text 4 body.block ++ (old_text body.was ++ ptr_text body.now)))

-- the number of a delta's kind
abbrev pub kind_of : Delta → ℕ
kind_of (Update body) = 1
kind_of (Clean body) = 2
kind_of (Reject body table) = 3

-- the body that is written: a reject's has the table's pointer in place of the old one
abbrev pub body_of : Delta → Body
body_of (Update body) = body
body_of (Clean body) = body
body_of (Reject body table) = record body { was = table }

-- the kind, and the body
unfoldable pub spelling_of_delta : Delta → List ℕ
spelling_of_delta delta = kind_of delta ∷ body_text (body_of delta)

-- the delta that its bytes give: a reject has no old pointer
abbrev pub as_read : Delta → Delta
as_read (Update body) = Update body
as_read (Clean body) = Clean body
as_read (Reject body table) = Reject (record body { was = None }) table

-- numbers that have room in their bytes
pub record IsPtr (p : Ptr) : Type 0 where
  pub log : IsBelow 4 p.log.0
  pub stripe : IsBelow 8 p.stripe
  pub offset : IsBelow 4 p.offset
  pub len : IsBelow 4 p.len

-- an old pointer, if there is one, has room in its bytes
abbrev pub IsOld : Option Ptr → Type 0
IsOld was = IfSome was IsPtr

-- each number of a body has room in its bytes
pub record IsBody (body : Body) : Type 0 where
  pub fid : IsBelow 4 body.fid.0
  pub version : IsBelow 8 body.version
  pub block : IsBelow 4 body.block
  pub was : IsOld body.was
  pub now : IsPtr body.now

-- a delta whose numbers have room in their bytes
abbrev pub IsDelta : Delta → Type 0
IsDelta delta = IsBody (body_of delta)

-- a delta that may be read
abbrev pub IsRead : Delta → Type 0
IsRead delta = IsDelta delta × (as_read delta ≡ delta)

-- the delta of this kind with this body, or that there is none
abbrev pub IsOfKind : ℕ → Body → Option Delta → Type 0
IsOfKind kind body (Some delta) = (kind_of delta ≡ kind) × (body_of delta ≡ body) × (as_read delta ≡ delta)
IsOfKind kind body None = (delta : Delta) → kind_of delta ≡ kind → ⊥
