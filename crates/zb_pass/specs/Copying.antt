-- The blocks that a pass copies.
use Rattle.std.specs.Prelude.{◌≡◌, true, ℕ, ◌+◌, ◌<◌, ◌≤◌, List, [], ◌∷◌, length, slice_get, Option}
use Rattle.zb_types.specs.declared.ids.Ptr.{Ptr}
use Rattle.zb_delta.specs.declared.delta.Body.{Body}
use Rattle.zb_tables.specs.Finding.{is_into}
use Rattle.zb_pass.specs.declared.work.Target.{Target}
use Rattle.zb_pass.specs.declared.work.Copies.{Copies}

-- a pointer to a block that may have so many bytes, within a stripe's room
pub record IsBlock (room most : ℕ) (body : Body) : Type 0 where
  pub some : 0 < body.now.len
  pub fits : body.now.len ≤ most
  pub within : body.now.offset + body.now.len ≤ room

-- a pointer to a block of the picked stripe
pub record IsLive (room most : ℕ) (target : Target) (body : Body) : Type 0 where
  pub block : IsBlock room most body
  pub into : is_into target.log target.stripe body.now ≡ true

-- the first of these blocks have come, each with as many bytes as its pointer says
abbrev pub AreCopied : List Body → List (List ℕ) → Type 0
AreCopied live [] = Unit {0}
AreCopied [] (block ∷ blocks) = ⊥
AreCopied (body ∷ live) (block ∷ blocks) = (length block ≡ body.now.len) × AreCopied live blocks

-- whatever stands at pointers: the blocks that have come are what stands at their old ones
abbrev pub AreBytes : (Ptr → List ℕ) → List Body → List (List ℕ) → Type 0
AreBytes bytes live [] = Unit {0}
AreBytes bytes [] (block ∷ blocks) = ⊥
AreBytes bytes (body ∷ live) (block ∷ blocks) = (bytes body.now ≡ block) × AreBytes bytes live blocks

-- the first block that hasn't come
abbrev pub next_body : Copies → Option Body
next_body copies = slice_get copies.live (length copies.blocks)
