-- Blocks under their pointers, the last used first.
use Rattle.std.specs.Prelude.{ℕ, ◌-◌, Bool, ◌&&◌, ◌==◌, List, ◌∷◌, take, Option}
use Rattle.std.specs.Option.{option_map_or}
use Rattle.std.specs.Map.{lookup, remove_entry}
use Rattle.zb_types.specs.declared.ids.Ptr.{Ptr}

-- the blocks, and how many there may be
pub record SeenCache : Type 0 where
  pub entries : List (Ptr × List ℕ)
  pub room : ℕ

-- both point to the same bytes
abbrev pub same_ptr : Ptr → Ptr → Bool
same_ptr p q = p.log.0 == q.log.0 && (p.stripe == q.stripe && (p.offset == q.offset && p.len == q.len))

-- the bytes of the block under this pointer
abbrev pub bytes_under : Ptr → List (Ptr × List ℕ) → Option (List ℕ)
bytes_under p entries = lookup (same_ptr p) entries

-- without the block under this pointer
abbrev pub others : Ptr → List (Ptr × List ℕ) → List (Ptr × List ℕ)
others p entries = remove_entry (same_ptr p) entries

-- the block under this pointer goes first, where there is one
abbrev pub after_use : Ptr → List (Ptr × List ℕ) → List (Ptr × List ℕ)
after_use p entries = option_map_or (λ bytes. (p, bytes) ∷ others p entries) (bytes_under p entries) entries

-- these bytes go first under this pointer; where it is a new one, the last of n blocks makes room
abbrev pub after_put : ℕ → Ptr → List ℕ → List (Ptr × List ℕ) → List (Ptr × List ℕ)
after_put n p bytes entries = (p, bytes) ∷ option_map_or (λ _. others p entries) (bytes_under p entries) (take (n - 1) entries)
