-- What an index holds: names with where each stands, and the free slots.
use Rattle.std.specs.Prelude.{ℕ, Bool, List, Option, is_some}
use Rattle.std.specs.List.Sorted.{IsStrictlySortedBy}
use Rattle.std.specs.Map.{lookup, keys_of}
use Rattle.zb_types.specs.declared.ids.FragId.{FragId}
use Rattle.zb_types.specs.Order.{frag_cmp}
use Rattle.zb_holding.specs.Carrying.{same_frag}
use Rattle.zb_index.specs.declared.spot.Spot.{Spot}

-- names, each with where it stands
abbrev pub Entries : Type 0
Entries = List (FragId × Spot)

-- each name once, in order
abbrev pub IsInOrder : Entries → Type 0
IsInOrder entries = IsStrictlySortedBy frag_cmp (keys_of entries)

-- the names in order, and the free slots in any order
pub record SeenIndex : Type 0 where
  pub entries : Entries
  pub free : List ℕ

-- where a name stands among entries, if it is one of them
abbrev pub spot_in : Entries → FragId → Option Spot
spot_in entries id = lookup (same_frag id) entries

-- where a name stands, if it is held
abbrev pub spot_of : SeenIndex → FragId → Option Spot
spot_of index id = spot_in index.entries id

-- is a name held?
abbrev pub is_held : SeenIndex → FragId → Bool
is_held index id = is_some (spot_of index id)
