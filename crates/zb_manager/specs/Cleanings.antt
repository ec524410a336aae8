-- Where the cleaner's moves of a batch have put blocks, while it is gone through.
use Rattle.std.specs.Prelude.{◌≡◌, ℕ, ◌==◌, ◌&&◌, ◌++◌, Bool, List, Option, Some, None}
use Rattle.std.specs.Map.{lookup}
use Rattle.zb_types.specs.declared.ids.Ptr.{Ptr}
use Rattle.zb_types.specs.Keyed.{look}
use Rattle.zb_delta.specs.declared.delta.Delta.{Delta}
use Rattle.zb_delta.specs.Spelling.{body_of}
use Rattle.zb_tables.specs.Fold.{Files, moved}
use Rattle.zb_pointers.specs.Seen.{blocks_of, seen_head}
use Rattle.zb_manager.specs.declared.cleaning.Cleaning.{Cleaning}
use Rattle.zb_manager.specs.Works.{one_movable}

-- where moves have put blocks, by file and block
abbrev pub Places : Type 0
Places = List ((ℕ × ℕ) × Ptr)

-- are a file and a block these?
abbrev pub is_place : ℕ × ℕ → ℕ × ℕ → Bool
is_place place other = place.0 == other.0 && place.1 == other.1

-- where the moves have put a block, if one of them did
abbrev pub place_in : Places → ℕ × ℕ → Option Ptr
place_in places place = lookup (is_place place) places

-- the first that there is
abbrev pub or_else : Option Ptr → Option Ptr → Option Ptr
or_else (Some ptr) other = Some ptr
or_else None other = other

-- where a block of files stands
abbrev pub block_at : Files → ℕ × ℕ → Option Ptr
block_at files place = look place.1 (blocks_of (look place.0 files))

-- moves that have put blocks in these places lead from the files of old to those that are now
pub record LeadsTo (places : Places) (old now : Files) : Type 0 where
  pub heads : (fid : ℕ) → seen_head (look fid now) ≡ seen_head (look fid old)
  pub blocks : (place : ℕ × ℕ) → block_at now place ≡ or_else (place_in places place) (block_at old place)

-- one more delta has been gone through
pub record TakesMove (old new : Cleaning) (files now : Files) (d : Delta) : Type 0 where
  pub leads : LeadsTo new.places.entries files (moved (body_of d) now)
  pub moves : new.moves ≡ old.moves ++ one_movable d now
