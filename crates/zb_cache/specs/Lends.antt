-- What a cache is once a reference into it has ended.
use Rattle.std.specs.Prelude.{◌≡◌, ℕ, List, ⊤}
use Rattle.std.specs.Borrow.{Fml, MutBor, follows_so}
use mathlib.Core.Option.{none}
use Rattle.zb_types.specs.declared.ids.Ptr.{Ptr}
use Rattle.zb_cache.specs.Entries.{SeenCache}
use Rattle.zb_cache.specs.contracts.cache.BlockCache.{the_row}

-- it has these blocks and this room
abbrev pub EndsAs : MutBor SeenCache → List (Ptr × List ℕ) → ℕ → Fml
EndsAs cache blocks n = follows_so the_row the_row cache.ghost_name none (λ _ _. ⊤) (λ now. now ≡ record { entries = blocks; room = n })
