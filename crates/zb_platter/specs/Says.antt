-- What platter 0 says of the file manager's tables.
use Rattle.std.specs.Prelude.{◌≡◌, ◌⊎◌, ℕ, ◌+◌, ◌≤◌, List, [], length}
use Rattle.zb_types.specs.declared.geometry.Geometry.{Geometry}
use Rattle.zb_ckpt.specs.declared.root.Root.{Root}
use Rattle.zb_ckpt.specs.Says.{Holds}
use Rattle.zb_journal.specs.Journal.{Says}
use Rattle.zb_tables.specs.Tables.{Tables, Contents}
use Rattle.zb_tables.specs.Replay.{Platter}
use Rattle.zb_tables.specs.Taking.{AreTaken}
use Rattle.zb_spelling.specs.Spelling.{spelling_of_tables}
use Rattle.zb_spelling.specs.Unspelling.{IsCheckpoint, sizes_of}

-- the root names a checkpoint of these tables, and from their next entry on the journal has these entries, up to that place
pub record HasPlatter (image : List ℕ) (root : Root) (platter : Platter) (place : ℕ) : Type 0 where
  pub within : 4096 + 65536 ≤ length image
  pub is : IsCheckpoint (sizes_of root.geo) platter.tables
  pub checkpoint : Holds image root (spelling_of_tables platter.tables)
  pub first : root.first ≡ platter.tables.next_entry
  pub journal : Says image root.first platter.entries place

-- in a system of these sizes, where stripes have these bytes, platter 0 says these tables: those that its entries make of its
-- checkpoint, which can take them one behind the other
pub record SaysTables (geo : Geometry) (contents : Contents) (image : List ℕ) (tables : Tables) : Type 0 where
  pub root : Root
  pub platter : Platter
  pub place : ℕ
  pub system : root.geo ≡ geo
  pub has : HasPlatter image root platter place
  pub taken : AreTaken (sizes_of geo) contents [] platter.tables platter.entries tables

-- the tables before a change, or those after it
abbrev pub SaysEither : Geometry → Contents → Tables → Tables → List ℕ → Type 0
SaysEither geo contents before after image = SaysTables geo contents image before ⊎ SaysTables geo contents image after
