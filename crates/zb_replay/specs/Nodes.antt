-- What contracts see of the file manager's node, and how platter 0 stands under it.
use Rattle.std.specs.Prelude.{◌≡◌, ℕ, min, Bool, false, List, Option, None, Some}
use Rattle.zb_types.specs.declared.geometry.Geometry.{Geometry}
use Rattle.zb_outside.specs.Meaning.{Meaning, Standing}
use Rattle.zb_outside.specs.Runs.{Run}
use Rattle.zb_tables.specs.Tables.{Tables, Contents, last_value}
use Rattle.zb_spelling.specs.Unspelling.{sizes_of}
use Rattle.zb_manager.specs.Managers.{SeenManager}
use Rattle.zb_platter.specs.Says.{SaysTables, SaysEither}
use Rattle.zb_platter.specs.Standing.{SeenPlatter, Stands}

-- the file manager in memory, and what is known of its platter
pub record SeenNode : Type 0 where
  pub manager : SeenManager
  pub platter : SeenPlatter

-- both are of one system, and number the next entry alike, but that the tables' number stands still at its last value
pub record IsNode (manager : SeenManager) (platter : SeenPlatter) : Type 0 where
  pub system : manager.sizes ≡ sizes_of platter.root.geo
  pub next : manager.tables.next_entry ≡ min platter.journal.number last_value

-- platter 0 stands as is known, with the tables of the file manager, where stripes have these bytes
abbrev pub NodeStands : SeenNode → Contents → Standing → Type 0
NodeStands node contents s = Stands node.platter contents node.manager.tables s

-- an image says the tables before a change, or those after it, where it makes any
abbrev pub SaysBeforeOr : Geometry → Contents → Tables → Option Tables → List ℕ → Type 0
SaysBeforeOr geo contents before None image = SaysTables geo contents image before
SaysBeforeOr geo contents before (Some after) image = SaysEither geo contents before after image

-- in this system: on the way platter 0 says the tables before or those after, and unless one of its calls failed it stands under the node again
pub record NodeTold (geo : Geometry) (node : SeenNode) (contents : Contents) (before : Tables) (after : Option Tables) (stopped : Bool) (old new : Meaning) : Type 0 where
  pub run : Run 0 (SaysBeforeOr geo contents before after) old new
  pub stands : stopped ≡ false → NodeStands node contents new.now

-- sizes and holder are as before, and so is the system of the platter
pub record SameSystem (old new : SeenNode) : Type 0 where
  pub sizes : new.manager.sizes ≡ old.manager.sizes
  pub holder : new.manager.holder ≡ old.manager.holder
  pub system : new.platter.root.geo ≡ old.platter.root.geo
