-- What is done where an entry is written for the tables in memory.
use Rattle.std.specs.Prelude.{◌≡◌, ◌⊎◌, false, Result, OnOk, OnErr}
use Rattle.zb_types.specs.declared.geometry.Geometry.{Geometry}
use Rattle.zb_entries.specs.declared.entry.Entry.{Entry}
use Rattle.zb_outside.specs.Meaning.{Meaning}
use Rattle.zb_outside.specs.Runs.{Run}
use Rattle.zb_tables.specs.Tables.{Tables, Contents}
use Rattle.zb_spelling.specs.Spelling.{spelling_of_tables}
use Rattle.zb_platter.specs.declared.faults.NodeFault.{NodeFault}
use Rattle.zb_platter.specs.Says.{SaysTables, SaysEither}
use Rattle.zb_platter.specs.Standing.{SeenPlatter, Stands}
use Rattle.zb_platter.specs.Changing.{with_checkpoint, with_entry}
use Rattle.zb_platter.specs.Faults.{is_stopped}

-- the platter is as it was, or these tables are its checkpoint
abbrev pub IsPlaced : Tables → SeenPlatter → SeenPlatter → Type 0
IsPlaced t old new = (new ≡ old) ⊎ (new ≡ with_checkpoint old (spelling_of_tables t))

-- the platter has one more entry, behind those that it had or behind a checkpoint of these tables
abbrev pub IsEntered : Tables → Entry → SeenPlatter → SeenPlatter → Type 0
IsEntered t entry old new = (new ≡ with_entry old entry) ⊎ (new ≡ with_entry (with_checkpoint old (spelling_of_tables t)) entry)

-- in this system: on the way the platter says the tables, and unless one of its calls failed it stands with them again
pub record PlaceTold {T : Type 0} (geo : Geometry) (p : SeenPlatter) (contents : Contents) (t : Tables) (result : Result T NodeFault) (old new : Meaning) : Type 0 where
  pub run : Run 0 (λ image. SaysTables geo contents image t) old new
  pub stands : is_stopped result ≡ false → Stands p contents t new.now

-- in this system: on the way the platter says the tables before or those after; it stands with those after where Ok, else with those before,
-- unless one of its calls failed
pub record EnterTold {T : Type 0} (geo : Geometry) (p : SeenPlatter) (contents : Contents) (before after : Tables) (result : Result T NodeFault) (old new : Meaning) : Type 0 where
  pub run : Run 0 (SaysEither geo contents before after) old new
  pub stands : OnOk result (Stands p contents after new.now)
  pub kept : OnErr result (is_stopped result ≡ false → Stands p contents before new.now)
