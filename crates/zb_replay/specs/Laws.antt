-- What is so of every platter that a node is opened of.
use Rattle.std.specs.Prelude.{ℕ, List}
use Rattle.std.specs.List.{AllByRecursion}
use Rattle.zb_types.specs.declared.geometry.Geometry.{Geometry}
use Rattle.zb_entries.specs.declared.entry.Entry.{Entry}
use Rattle.zb_tables.specs.Tables.{Tables, Contents}
use Rattle.zb_platter.specs.Says.{SaysTables}
use Rattle.zb_replay.specs.Opening.{IsWrong, Lacks}

-- no bytes of the entry's batch are missing
abbrev pub LacksNone : Contents → Entry → Type 0
LacksNone contents entry = Lacks contents entry → ⊥

-- where it says tables, and the bytes of its entries are there, no field of it is wrong
abbrev pub SaysNoWrong : Type 0
SaysNoWrong = (geo : Geometry) (contents : Contents) (image : List ℕ) (tables : Tables) (field : ℕ) → (h : SaysTables geo contents image tables)
    → AllByRecursion (LacksNone contents) h.platter.entries → IsWrong contents image field → ⊥
