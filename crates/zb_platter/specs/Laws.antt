-- What is so of every platter of tables.
use Rattle.std.specs.Prelude.{◌≡◌, ℕ, List, None}
use Rattle.std.specs.List.{AllByRecursion}
use Rattle.zb_types.specs.declared.geometry.Geometry.{Geometry}
use Rattle.zb_types.specs.declared.ids.LogId.{LogId}
use Rattle.zb_entries.specs.declared.entry.Entry.{Entry}
use Rattle.zb_tables.specs.Tables.{Tables, Contents}
use Rattle.zb_tables.specs.Taking.{IsElsewhere}
use Rattle.zb_platter.specs.Naming.{first_naming}
use Rattle.zb_platter.specs.Says.{SaysTables}

-- an image says one value of the tables
abbrev pub SaysOne : Type 0
SaysOne = (geo : Geometry) (contents : Contents) (image : List ℕ) (one other : Tables)
    → SaysTables geo contents image one → SaysTables geo contents image other → one ≡ other

-- an image says the tables of one system
abbrev pub SystemOnce : Type 0
SystemOnce = (geo system : Geometry) (contents bytes : Contents) (image : List ℕ) (one other : Tables)
    → SaysTables geo contents image one → SaysTables system bytes image other → geo ≡ system

-- where no entry is found that names a stripe, each names others alone
abbrev pub NoneNames : Type 0
NoneNames = (number : ℕ) (log : LogId) (stripe : ℕ) (entries : List Entry) → first_naming number log stripe entries ≡ None → AllByRecursion (IsElsewhere log stripe) entries
