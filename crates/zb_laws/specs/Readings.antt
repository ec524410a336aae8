-- The bytes of a script are read in one way.
use Rattle.std.specs.Prelude.{◌≡◌, ◌⊎◌, ℕ, List, [], ◌++◌}
use Rattle.std.specs.List.{AllByRecursion}
use Rattle.zb_types.specs.declared.geometry.Geometry.{Geometry}
use Rattle.zb_claims.specs.Script.{Row, IsRow, rows_text, Grammar, Begins, IsBad, StopsAt, HasNoHeader}

-- these rows are the first of those, and the others stand at the begin of their rest
pub record IsRowFront (rows all : List Row) (rest more : List ℕ) : Type 0 where
  pub others : List Row
  pub split : all ≡ rows ++ others
  pub text : rest ≡ rows_text others ++ more

-- of two readings of the same bytes one has the first rows of the other
abbrev pub RowsAgree : Type 0
RowsAgree = (geo : Geometry) (rows all : List Row) (rest more : List ℕ) → AllByRecursion (IsRow geo) rows → AllByRecursion (IsRow geo) all → rows_text rows ++ rest ≡ rows_text all ++ more
    → IsRowFront rows all rest more ⊎ IsRowFront all rows more rest

-- the script is read to its end, or to a line that isn't in the grammar
pub record IsReading (g : Grammar) (script : List ℕ) (geo : Geometry) (rows : List Row) (rest : List ℕ) : Type 0 where
  pub begins : Begins g script geo rows rest
  pub last : (rest ≡ []) ⊎ IsBad g script geo rest

-- the same sizes, rows, and what follows them
pub record SameReading (geo other : Geometry) (rows others : List Row) (rest more : List ℕ) : Type 0 where
  pub geometry : geo ≡ other
  pub same_rows : rows ≡ others
  pub same_rest : rest ≡ more

-- the bytes of a script determine its sizes, its rows, and what follows them
abbrev pub OneReading : Grammar → Type 0
OneReading g = (script : List ℕ) (geo other : Geometry) (rows others : List Row) (rest more : List ℕ) → IsReading g script geo rows rest → IsReading g script other others more → SameReading geo other rows others rest more

-- one line is the first that isn't in the grammar
abbrev pub OneStop : Grammar → Type 0
OneStop g = (script : List ℕ) (geo other : Geometry) (rows others : List Row) (number another : ℕ) → StopsAt g script geo rows number → StopsAt g script other others another → number ≡ another

-- a script that has a header isn't one that has none
abbrev pub HeaderOrNone : Grammar → Type 0
HeaderOrNone g = (script : List ℕ) (geo : Geometry) (rows : List Row) (rest : List ℕ) (number : ℕ) → Begins g script geo rows rest → HasNoHeader g script number → ⊥
