-- The bytes of a script, and its lines.
use Rattle.std.specs.Prelude.{◌≡◌, ◌≢◌, ℕ, ◌+◌, ◌<◌, ◌≤◌, Bool, true, not, List, [], ◌∷◌, ◌++◌, length, ◌==◌, ◌&&◌, IsTrue, nat_le}
use Rattle.std.specs.List.{flat_map, list_any, AllByRecursion}
use Rattle.zb_types.specs.declared.geometry.Geometry.{Geometry}
use Rattle.zb_types.specs.declared.lines.Line.{Line}
use Rattle.zb_claims.specs.Text.{newline, spelled, header_text, IsLine, max_script}

-- an empty line, or a comment, or a line that says something
pub data Row : Type 0 where
  skipped : List ℕ → Row
  said : Line → Row

-- the bytes of a row
abbrev pub row_text : Row → List ℕ
row_text (skipped bytes) = bytes ++ newline
row_text (said line) = spelled line

-- an empty line, or one that begins with `#`, of at most 16,999 bytes
abbrev pub is_comment : List ℕ → Bool
is_comment [] = true
is_comment (b ∷ bytes) = b == 35 && not (list_any (λ c. c == 10) bytes) && nat_le (length bytes) 16999

-- a row that a script may have
abbrev pub IsRow : Geometry → Row → Type 0
IsRow geo (skipped bytes) = IsTrue (is_comment bytes)
IsRow geo (said line) = IsLine geo line

-- what a row says, if it says something
abbrev pub line_in : Row → List Line
line_in (skipped bytes) = []
line_in (said line) = line ∷ []

-- which lines a script may have: those before its header, headers, and rows behind it
pub record Grammar : Type 1 where
  pub before : List ℕ → Type 0
  pub header : Geometry → Type 0
  pub row : Geometry → Row → Type 0

-- the whole language: empty lines and comments stand anywhere
abbrev pub whole : Grammar
whole = record { before = λ bytes. IsTrue (is_comment bytes); header = λ geo. Unit {0}; row = IsRow }

-- bytes with the end of a line
abbrev pub ended_line : List ℕ → List ℕ
ended_line bytes = bytes ++ newline

-- the bytes of rows
abbrev pub rows_text : List Row → List ℕ
rows_text rows = flat_map row_text rows

-- the lines among the rows
abbrev pub lines_in : List Row → List Line
lines_in rows = flat_map line_in rows

-- these rows stand behind the header, and this follows
pub record Begins (g : Grammar) (script : List ℕ) (geo : Geometry) (rows : List Row) (rest : List ℕ) : Type 0 where
  pub heads : List (List ℕ)
  pub text : script ≡ flat_map ended_line heads ++ header_text geo ++ rows_text rows ++ rest
  pub skipped_first : AllByRecursion g.before heads
  pub limits : g.header geo
  pub valid : AllByRecursion (g.row geo) rows
  pub short : length script ≤ max_script + length rest

-- the next line is outside the grammar, or ends past the limit
pub record IsBad (g : Grammar) (script : List ℕ) (geo : Geometry) (rest : List ℕ) : Type 0 where
  pub more : rest ≢ []
  pub none : (row : Row) (after : List ℕ) → g.row geo row → rest ≡ row_text row ++ after → max_script + length after < length script

-- line `number` is the first that isn't in the grammar, behind these lines
pub record StopsAt (g : Grammar) (script : List ℕ) (geo : Geometry) (rows : List Row) (number : ℕ) : Type 0 where
  pub rest : List ℕ
  pub begins : Begins g script geo rows rest
  pub bad : IsBad g script geo rest
  pub at : number ≡ length begins.heads + length rows + 2

-- no header stands in the first line that may not stand before it, and that line has this number
pub record HasNoHeader (g : Grammar) (script : List ℕ) (number : ℕ) : Type 0 where
  pub heads : List (List ℕ)
  pub rest : List ℕ
  pub text : script ≡ flat_map ended_line heads ++ rest
  pub skipped_first : AllByRecursion g.before heads
  pub short : length script ≤ max_script + length rest
  pub not_skipped : (bytes after : List ℕ) → g.before bytes → rest ≡ ended_line bytes ++ after → max_script + length after < length script
  pub none : (geo : Geometry) (after : List ℕ) → g.header geo → rest ≡ header_text geo ++ after → max_script + length after < length script
  pub at : number ≡ length heads + 1
