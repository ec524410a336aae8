-- Where a script is being read, and what its next bytes are.
use Rattle.std.specs.Prelude.{◌≡◌, ◌≢◌, ◌⊎◌, ℕ, ◌+◌, ◌≤◌, ◌<◌, List, [], ◌++◌, length, drop, Option, Some, None, IsTrue, position, ◌==◌}
use Rattle.zb_types.specs.declared.geometry.Geometry.{Geometry}
use Rattle.zb_types.specs.declared.lines.Line.{Line}
use Rattle.zb_claims.specs.Text.{header_text, spelled, IsLine, max_script}
use Rattle.zb_claims.specs.Script.{Row, row_text, is_comment, IsRow, ended_line}
use Rattle.zb_script.specs.declared.reader.Parsed.{Parsed}
use Rattle.zb_script.specs.declared.reader.Parsed.TheVariants as parsed

-- the system whose header was read, if it was, and how many lines and bytes were read
pub record Place : Type 0 where
  pub geo : Option Geometry
  pub lines : ℕ
  pub used : ℕ

-- nothing was read
abbrev pub script_start : Place
script_start = record { geo = None; lines = 0; used = 0 }

-- how many bytes a line has at most, without its end
abbrev pub max_line : ℕ
max_line = 17000

-- what may stand here: an empty line, a comment or a header; behind the header a row of its system
abbrev pub MayStand : Option Geometry → List ℕ → Type 0
MayStand None text = ((bytes : List ℕ) × IsTrue (is_comment bytes) × (text ≡ ended_line bytes)) ⊎ ((geo : Geometry) × (text ≡ header_text geo))
MayStand (Some geo) text = (row : Row) × IsRow geo row × (text ≡ row_text row)

-- this text stands first, has this length, and ends within the limit
pub record IsFront (place : Place) (bytes text : List ℕ) (len : ℕ) : Type 0 where
  pub splits : bytes ≡ text ++ drop len bytes
  pub len_is : len ≡ length text
  pub within : len ≤ length bytes
  pub limit : place.used + len ≤ max_script

-- the line that these bytes begin with, with its end, is still open
pub record IsOpen (bytes : List ℕ) : Type 0 where
  pub no_end : position (λ b. b == 10) bytes ≡ None
  pub short : length bytes ≤ max_line

-- the line isn't open, and whatever follows, nothing that may stand here does, or it ends past the limit
pub record IsBadHere (place : Place) (bytes : List ℕ) : Type 0 where
  pub closed : ¬ IsOpen bytes
  pub some : bytes ≢ []
  pub none : (text more after : List ℕ) → MayStand place.geo text → bytes ++ more ≡ text ++ after → max_script < place.used + length text

-- the line is one of the system whose header was read
abbrev pub IsLineHere : Option Geometry → Line → Type 0
IsLineHere None line = ⊥
IsLineHere (Some geo) line = IsLine geo line

-- what the next bytes are
abbrev pub IsNext : Place → List ℕ → Parsed → Type 0
IsNext place bytes (parsed.Header geo used) = (place.geo ≡ None) × IsFront place bytes (header_text geo) used
IsNext place bytes (parsed.Line line used) = IsLineHere place.geo line × IsFront place bytes (spelled line) used
IsNext place bytes (parsed.Skipped used) = (text : List ℕ) × IsTrue (is_comment text) × IsFront place bytes (ended_line text) used
IsNext place bytes parsed.More = IsOpen bytes
IsNext place bytes (parsed.Bad number) = (number ≡ place.lines + 1) × IsBadHere place bytes

-- behind what was read
abbrev pub passed : Place → Parsed → Place
passed place (parsed.Header geo used) = record { geo = Some geo; lines = place.lines + 1; used = place.used + used }
passed place (parsed.Line line used) = record { geo = place.geo; lines = place.lines + 1; used = place.used + used }
passed place (parsed.Skipped used) = record { geo = place.geo; lines = place.lines + 1; used = place.used + used }
passed place parsed.More = place
passed place (parsed.Bad number) = place

-- what these bytes are as a whole line without its end
abbrev pub IsWhole : Place → List ℕ → Parsed → Type 0
IsWhole place words (parsed.Header geo used) = (place.geo ≡ None) × (header_text geo ≡ ended_line words) × (used ≡ length words + 1)
IsWhole place words (parsed.Line line used) = IsLineHere place.geo line × (spelled line ≡ ended_line words) × (used ≡ length words + 1)
IsWhole place words (parsed.Skipped used) = IsTrue (is_comment words) × (used ≡ length words + 1)
IsWhole place words parsed.More = ⊥
IsWhole place words (parsed.Bad number) = (number ≡ place.lines + 1) × ((text : List ℕ) → MayStand place.geo text → text ≡ ended_line words → ⊥)

-- how many bytes it has, where it is a line
abbrev pub size_of : Parsed → ℕ
size_of (parsed.Header geo used) = used
size_of (parsed.Line line used) = used
size_of (parsed.Skipped used) = used
size_of parsed.More = 0
size_of (parsed.Bad number) = 0

-- a line counts as one
abbrev pub count_of : Parsed → ℕ
count_of (parsed.Header geo used) = 1
count_of (parsed.Line line used) = 1
count_of (parsed.Skipped used) = 1
count_of parsed.More = 0
count_of (parsed.Bad number) = 0
