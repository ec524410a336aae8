-- What holds of the texts of lines and headers.
use Rattle.std.specs.Prelude.{◌≡◌, ℕ, Bool, not, ◌==◌, List, ◌++◌, IsTrue}
use Rattle.std.specs.List.{list_all}
use Rattle.zb_types.specs.declared.geometry.Geometry.{Geometry}
use Rattle.zb_types.specs.declared.lines.Line.{Line}
use Rattle.zb_claims.specs.Text.{newline, words, header_text, IsLine}

-- no line end stands in these bytes
abbrev pub has_no_end : List ℕ → Bool
has_no_end bytes = list_all (λ b. not (b == 10)) bytes

-- a valid line has no line end within it
abbrev pub LinesHaveNoEnd : Type 0
LinesHaveNoEnd = (geo : Geometry) (line : Line) → IsLine geo line → IsTrue (has_no_end (words line))

-- a header has no line end within it
abbrev pub HeadersHaveNoEnd : Type 0
HeadersHaveNoEnd = (geo : Geometry) (front : List ℕ) → header_text geo ≡ front ++ newline → IsTrue (has_no_end front)
