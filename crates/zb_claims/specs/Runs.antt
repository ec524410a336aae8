-- What a run prints for the script that it takes.
use Rattle.std.specs.Prelude.{◌≡◌, ◌⊎◌, ℕ, suc, Bool, true, false, not, List, [], ◌∷◌, ◌++◌, length, take, codes, Option, Some, None, ◌==◌, ◌&&◌}
use Rattle.std.specs.List.{list_any, AllByRecursion}
use Rattle.zb_types.specs.declared.geometry.Geometry.{Geometry}
use Rattle.zb_types.specs.declared.lines.Line.{Line}
use Rattle.zb_types.specs.declared.lines.Said.TheVariants.{Unfinished}
use Rattle.zb_types.specs.declared.lines.Outcome.{Outcome}
use Rattle.zb_types.specs.declared.lines.Outcome.TheVariants.{Call as OfCall}
use Rattle.zb_claims.specs.Points.{Subject, calls, subject_asked, has_final, has_told, is_begun, all_met, tree_at}
use Rattle.zb_claims.specs.Fits.{FitLines}
use Rattle.zb_claims.specs.Text.{newline, num, report_text, tree_text, IsOutcome}
use Rattle.zb_claims.specs.Script.{Grammar, Row, lines_in, Begins, StopsAt, HasNoHeader}

-- a line that stands behind those of the calls, jobs and events, with one number
abbrev pub last_line : List ℕ → ℕ → List ℕ
last_line words n = words ++ num n ++ newline

-- the number of the line that is none of the language
abbrev pub script_fault : ℕ → List ℕ
script_fault number = last_line (codes "script") number

-- the status at the end of the script
abbrev pub end_line : ℕ → List ℕ
end_line status = last_line (codes "end") status

-- the number of the platter that failed at the start
abbrev pub platter_line : ℕ → List ℕ
platter_line platter = last_line (codes "platter") platter

-- the script could not be read on
abbrev pub read_fault : List ℕ
read_fault = codes "read fault" ++ newline

-- memory ran out
abbrev pub out_of_memory : List ℕ
out_of_memory = codes "out of memory" ++ newline

-- the words were others than those of the program
abbrev pub usage : List ℕ
usage = codes "usage" ++ newline

-- a call has its final line, each other subject its line
abbrev pub has_ended : List Outcome → Subject → ℕ → Bool
has_ended lines (calls client) n = has_final lines client n
has_ended lines subject n = has_told lines subject n

-- each call, job and event of these lines has its last line
abbrev pub all_ended : List Outcome → List Line → List Line → Bool
all_ended lines = all_met subject_asked (has_ended lines)

-- `unfinished`, for whatever cause
abbrev pub is_unfinished : Outcome → Bool
is_unfinished (OfCall client n (Unfinished cause)) = true
is_unfinished line = false

-- what may stand for the tree, behind these lines of a script and of its report
abbrev pub Tails : Type 1
Tails = List Line → List Outcome → List ℕ → Type 0

-- the tree after all updates
abbrev pub TellsTree : Tails
TellsTree script all text = text ≡ tree_text (tree_at script all)

-- the script was read to its end: each call and line was answered, and the tree and the end stand behind
pub record IsDone (TreeTail : Tails) (end : ℕ) (script : List Line) (rest : List ℕ) (all : List Outcome) (tail : List ℕ) : Type 0 where
  pub read : rest ≡ []
  pub ended : all_ended all [] script ≡ true
  pub unfinished : list_any is_unfinished all ≡ not (end == 0)
  pub tree : List ℕ
  pub tells : TreeTail script all tree
  pub text : tail ≡ tree ++ end_line end

-- line `number` is the first that isn't in the grammar, and the run reached it
pub record IsStopped (g : Grammar) (bytes : List ℕ) (geo : Geometry) (rows : List Row) (all : List Outcome) (tail : List ℕ) : Type 0 where
  pub number : ℕ
  pub reached : is_begun (lines_in rows) all (length (lines_in rows)) ≡ true
  pub stops : StopsAt g bytes geo rows number
  pub text : tail ≡ script_fault number

-- memory ran out, maybe behind the tree
pub record IsStarved (TreeTail : Tails) (script : List Line) (all : List Outcome) (tail : List ℕ) : Type 0 where
  pub tree : List ℕ
  pub tells : (tree ≡ []) ⊎ TreeTail script all tree
  pub text : tail ≡ tree ++ out_of_memory

-- what stands behind the lines, by the status that it tells
abbrev pub EndsSo : Grammar → Tails → List ℕ → Geometry → List Row → List ℕ → List Outcome → ℕ → List ℕ → Type 0
EndsSo g TreeTail bytes geo rows rest all end tail =
    (((end ≡ 0) ⊎ (end ≡ 7)) × IsDone TreeTail end (lines_in rows) rest all tail)
    ⊎ (((end ≡ 2) × IsStopped g bytes geo rows all tail)
    ⊎ (((end ≡ 3) × (tail ≡ read_fault))
    ⊎ ((end ≡ 6) × IsStarved TreeTail (lines_in rows) all tail)))

-- the whole text was printed, and the status is the one that it tells; or with status 4 a front of the text
abbrev pub Prints : ℕ → List ℕ → ℕ → List ℕ → Type 0
Prints status printed end text = ((status ≡ end) × (printed ≡ text)) ⊎ ((status ≡ 4) × ((n : ℕ) × (printed ≡ take n text)))

-- a run of a script with a header: its lines fit the script, in the order of its lines where one is claimed, and the text
-- that is printed is theirs and a tail
pub record RunsScriptBy (ordered : Bool) (g : Grammar) (TreeTail : Tails) (status : ℕ) (bytes printed : List ℕ) : Type 0 where
  pub geo : Geometry
  pub rows : List Row
  pub rest : List ℕ
  pub begins : Begins g bytes geo rows rest
  pub all : List Outcome
  pub valid : AllByRecursion (IsOutcome geo) all
  pub fits : FitLines ordered (lines_in rows) all
  pub end : ℕ
  pub tail : List ℕ
  pub ends : EndsSo g TreeTail bytes geo rows rest all end tail
  pub text : Prints status printed end (report_text all ++ tail)

-- the same in a run that goes through the script line by line
abbrev pub RunsScript : Grammar → Tails → ℕ → List ℕ → List ℕ → Type 0
RunsScript = RunsScriptBy true

-- the last line of a run that read no line behind a header
abbrev pub EndsBefore : Grammar → List ℕ → ℕ → List ℕ → Type 0
EndsBefore g bytes end last =
    ((end ≡ 2) × ((number : ℕ) × HasNoHeader g bytes number × (last ≡ script_fault number)))
    ⊎ (((end ≡ 3) × (last ≡ read_fault))
    ⊎ (((end ≡ 6) × (last ≡ out_of_memory))
    ⊎ ((end ≡ 8) × ((platter : ℕ) × (last ≡ platter_line platter)))))

-- a run of bytes without a header, or one that ended before it read a line behind it
pub record RunsNone (g : Grammar) (status : ℕ) (bytes printed : List ℕ) : Type 0 where
  pub end : ℕ
  pub last : List ℕ
  pub ends : EndsBefore g bytes end last
  pub text : Prints status printed end last

-- a run of the bytes that it took
abbrev pub Runs : Grammar → Tails → ℕ → List ℕ → List ℕ → Type 0
Runs g TreeTail status bytes printed = RunsScript g TreeTail status bytes printed ⊎ RunsNone g status bytes printed
