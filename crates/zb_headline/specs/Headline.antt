-- The headline: what a run prints for the script that it takes is one history of the plain file tree, and at each moment
-- the disks recover to the tree of that history so far, with or without the one batch whose commit is under way.
use Rattle.std.specs.Prelude.{◌≡◌, ◌⊎◌, ℕ, Bool, true, List, [], ◌++◌, codes, Option, ◌==◌}
use Rattle.std.specs.List.{list_any}
use Rattle.zb_types.specs.declared.history.Did.{Did}
use Rattle.zb_types.specs.declared.lines.Line.{Line}
use Rattle.zb_types.specs.declared.lines.Outcome.{Outcome}
use Rattle.zb_types.specs.History.{tree_from}
use Rattle.zb_outside.specs.Meaning.{Moment}
use Rattle.zb_claims.specs.Points.{dids, tree_at}
use Rattle.zb_claims.specs.Fits.{clock_of_run}
use Rattle.zb_claims.specs.Text.{newline, report_text}
use Rattle.zb_claims.specs.Script.{whole, lines_in}
use Rattle.zb_claims.specs.Runs.{Tails, TellsTree, RunsScript, RunsNone}
use Rattle.zb_headline.specs.Sights.{Sight}
use Rattle.zb_headline.specs.Reasons.{ServerReason, ManagerReason, ReasonsFrom}
use Rattle.zb_headline.specs.Spans.{Course, Stand, place_in, place_of, place_at}
use Rattle.zb_headline.specs.Ahead.{IsAhead}

-- what the outside tells of a run's moments, and what images say
pub record Witness : Type 1 where
  pub moments : Moment → Type 0
  pub sight : Sight

-- the run of a script line by line
abbrev pub course_of : Witness → List Line → Course
course_of w script = record { script = script; clock = clock_of_run true script; moments = w.moments; sight = w.sight }

-- the whole lines of what was printed are `lines`; behind them stands a part of what comes
pub record Prints (printed : List ℕ) (lines later : List Outcome) (tail : List ℕ) : Type 0 where
  pub part : List ℕ
  pub more : List ℕ
  pub text : printed ≡ report_text lines ++ part
  pub front : part ++ more ≡ report_text later ++ tail
  pub whole : list_any (λ b. b == 10) part ≡ true → later ≡ []

-- the lines that were printed have their reasons
pub record AreReasoned (c : Course) (bytes : List ℕ) (all : List Outcome) (tail : List ℕ) : Type 0 where
  pub lines : List Outcome
  pub later : List Outcome
  pub split : all ≡ lines ++ later
  pub printed : Prints bytes lines later tail
  pub reasons : ReasonsFrom (place_of c) [] lines

-- a line was printed whole
abbrev pub is_shown : Moment → Bool
is_shown m = list_any (λ b. b == 10) m.printed

-- at a moment of a run with these lines the disks recover to the history so far, and what is ahead of it
pub record AtMoment (c : Course) (all : List Outcome) (tail : List ℕ) (m : Moment) : Type 0 where
  pub lines : List Outcome
  pub later : List Outcome
  pub split : all ≡ lines ++ later
  pub printed : Prints m.printed lines later tail
  pub ahead : List Did
  pub is_ahead : IsAhead c.script c.clock lines ahead
  -- some server may be missing, or none; whichever it is
  pub some : (x : Option ℕ) × c.sight.may_miss m.images x
  pub recovers : (x : Option ℕ) → c.sight.may_miss m.images x → c.sight.recovers m.images x (tree_from (tree_at c.script lines) ahead)
  -- a server that isn't fit has a reason
  pub reasons : (i : ℕ) → c.sight.unfit m.images i → ServerReason (place_at c lines m) i
  -- what is early is answered later, whole and in its order
  pub more : List Did
  pub agrees : is_ahead.early ++ more ≡ dids c.script later

-- the tree after all updates, or that the file manager is down
abbrev pub TellsTreeOrDown : Witness → Tails
TellsTreeOrDown w script all text = TellsTree script all text
    ⊎ ((text ≡ codes "tree down" ++ newline) × ManagerReason (place_in (course_of w script) all all (λ m. w.moments m × Stand all m)))

-- a run of a script with a header: each line has its reason, and at each shown moment the disks recover to the history so far
pub record RunsSafely (w : Witness) (status : ℕ) (bytes printed : List ℕ) : Type 0 where
  pub run : RunsScript whole (TellsTreeOrDown w) status bytes printed
  pub reasons : AreReasoned (course_of w (lines_in run.rows)) printed run.all run.tail
  pub moments : (m : Moment) → w.moments m → is_shown m ≡ true → AtMoment (course_of w (lines_in run.rows)) run.all run.tail m

-- The clause of a run, by its status, the bytes that it took and those that it printed, and its moments. It is to be
-- claimed of the bytes that were taken, and of these with all that was left of the script.
abbrev pub RunsAsOneHistory : Witness → ℕ → List ℕ → List ℕ → Type 0
RunsAsOneHistory w status bytes printed = RunsSafely w status bytes printed ⊎ RunsNone whole status bytes printed
