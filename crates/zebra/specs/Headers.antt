-- How the header of a script is read.
use Rattle.std.specs.Prelude.{◌≡◌, ℕ, ◌+◌, ◌≤◌, List, [], ◌++◌, length, Option, Some, None, Result, Ok, Err, IsTrue}
use Rattle.std.specs.List.{flat_map, AllByRecursion}
use Rattle.zb_types.specs.declared.geometry.Geometry.{Geometry}
use Rattle.zb_claims.specs.Text.{header_text, max_script}
use Rattle.zb_claims.specs.Script.{is_comment, ended_line}
use Rattle.zb_script.specs.Places.{Place, IsFront}
use Rattle.zebra.specs.declared.ending.Halted.{Halted}
use Rattle.zebra.specs.declared.header.Head.{Head}
use Rattle.zebra.specs.declared.header.Head.TheVariants as heads
use Rattle.zebra.specs.declared.header.Heading.{Heading}
use Rattle.zebra.specs.declared.header.Heading.TheVariants.{System, Missing}
use Rattle.zebra.specs.Pending.{Pending}
use Rattle.zebra.specs.Moves.{Tape, IsRead, IsTaken}
use Rattle.zebra.specs.Rows.{NoRow, moved}

-- the text of lines before a header
abbrev pub heads_text : List (List ℕ) → List ℕ
heads_text heads = flat_map ended_line heads

-- lines that say nothing were read, and no header
pub record IsHeading (start : Tape) (place : Place) (p : Pending) (now : Tape) : Type 0 where
  pub heads : List (List ℕ)
  pub skipped_first : AllByRecursion (λ bytes. IsTrue (is_comment bytes)) heads
  pub reads : IsRead start (heads_text heads) p now
  pub at : place ≡ record { geo = None; lines = length heads; used = length (heads_text heads) }
  pub limit : length (heads_text heads) ≤ max_script

-- a header was read behind them
pub record HasSystem (start : Tape) (geo : Geometry) (place : Place) (p : Pending) (now : Tape) : Type 0 where
  pub heads : List (List ℕ)
  pub skipped_first : AllByRecursion (λ bytes. IsTrue (is_comment bytes)) heads
  pub reads : IsRead start (heads_text heads ++ header_text geo) p now
  pub at : place ≡ record { geo = Some geo; lines = length heads + 1; used = length (heads_text heads ++ header_text geo) }
  pub limit : length (heads_text heads ++ header_text geo) ≤ max_script

-- no header stands behind them, where it must stand
pub record LacksSystem (start : Tape) (number : ℕ) (p : Pending) (now : Tape) : Type 0 where
  pub heads : List (List ℕ)
  pub skipped_first : AllByRecursion (λ bytes. IsTrue (is_comment bytes)) heads
  pub reads : IsRead start (heads_text heads) p now
  pub limit : length (heads_text heads) ≤ max_script
  pub none : NoRow None (length (heads_text heads)) p
  pub at : number ≡ length heads + 1

-- what the pending bytes begin with, where no header was read
abbrev pub HeadIs : Place → Pending → Head → Type 0
HeadIs place p (heads.Skipped len) = (text : List ℕ) × IsTrue (is_comment text) × IsFront place p.rest (ended_line text) len
HeadIs place p (heads.Header geo len) = IsFront place p.rest (header_text geo) len
HeadIs place p (heads.Missing number) = (number ≡ place.lines + 1) × NoRow place.geo place.used p

-- how far the script's reader moves over what comes next before a header
abbrev pub HeadMoves : Place → Head → Place → Type 0
HeadMoves before (heads.Skipped len) after = after ≡ moved before len
HeadMoves before (heads.Header geo len) after = after ≡ record { geo = Some geo; lines = before.lines + 1; used = before.used + len }
HeadMoves before (heads.Missing number) after = Unit {0}

-- the system of a header was read
abbrev pub IsSystemOf : Option Geometry → Heading → Type 0
IsSystemOf at (System geo) = at ≡ Some geo
IsSystemOf at (Missing number) = Unit {0}

-- what the heading says of the bytes that were read
abbrev pub HeadingIs : Heading → Tape → Place → Pending → Tape → Type 0
HeadingIs (System geo) start place p now = HasSystem start geo place p now
HeadingIs (Missing number) start place p now = LacksSystem start number p now

-- whatever was read before, one line more was, or the header, or why there is none
abbrev pub StillHeads : Result (Option Heading) Halted → Place → Pending → Tape → Place → Pending → Tape → Type 0
StillHeads (Ok None) place p before after_place q after = (start : Tape) → IsHeading start place p before → IsHeading start after_place q after
StillHeads (Ok (Some heading)) place p before after_place q after = (start : Tape) → IsHeading start place p before → HeadingIs heading start after_place q after
StillHeads (Err halted) place p before after_place q after = (start : Tape) → IsHeading start place p before → IsTaken start [] after

-- what reading a header does
abbrev pub Heads : Result Heading Halted → Place → Pending → Tape → Place → Pending → Tape → Type 0
Heads (Ok heading) place p before after_place q after = (start : Tape) → IsHeading start place p before → HeadingIs heading start after_place q after
Heads (Err halted) place p before after_place q after = (start : Tape) → IsHeading start place p before → IsTaken start [] after
