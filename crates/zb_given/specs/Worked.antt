-- Worked rows: what their worlds were given, and how their scripts were.
use Rattle.std.specs.Prelude.{ℕ, true, false, List, [], ◌∷◌, codes, None}
use Rattle.zb_types.specs.declared.calls.Call.TheVariants.{Create, Write, Sync, Read, List as ListOf}
use Rattle.zb_types.specs.declared.calls.Reply.TheVariants.{Made, Names}
use Rattle.zb_types.specs.declared.nodes.Cause.TheVariants.{NoSpace}
use Rattle.zb_types.specs.declared.nodes.Node.TheVariants.{Client}
use Rattle.zb_types.specs.declared.nodes.Event.TheVariants.{Crash as CrashOf, Up as UpOf}
use Rattle.zb_types.specs.declared.lines.Job.TheVariants.{Clean}
use Rattle.zb_types.specs.declared.lines.Pass.TheVariants.{Nothing}
use Rattle.zb_types.specs.declared.lines.Line.{Line}
use Rattle.zb_types.specs.declared.lines.Line.TheVariants.{Call as CallLine, Job as JobLine, Event as EventLine}
use Rattle.zb_types.specs.declared.lines.Said.TheVariants.{Reply as Replied, Buffered, Unfinished}
use Rattle.zb_types.specs.declared.lines.Outcome.{Outcome}
use Rattle.zb_types.specs.declared.lines.Outcome.TheVariants.{Call as OfCall, Clean as OfClean}
use Rattle.zb_claims.specs.Points.{calls}
use Rattle.zb_claims.specs.Fits.{FitLines}
use Rattle.zb_claims.specs.Rows.{fid, hello_report, stale_report, two_script, two_report, dropped_script, dropped_report}
use Rattle.zb_given.specs.Given.{Item, Given, none_given, with_item, with_finish, FitGiven}
use Rattle.zb_given.specs.Gives.{Gives}
use Rattle.zb_given.specs.Ends.{HaveLastLines}
use Rattle.zb_given.specs.Loops.{IsPast}
use Rattle.zb_given.specs.Queues.{CallsStand}

-- an item with its point
abbrev pub at_point : ℕ → Line → Item
at_point at line = record { line = line; at = at }

-- What the world of the row `hello` was given.
abbrev pub hello_given : Given
hello_given = record {
  items = at_point 0 (CallLine true 1 (Create (codes "/a"))) ∷ at_point 1 (CallLine true 1 (Write (fid 1) 0 (codes "hello"))) ∷ at_point 2 (CallLine true 1 Sync) ∷ at_point 4 (CallLine true 1 (Read (fid 1) 0 5)) ∷ [];
  finishes = [];
}

-- its lines fit that, and in the end each of the client's calls was taken, none is kept, and each has its last line
pub record HelloLift : Type 0 where
  pub given_fit : FitGiven hello_given hello_report
  pub stand : CallsStand hello_given hello_report 1 [] 4 4
  pub last : HaveLastLines hello_given hello_report (calls 1)

-- Two clients write one block, with pluses and step lines.
abbrev pub two_given : Given
two_given = record {
  items = at_point 0 (CallLine true 1 (Create (codes "/a"))) ∷ at_point 1 (CallLine true 1 (Write (fid 1) 0 (codes "aaaaaa"))) ∷ at_point 2 (CallLine true 1 Sync)
      ∷ at_point 4 (CallLine true 1 (Write (fid 1) 0 (codes "X"))) ∷ at_point 4 (CallLine true 1 Sync) ∷ at_point 4 (CallLine true 2 (Write (fid 1) 1 (codes "Y"))) ∷ at_point 4 (CallLine true 2 Sync)
      ∷ at_point 6 (CallLine true 1 Sync) ∷ at_point 9 (CallLine true 2 Sync) ∷ at_point 12 (CallLine true 1 (Read (fid 1) 0 6)) ∷ [];
  finishes = 13 ∷ [];
}

-- the lines fit that, the script was given so, and so they fit the script
pub record TwoLift : Type 0 where
  pub given_fit : FitGiven two_given two_report
  pub gives : Gives two_script two_given two_report
  pub fits : FitLines true two_script two_report

-- A client crashes, and its kept calls are dropped: this world was given its items one by one.
abbrev pub one_given : Given
one_given = with_item none_given (CallLine true 1 (Create (codes "/a"))) 0

-- a write is given
abbrev pub write_given : Given
write_given = with_item one_given (CallLine true 1 (Write (fid 1) 0 (codes "x"))) 1

-- and another
abbrev pub more_written : Given
more_written = with_item write_given (CallLine true 1 (Write (fid 1) 1 (codes "y"))) 2

-- the client's crash is given
abbrev pub crash_given : Given
crash_given = with_item more_written (EventLine (CrashOf (Client 1))) 3

-- it is put up
abbrev pub up_given : Given
up_given = with_item crash_given (EventLine (UpOf (Client 1))) 6

-- and reads
abbrev pub read_given : Given
read_given = with_item up_given (CallLine true 1 (Read (fid 1) 0 5)) 7

-- the finish begins
abbrev pub dropped_given : Given
dropped_given = with_finish read_given 8

-- a program's loop comes to this
pub record DroppedLift : Type 0 where
  pub given_fit : FitGiven dropped_given dropped_report
  pub past : IsPast dropped_script dropped_given dropped_report
  pub fits : FitLines true dropped_script dropped_report

-- A pass of the cleaner, and a write for which there is no space at the end.
abbrev pub full_script : List Line
full_script = CallLine false 1 (Create (codes "/a")) ∷ CallLine false 1 (Write (fid 1) 0 (codes "x")) ∷ JobLine false Clean ∷ []

-- the write stays kept, and ends as unfinished
abbrev pub full_report : List Outcome
full_report = OfCall 1 1 (Replied (Made (fid 1))) ∷ OfCall 1 2 Buffered ∷ OfClean Nothing ∷ OfCall 1 2 (Unfinished (NoSpace (record { 0 = 1 }))) ∷ []

-- so the world was given it, with these finishes
abbrev pub full_given : List ℕ → Given
full_given finishes = record {
  items = at_point 0 (CallLine true 1 (Create (codes "/a"))) ∷ at_point 1 (CallLine true 1 (Write (fid 1) 0 (codes "x"))) ∷ at_point 2 (JobLine true Clean) ∷ [];
  finishes = finishes;
}

-- with a finish behind its third line it fits
pub record FullLift : Type 0 where
  pub given_fit : FitGiven (full_given (3 ∷ [])) full_report
  pub gives : Gives full_script (full_given (3 ∷ [])) full_report
  pub fits : FitLines true full_script full_report

-- A read is looked up before another client's file is there, and answered afterwards.
abbrev pub late_script : List Line
late_script = CallLine true 2 (Create (codes "/b")) ∷ CallLine false 1 (ListOf None) ∷ []

-- it doesn't see the file
abbrev pub late_report : List Outcome
late_report = OfCall 2 1 (Replied (Made (fid 1))) ∷ OfCall 1 1 (Replied (Names [])) ∷ []

-- both calls were given at once
abbrev pub late_given : Given
late_given = record { items = at_point 0 (CallLine true 2 (Create (codes "/b"))) ∷ at_point 0 (CallLine true 1 (ListOf None)) ∷ []; finishes = [] }

-- that fits what was given, and the script where no order is claimed
pub record LateLift : Type 0 where
  pub given_fit : FitGiven late_given late_report
  pub fits : FitLines false late_script late_report

-- These don't fit, or aren't given so.
pub record WrongGiven : Type 0 where
  -- a line stands before its call was given
  pub early : FitGiven (with_item none_given (CallLine true 1 (Create (codes "/a"))) 1) (OfCall 1 1 (Replied (Made (fid 1))) ∷ []) → ⊥
  -- a read is answered from a tree before it was given
  pub stale : FitGiven hello_given stale_report → ⊥
  -- a call is unfinished before a finish began
  pub unfinished : FitGiven (full_given []) full_report → ⊥
  -- a read without a plus isn't answered at once
  pub late : Gives late_script late_given late_report → ⊥
