-- Reasons: where nothing befell no line tells a fault, and the faults of the worked rows have their reasons.
use Rattle.std.specs.Prelude.{◌≡◌, ℕ, ◌≤◌, Bool, true, false, List, [], ◌++◌}
use Rattle.std.specs.List.{list_any}
use Rattle.zb_types.specs.declared.nodes.EventAnswer.TheVariants.{Done as EventDone, Up as IsUp}
use Rattle.zb_types.specs.declared.lines.Line.{Line}
use Rattle.zb_types.specs.declared.lines.Said.TheVariants.{Reply as Replied, Buffered}
use Rattle.zb_types.specs.declared.lines.Pass.TheVariants.{Nothing, Done as PassDone}
use Rattle.zb_types.specs.declared.lines.Mended.TheVariants.{Copied}
use Rattle.zb_types.specs.declared.lines.Outcome.{Outcome}
use Rattle.zb_types.specs.declared.lines.Outcome.TheVariants.{Call as OfCall, Clean as OfClean, Rebuild as OfRebuild, Event as OfEvent}
use Rattle.zb_claims.specs.Fits.{clock_of_run}
use Rattle.zb_headline.specs.Reasons.{Shown, Place, HasReason, ReasonsFrom}
use Rattle.zb_claims.specs.Rows.{hello_script, hello_report, two_script, two_report, armed_script, armed_report, dropped_script, dropped_report, down_script, down_report, eight_script, seven_lines, eight_lines}

-- no device failed, each server is fit and has room; so many writes came to a platter since n lines stood
abbrev pub calm : (ℕ → ℕ → ℕ) → Shown
calm writes = record {
  rose = λ platter n. ⊥;
  wrote = λ platter n count. count ≤ writes platter n;
  unfit = λ i. ⊥;
  released = λ log stripe. ⊥;
  named = λ i. ⊥;
  mending = ⊥;
  free = λ i n. ⊥;
  overtaken = λ i. ⊥;
  candidate = λ log stripe. ⊥;
  none = ⊥;
  cited = λ log stripe. ⊥;
}

-- the place behind these lines in a run that goes through the script line by line
abbrev pub place : Shown → List Line → List Outcome → Place
place shown script before = record { script = script; clock = clock_of_run true script; before = before; shown = shown }

-- an event's line, or that of a rebuild
abbrev pub befalls : Outcome → Bool
befalls (OfCall client n said) = false
befalls (OfClean pass) = false
befalls (OfRebuild server end) = true
befalls (OfEvent event answer) = true

-- a line that tells no fault
abbrev pub is_faultless : Outcome → Bool
is_faultless (OfCall client n (Replied reply)) = true
is_faultless (OfCall client n Buffered) = true
is_faultless (OfClean Nothing) = true
is_faultless (OfClean (PassDone log stripe copied rejected end)) = true
is_faultless (OfRebuild server (Copied count)) = true
is_faultless (OfEvent event EventDone) = true
is_faultless (OfEvent event (IsUp node)) = true
is_faultless line = false

-- where no event and no rebuild came before, and no device failed, a line that has a reason tells no fault
abbrev pub CalmIsFaultless : Type 0
CalmIsFaultless = (script : List Line) (before : List Outcome) (line : Outcome) (writes : ℕ → ℕ → ℕ) → list_any befalls before ≡ false → HasReason (place (calm writes) script before) line → is_faultless line ≡ true

-- each line has its reason, where this many writes came to each platter behind the first line
abbrev pub AreReasoned : ℕ → List Line → List Outcome → Type 0
AreReasoned written script lines = ReasonsFrom (λ before line. place (calm (λ platter n. written)) script before) [] lines

-- the lines of the worked rows have their reasons by the events alone; the armed platter stops at its second write
pub record RowsReasoned : Type 0 where
  pub hello : AreReasoned 0 hello_script hello_report
  pub two : AreReasoned 0 two_script two_report
  pub armed : AreReasoned 2 armed_script armed_report
  pub dropped : AreReasoned 0 dropped_script dropped_report
  pub down : AreReasoned 0 down_script down_report
  pub eight : AreReasoned 0 eight_script (seven_lines ++ eight_lines)
