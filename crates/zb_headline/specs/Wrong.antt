-- What no run may do, as closed examples.
use Rattle.std.specs.Prelude.{◌≡◌, ℕ, true, false, List, [], ◌∷◌, codes}
use Rattle.zb_types.specs.declared.calls.Call.TheVariants.{Create}
use Rattle.zb_types.specs.declared.calls.Reply.TheVariants.{Made}
use Rattle.zb_types.specs.declared.history.Did.{Did}
use Rattle.zb_types.specs.declared.nodes.Node.TheVariants.{Manager}
use Rattle.zb_types.specs.declared.nodes.Event.TheVariants.{Arm as ArmOf, Up as UpOf}
use Rattle.zb_types.specs.declared.nodes.EventAnswer.TheVariants.{Done as EventDone, Stopped}
use Rattle.zb_types.specs.declared.lines.Job.TheVariants.{Rebuild}
use Rattle.zb_types.specs.declared.lines.Line.{Line}
use Rattle.zb_types.specs.declared.lines.Line.TheVariants.{Job as JobLine, Event as EventLine}
use Rattle.zb_types.specs.declared.lines.Mended.TheVariants.{Copied, Server as FailedServer}
use Rattle.zb_types.specs.declared.lines.Told.TheVariants.{Arm, Up}
use Rattle.zb_types.specs.declared.lines.Outcome.TheVariants.{Rebuild as OfRebuild, Event as OfEvent}
use Rattle.zb_claims.specs.Rows.{fid}
use Rattle.zb_headline.specs.Reasons.{Shown, HasReason}
use Rattle.zb_headline.specs.Calm.{calm, place}
use Rattle.zb_headline.specs.Ahead.{IsOneBatch}

-- the file manager is armed, and put up
abbrev pub rearmed_script : List Line
rearmed_script = EventLine (ArmOf Manager 1) ∷ EventLine (UpOf Manager) ∷ []

-- one server's rebuild is put into the queue, another's is waited for
abbrev pub mending_script : List Line
mending_script = JobLine true (Rebuild (record { 0 = 1 })) ∷ JobLine false (Rebuild (record { 0 = 2 })) ∷ []

-- platters failed before the first line, and not since
abbrev pub early_faults : Shown
early_faults = record {
  rose = λ platter n. n ≡ 0;
  wrote = λ platter n count. ⊥;
  unfit = λ i. ⊥;
  released = λ log stripe. ⊥;
  named = λ i. ⊥;
  mending = ⊥;
  free = λ i n. ⊥;
  overtaken = λ i. ⊥;
  candidate = λ log stripe. ⊥;
  none = ⊥;
  cited = λ log stripe. ⊥;
}

-- a file is made
abbrev pub made : ℕ → Did
made n = record { client = 1; number = n; call = Create (codes "/a"); reply = Made (fid n) }

-- none of these holds
pub record WrongClaims : Type 0 where
  -- an arm is no reason that the `up` stopped which disarmed the platter, however many writes came
  pub rearmed : HasReason (place (calm (λ platter n. 100)) rearmed_script (OfEvent (Arm Manager) EventDone ∷ [])) (OfEvent (Up Manager) (Stopped Manager)) → ⊥
  -- a fault before the line before it is no reason that a rebuild failed that has no plus
  pub excused : HasReason (place early_faults mending_script (OfRebuild (record { 0 = 1 }) (Copied 0) ∷ [])) (OfRebuild (record { 0 = 2 }) FailedServer) → ⊥
  -- operations on names are no one batch
  pub together : IsOneBatch (made 1 ∷ made 2 ∷ []) → ⊥
