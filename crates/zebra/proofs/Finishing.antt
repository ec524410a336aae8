-- What a finish leaves of a run: all lines are printed, or a front of them.
use Rattle.std.proofs.Common.{◌≡◌, ◌⊎◌, ℕ, ◌+◌, ◌-◌, ◌≤◌, true, false, not, Bool, List, [], ◌++◌, length, take, Result, Ok, Err, Option, Some, None, refl, sym, ap, subst, ◌∙◌, append_assoc, inl, inr}
use Rattle.std.specs.Prelude.{MatchResult, OnErr, OnOk, ◌==◌, if◌then◌else◌}
use Rattle.std.specs.List.{AllByRecursion}
use Rattle.zb_types.specs.declared.geometry.Geometry.{Geometry}
use Rattle.zb_types.specs.declared.lines.Line.{Line}
use Rattle.zb_types.specs.declared.lines.Outcome.{Outcome}
use Rattle.zb_types.specs.Tree.{Tree}
use Rattle.zb_claims.specs.Points.{Subject, tree_at}
use Rattle.zb_claims.specs.Runs.{end_line}
use Rattle.zb_claims.specs.Script.{lines_in}
use Rattle.zb_claims.specs.Text.{report_text, tree_text, IsOutcome}
use Rattle.zb_headline.specs.Complete.{is_replied, lacks_space_alone}
use Rattle.zb_headline.specs.Need.{space_needed}
use Rattle.zb_ample.specs.Turning.{AreInTurn}
use Rattle.zb_given.specs.Ends.{HaveLastLines}
use Rattle.zb_given.specs.Given.{FitGiven, Given, script_of, with_finish}
use Rattle.zb_given.specs.Loops.{IsPast}
use Rattle.zb_given.proofs.Ending.{lifts_last}
use Rattle.zb_given.proofs.Looping.{finishes, steps_past}
use Rattle.zb_given.proofs.RunLifting.{lifts_run}
use Rattle.zb_nodes.specs.declared.answers.Halt.{Halt}
use Rattle.zb_outside.specs.Meaning.{Meaning}
use Rattle.zb_outside.specs.Streams.{Streams, PutTold}
use Rattle.zb_course.specs.Seen.{SeenCourse}
use Rattle.zb_course.specs.Sound.{IsSoundWith}
use Rattle.zb_course.specs.declared.lines.Untold.{Untold}
use Rattle.zb_running.specs.Telling.{GivesMore, TellsMore, TellsUntil}
use Rattle.zebra.specs.declared.ending.Halted.{Halted}
use Rattle.zebra.specs.declared.ending.Halted.TheVariants.{Memory, WriteFault}
use Rattle.zebra.specs.declared.last.Last.{Last}
use Rattle.zebra.specs.declared.reading.Ending.{Ending}
use Rattle.zebra.specs.declared.reading.Ending.TheVariants.{End}
use Rattle.zebra.specs.Pending.{Pending}
use Rattle.zebra.specs.Moves.{IsCut, TakesNone, Tape}
use Rattle.zebra.specs.Running.{HasStopped, IsBetween, IsBroken, IsCutOff, IsFinal, StandFor, Start, front_of}
use Rattle.zebra.specs.Ends.{HasEnded, IsLast}
use Rattle.zebra.proofs.Printing.{report_text-append, take_front}
use Rattle.zebra.proofs.Running.{IsRead-still}
use Rattle.zebra.proofs.Taking.{IsTaken-read}

-- lines of a course fit what it was given, also where others wait
fits_of : {given : Given} {lines : List Outcome} (course : SeenCourse) (untold : Option Untold) → IsSoundWith given lines course untold → FitGiven given lines
fits_of course None sound = sound.sound.told.fit
fits_of course (Some untold) waits = waits.fit

-- lines that came behind some, and may stand in a report
record Came (geo : Geometry) (given : Given) (lines : List Outcome) (old new : SeenCourse) : Type 0 where
  pub more : List Outcome
  pub fits : FitGiven given (lines ++ more)
  pub valid : AllByRecursion (IsOutcome geo) (lines ++ more)
  pub space : AllByRecursion (λ line. lacks_space_alone line ≡ true) (lines ++ more)
  pub ample : AreInTurn given (lines ++ more) → space_needed geo (script_of given) ≤ geo.slots - 4 → AllByRecursion (λ line. is_replied line ≡ true) (lines ++ more)
  pub text : new.text ≡ old.text ++ report_text more

module _ (geo : Geometry) (given : Given) (lines : List Outcome) (old new : SeenCourse) where
  abbrev came : TellsMore geo given lines old new → Came geo given lines old new
  came t = record { more = t.more; fits = t.report.settled.sound.told.fit; valid = t.report.system.valid; space = t.report.system.space; ample = λ turn enough. (t.report.turns.ample turn enough).replied; text = t.text }

  came_until : TellsUntil geo given lines old new → Came geo given lines old new
  came_until t = record { more = t.more; fits = fits_of new new.untold t.report.sound; valid = t.report.system.valid; space = t.report.system.space; ample = λ turn enough. (t.report.turns.ample turn enough).replied; text = t.text }

  came_so : (result : Result Bool Halt) → OnOk result (TellsMore geo given lines old new) → OnErr result (TellsUntil geo given lines old new) → Came geo given lines old new
  came_so (Ok done) ok err = came ok
  came_so (Err halt) ok err = came_until err

module _ (start : List ℕ) (geo : Geometry) (script : List Line) (old new : SeenCourse) (before after : Streams) (m k : Meaning) (b : IsBetween start geo script old m.now.printed) where
  abbrev pub Finishing : Given
  Finishing = with_finish b.given (length b.lines)

  abbrev All : List Outcome → List Outcome
  All more = b.lines ++ more

  past_then : (more : List Outcome) → FitGiven Finishing (All more) → IsPast script Finishing (All more)
  past_then more fits = steps_past script Finishing b.lines more fits (finishes script b.given b.lines b.past)

  stand_then : (c : Came geo Finishing b.lines old new) → StandFor geo script Finishing (All c.more)
  stand_then c = record { gives = (past_then c.more c.fits).gives; fits = c.fits; valid = c.valid; space = c.space; ample = c.ample }

  text_is : (c : Came geo Finishing b.lines old new) → new.text ≡ report_text c.more
  text_is c = c.text ∙ ap (λ (x : List ℕ). x ++ report_text c.more) b.printed_all.none

  printed_then : (c : Came geo Finishing b.lines old new) (bytes : List ℕ) → k.now.printed ≡ m.now.printed ++ bytes → bytes ≡ new.text → k.now.printed ≡ start ++ report_text (All c.more)
  printed_then c bytes told is =
      told ∙ ap (λ (x : List ℕ). m.now.printed ++ x) (is ∙ text_is c) ∙ ap (λ (x : List ℕ). x ++ report_text c.more) b.printed_all.text ∙ append_assoc start (report_text b.lines) (report_text c.more)
      ∙ ap (λ (x : List ℕ). start ++ x) (sym (report_text-append b.lines c.more))

  cut_then : (c : Came geo Finishing b.lines old new) (n : ℕ) → k.now.printed ≡ m.now.printed ++ take n new.text → IsCut start (All c.more) k.now.printed
  cut_then c n told = (
    length (report_text b.lines) + n,
    told ∙ ap (λ (x : List ℕ). m.now.printed ++ take n x) (text_is c) ∙ ap (λ (x : List ℕ). x ++ take n (report_text c.more)) b.printed_all.text ∙ append_assoc start (report_text b.lines) (take n (report_text c.more))
        ∙ ap (λ (x : List ℕ). start ++ x) (sym (take_front (report_text b.lines) (report_text c.more) n) ∙ ap (λ (x : List ℕ). take (length (report_text b.lines) + n) x) (sym (report_text-append b.lines c.more))),
  )

  -- the report couldn't be printed
  pub not_printed : {T E : Type 0} (fin : Result Bool Halt) → OnOk fin (TellsMore geo Finishing b.lines old new) → OnErr fin (TellsUntil geo Finishing b.lines old new)
      → (result : Result T E) → PutTold new.text result before after m k → MatchResult result (λ _. Unit {0}) (λ _. IsCutOff WriteFault start geo script k.now.printed)
  not_printed fin ok err (Ok x) told = tt
  not_printed fin ok err (Err e) told =
      let c = came_so geo Finishing b.lines old new fin ok err in
      record { given = Finishing; lines = All c.more; stand = stand_then c; printed_until = cut_then c told.printed.0 told.printed.1 }

  -- the finish halted
  pub halted_then : {T E : Type 0} → TellsUntil geo Finishing b.lines old new → (result : Result T E) → PutTold new.text result before after m k → MatchResult result (λ _. IsCutOff Memory start geo script k.now.printed) (λ _. Unit {0})
  halted_then t (Err e) told = tt
  halted_then t (Ok x) told =
      let c = came_until geo Finishing b.lines old new t in
      record { given = Finishing; lines = All c.more; stand = stand_then c; printed_until = printed_then c new.text told.printed refl }

  -- it ended
  pub final : {T E : Type 0} (t : TellsMore geo Finishing b.lines old new) → GivesMore t.report Finishing (record new { text = [] }) → (end : SeenCourse) → end ≡ record new { text = [] }
      → (result : Result T E) → PutTold new.text result before after m k → MatchResult result (λ _. IsFinal start geo script end k.now.printed) (λ _. Unit {0})
  final t g end is (Err e) told = tt
  final t g end is (Ok x) told =
      let c = came geo Finishing b.lines old new t in
      subst (λ (course : SeenCourse). IsFinal start geo script course k.now.printed) (sym is) (record {
        given = Finishing;
        lines = All t.more;
        report = g.report;
        past = past_then t.more c.fits;
        printed_all = record { none = refl; text = printed_then c new.text told.printed refl };
      })

-- What stands behind the lines of a script that was read to its end.

not_zero : (done : Bool) (status : ℕ) → status ≡ (if done then 0 else 7) → not done ≡ not (status == 0)
not_zero true status e = ap (λ (n : ℕ). not (n == 0)) (sym e)
not_zero false status e = ap (λ (n : ℕ). not (n == 0)) (sym e)

zero_or_seven : (done : Bool) (status : ℕ) → status ≡ (if done then 0 else 7) → (status ≡ 0) ⊎ (status ≡ 7)
zero_or_seven true status e = inl e
zero_or_seven false status e = inr e

-- both negations
not_twice : (done unfinished : Bool) → done ≡ not unfinished → unfinished ≡ not done
not_twice done true e = ap not (sym e)
not_twice done false e = ap not (sym e)

module _ (start : Start) (p : Pending) (old new : SeenCourse) (before now : Tape) (h : HasStopped End start p old before) (still : TakesNone before now) where
  -- it was read to its end, each call has its last line, and this stands behind
  pub ended_so : (f : IsFinal start.tape.printed start.geo (lines_in h.rows) new now.printed) → ((subject : Subject) → HaveLastLines f.given f.lines subject) → (done : Bool) → done ≡ not new.unfinished → (last : Last) → last.status ≡ (if done then 0 else 7)
      → last.text.items ≡ tree_text (tree_at (script_of f.given) f.lines) ++ end_line last.status → HasEnded start last p now
  ended_so f lasts done is last status text = record {
    rows = h.rows;
    valid = h.valid;
    reads = IsRead-still start.tape before now (front_of start h.rows) p h.reads still;
    limit = h.limit;
    given = f.given;
    lines = f.lines;
    stand = record { gives = f.past.gives; fits = f.report.settled.sound.told.fit; valid = f.report.system.valid; space = f.report.system.space; ample = λ turn enough. (f.report.turns.ample turn enough).replied };
    begun = f.past.begun;
    printed = f.printed_all.text;
    ending = End;
    ends = h.ends;
    last = record {
      ended = lifts_last (lines_in h.rows) f.given f.lines f.past.gives lasts;
      status = zero_or_seven done last.status status;
      unfinished = sym f.report.settled.unfinished ∙ not_twice done new.unfinished is ∙ not_zero done last.status status;
      text = text ∙ ap (λ (tree : Tree). tree_text tree ++ end_line last.status) (lifts_run (lines_in h.rows) f.given f.lines f.past.gives f.report.settled.sound.told.fit).1.tree;
    };
  }

  -- it broke off there
  pub broken_end : (halted : Halted) → IsCutOff halted start.tape.printed start.geo (lines_in h.rows) now.printed → IsBroken halted start now
  broken_end halted cut = record {
    rows = h.rows;
    valid = h.valid;
    reads = IsTaken-read start.tape now (front_of start h.rows) p (IsRead-still start.tape before now (front_of start h.rows) p h.reads still);
    limit = h.limit;
    cut = cut;
  }

-- a run that broke off behind its finish
pub final_cut : (start : List ℕ) (geo : Geometry) (script : List Line) (course : SeenCourse) (printed : List ℕ) → IsFinal start geo script course printed → IsCutOff Memory start geo script printed
final_cut start geo script course printed f = record {
  given = f.given;
  lines = f.lines;
  stand = record { gives = f.past.gives; fits = f.report.settled.sound.told.fit; valid = f.report.system.valid; space = f.report.system.space; ample = λ turn enough. (f.report.turns.ample turn enough).replied };
  printed_until = f.printed_all.text;
}

module _ (start : Start) (p : Pending) (old new : SeenCourse) (before now : Tape) (h : HasStopped End start p old before) (still : TakesNone before now) (geo : Geometry) (same : start.geo ≡ geo) where
  -- the same, of a world of these sizes
  pub between_at : IsBetween start.tape.printed geo (lines_in h.rows) old before.printed
  between_at = subst (λ (g : Geometry). IsBetween start.tape.printed g (lines_in h.rows) old before.printed) same h.between

  pub broken_at : (halted : Halted) → IsCutOff halted start.tape.printed geo (lines_in h.rows) now.printed → IsBroken halted start now
  broken_at halted cut = broken_end start p old new before now h still halted (subst (λ (g : Geometry). IsCutOff halted start.tape.printed g (lines_in h.rows) now.printed) (sym same) cut)

  pub starved_at : IsFinal start.tape.printed geo (lines_in h.rows) new now.printed → IsBroken Memory start now
  starved_at f = broken_at Memory (final_cut start.tape.printed geo (lines_in h.rows) new now.printed f)

  abbrev EndsSo : Geometry → Type 0
  EndsSo g =
      (f : IsFinal start.tape.printed g (lines_in h.rows) new now.printed) → ((subject : Subject) → HaveLastLines f.given f.lines subject) → (done : Bool) → done ≡ not new.unfinished → (last : Last) → last.status ≡ (if done then 0 else 7)
      → last.text.items ≡ tree_text (tree_at (script_of f.given) f.lines) ++ end_line last.status → HasEnded start last p now

  pub ended_at : (f : IsFinal start.tape.printed geo (lines_in h.rows) new now.printed) → ((subject : Subject) → HaveLastLines f.given f.lines subject) → (done : Bool) → done ≡ not new.unfinished → (last : Last) → last.status ≡ (if done then 0 else 7)
      → last.text.items ≡ tree_text (tree_at (script_of f.given) f.lines) ++ end_line last.status → HasEnded start last p now
  ended_at = subst EndsSo same (ended_so start p old new before now h still)

module _ (ending : Ending) (start : Start) (p : Pending) (course : SeenCourse) (now : Tape) (h : HasStopped ending start p course now) where
  stand_so : StandFor start.geo (lines_in h.rows) h.between.given h.between.lines
  stand_so = record { gives = h.between.past.gives; fits = h.between.report.settled.sound.told.fit; valid = h.between.report.system.valid; space = h.between.report.system.space; ample = λ turn enough. (h.between.report.turns.ample turn enough).replied }

  -- its rows ended with a line that isn't run
  pub stopped_so : (last : Last) → IsLast ending (lines_in h.rows) h.between.lines last → HasEnded start last p now
  stopped_so last is = record {
    rows = h.rows;
    valid = h.valid;
    reads = h.reads;
    limit = h.limit;
    given = h.between.given;
    lines = h.between.lines;
    stand = stand_so;
    begun = h.between.past.begun;
    printed = h.between.printed_all.text;
    ending = ending;
    ends = h.ends;
    last = is;
  }

  -- no memory was left there
  pub starved_so : IsBroken Memory start now
  starved_so = record {
    rows = h.rows;
    valid = h.valid;
    reads = IsTaken-read start.tape now (front_of start h.rows) p h.reads;
    limit = h.limit;
    cut = record { given = h.between.given; lines = h.between.lines; stand = stand_so; printed_until = h.between.printed_all.text };
  }
