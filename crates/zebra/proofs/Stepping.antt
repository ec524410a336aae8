-- What steps leave of a run: the lines that they told are printed, and the program is where it was in its script.
use Rattle.std.proofs.Common.{◌≡◌, ℕ, ◌≤◌, ◌-◌, Bool, true, false, List, [], ◌∷◌, ◌++◌, length, Result, Ok, Err, Option, Some, refl, sym, subst, ◌∙◌, inl, inr, arith}
use Rattle.std.specs.Prelude.{MatchResult, OnOk}
use Rattle.std.proofs.lemmas.Bool.Decides.{nat_tests}
use Rattle.zb_types.specs.Limits.{within}
use Rattle.zb_types.specs.declared.calls.Call.{Call}
use Rattle.zb_types.specs.declared.calls.Call.TheVariants.{Create, Mkdir, Remove, Rename, Write, Truncate, Sync, Read, List as ListOf, Stat, Find}
use Rattle.zb_types.specs.declared.geometry.Geometry.{Geometry}
use Rattle.zb_types.specs.declared.lines.Kind.TheVariants.{Idle}
use Rattle.zb_types.specs.declared.lines.Line.{Line}
use Rattle.zb_types.specs.declared.lines.Line.TheVariants.{Call as CallLine}
use Rattle.zb_types.specs.declared.lines.Outcome.{Outcome}
use Rattle.zb_claims.specs.Points.{calls}
use Rattle.zb_claims.specs.Text.{IsCall, max_part}
use Rattle.zb_laws.proofs.Tests.{high}
use Rattle.zb_forming_laws.specs.Resting.{IsShort}
use Rattle.zb_given.specs.Calls.{LookedUp}
use Rattle.zb_given.specs.Ends.{HaveLines}
use Rattle.zb_given.specs.Given.{Given, with_item}
use Rattle.zb_given.specs.Gives.{is_item}
use Rattle.zb_given.specs.Loops.{IsPast}
use Rattle.zb_given.specs.Telling.{LooksNow}
use Rattle.zb_given.proofs.Looping.{goes_past, goes_past_plus, goes_past_steps}
use Rattle.zb_outside.specs.Meaning.{Meaning}
use Rattle.zb_outside.specs.Streams.{Streams, PutTold}
use Rattle.zb_nodes.specs.Seen.{kind_at}
use Rattle.zb_course.specs.Seen.{SeenCourse}
use Rattle.zb_running.specs.Lines.{IsAtCall}
use Rattle.zb_running.specs.Reports.{HasReport}
use Rattle.zb_running.specs.Telling.{GivesMore, HasTold}
use Rattle.zebra.specs.declared.ending.Halted.{Halted}
use Rattle.zebra.specs.declared.ending.Halted.TheVariants.{WriteFault}
use Rattle.zebra.specs.Moves.{IsPrinted}
use Rattle.zebra.specs.Running.{IsBetween, IsCalling, IsCutOff, IsCutOffAt, StandFor}
use Rattle.zebra.proofs.Printing.{puts, silent, until_whole}

-- a course has as many clients as its system
pub last_client : {geo : Geometry} {given : Given} {lines : List Outcome} {c : SeenCourse} → HasReport geo given lines c → (client : ℕ) → within 1 geo.clients client ≡ true → client ≤ length c.nodes.clients
last_client {geo} {given} {lines} {c} r client h = let many : length c.nodes.clients ≡ geo.clients = rw r.system.sizes at r.settled.sound.count in omega (arith, many, high 1 geo.clients client h)

-- clients are counted from 1
pub first_client : (most client : ℕ) → within 1 most client ≡ true → 1 ≤ client
first_client most client h = grind (arith, nat_tests)

-- a call of a script is short
pub short_call : (call : Call) → IsCall call → IsShort call
short_call (Create path) h = tt
short_call (Mkdir path) h = tt
short_call (Remove path) h = tt
short_call (Rename path to) h = tt
short_call (Write fid offset bytes) h = high (length bytes) h.2
  where
    high : (n : ℕ) → within 1 max_part n ≡ true → n ≤ 4096
    high n h = grind (arith, nat_tests)
short_call (Truncate fid size) h = tt
short_call Sync h = tt
short_call (Read fid offset len) h = tt
short_call (ListOf path) h = tt
short_call (Stat path) h = tt
short_call (Find path) h = tt

-- a report stays at a call where the reads stay
pub at_call_still : {geo : Geometry} {given : Given} {lines : List Outcome} {old : SeenCourse} (r : HasReport geo given lines old) (new : SeenCourse) (script : List Line) (plus : Bool) (client : ℕ) (call : Call) → IsAtCall script plus client call r → (g : GivesMore r given new)
    → IsAtCall script plus client call g.report
at_call_still {geo} {given} {lines} {old} r new script plus client call at g = record {
  at = at.at;
  looks = subst (λ (read : Option LookedUp). LooksNow given lines client read) (sym (g.reads (client - 1))) at.looks;
}

-- Between two lines.

module _ (start : List ℕ) (geo : Geometry) (script : List Line) (old : SeenCourse) where
  pub between_stands : (printed : List ℕ) → (b : IsBetween start geo script old printed) → StandFor geo script b.given b.lines
  between_stands printed b = record { gives = b.past.gives; fits = b.report.settled.sound.told.fit; valid = b.report.system.valid; space = b.report.system.space; ample = λ turn enough. (b.report.turns.ample turn enough).replied }

  -- it breaks off there
  pub cut_between : (halted : Halted) (printed : List ℕ) → IsBetween start geo script old printed → IsCutOff halted start geo script printed
  cut_between halted printed b = record { given = b.given; lines = b.lines; stand = between_stands printed b; printed_until = until_whole halted start b.lines printed b.printed_all.text }

  -- a step line is past
  pub past_steps : (line : Line) (printed : List ℕ) → is_item line ≡ false → IsBetween start geo script old printed → IsBetween start geo (script ++ line ∷ []) old printed
  past_steps line printed is b = record {
    given = b.given;
    lines = b.lines;
    report = b.report;
    unfinished = b.unfinished;
    past = goes_past_steps script line b.given b.lines is b.past;
    printed_all = b.printed_all;
  }

  -- so it is behind steps, or the run broke off
  pub steps_done : {T : Type 0} (line : Line) (printed : List ℕ) (result : Result T Halted) → is_item line ≡ false → MatchResult result (λ _. IsBetween start geo script old printed) (λ halted. IsCutOff halted start geo script printed)
      → MatchResult result (λ _. IsBetween start geo (script ++ line ∷ []) old printed) (λ halted. IsCutOffAt halted start geo script line printed)
  steps_done line printed (Ok x) is b = past_steps line printed is b
  steps_done line printed (Err halted) is cut = inl cut

  -- a step told lines, or nothing
  module _ (printed : List ℕ) (b : IsBetween start geo script old printed) (new : SeenCourse) (who : ℕ) (t : HasTold b.report new who) (past : IsPast script b.given (b.lines ++ t.more)) where
    pub between_silent : (now : List ℕ) → now ≡ printed → new.text ≡ old.text → IsBetween start geo script new now
    between_silent now same quiet = record {
      given = b.given;
      lines = b.lines ++ t.more;
      report = t.report;
      unfinished = b.unfinished;
      past = past;
      printed_all = subst (IsPrinted start (b.lines ++ t.more) new) (sym same) (silent start b.lines t.more old new printed b.printed_all t.text quiet);
    }

    -- they were put
    pub between_put : {T E : Type 0} (end : SeenCourse) → end ≡ record new { text = [] } → GivesMore t.report b.given (record new { text = [] }) → (result : Result T E) (before after : Streams) (m k : Meaning) → m.now.printed ≡ printed → PutTold new.text result before after m k
        → MatchResult result (λ _. IsBetween start geo script end k.now.printed) (λ _. IsCutOff WriteFault start geo script k.now.printed)
    between_put {T} {E} end is g (Ok x) before after m k same told =
        let put = puts {T = T} {E = E} start b.lines t.more old new (record new { text = [] }) (Ok x) before after m k (subst (IsPrinted start b.lines old) (sym same) b.printed_all) t.text refl told in
        subst (λ (c : SeenCourse). IsBetween start geo script c k.now.printed) (sym is) (record { given = b.given; lines = b.lines ++ t.more; report = g.report; unfinished = b.unfinished; past = past; printed_all = put })
    between_put {T} {E} end is g (Err e) before after m k same told =
        let put = puts {T = T} {E = E} start b.lines t.more old new (record new { text = [] }) (Err e) before after m k (subst (IsPrinted start b.lines old) (sym same) b.printed_all) t.text refl told in
        record {
          given = b.given;
          lines = b.lines ++ t.more;
          stand = record { gives = past.gives; fits = t.report.settled.sound.told.fit; valid = t.report.system.valid; space = t.report.system.space; ample = λ turn enough. (t.report.turns.ample turn enough).replied };
          printed_until = put;
        }

-- At a call.

module _ (start : List ℕ) (geo : Geometry) (script : List Line) (plus : Bool) (client : ℕ) (call : Call) (old : SeenCourse) where
  -- it was given
  pub calling : (printed : List ℕ) (b : IsBetween start geo script old printed) (new : SeenCourse) → new.text ≡ old.text → (g : GivesMore b.report (with_item b.given (CallLine true client call) (length b.lines)) new) → IsAtCall script plus client call g.report
      → IsCalling start geo script plus client call new printed
  calling printed b new text g at = record {
    given = with_item b.given (CallLine true client call) (length b.lines);
    lines = b.lines;
    report = g.report;
    unfinished = b.unfinished;
    at = at;
    printed_all = record { none = text ∙ b.printed_all.none; text = b.printed_all.text };
  }

  -- one with a plus is past at once
  pub past_plus : (printed : List ℕ) → plus ≡ true → IsCalling start geo script plus client call old printed → IsBetween start geo (script ++ CallLine plus client call ∷ []) old printed
  past_plus printed is b = record {
    given = b.given;
    lines = b.lines;
    report = b.report;
    unfinished = b.unfinished;
    past = goes_past_plus script (CallLine plus client call) b.given b.lines is b.at.at;
    printed_all = b.printed_all;
  }

  -- another once its client is idle
  pub past_call : (printed : List ℕ) (b : IsCalling start geo script plus client call old printed) → HaveLines b.given b.lines (calls client) → IsBetween start geo (script ++ CallLine plus client call ∷ []) old printed
  past_call printed b lines = record {
    given = b.given;
    lines = b.lines;
    report = b.report;
    unfinished = b.unfinished;
    past = goes_past script (CallLine plus client call) b.given b.lines (calls client) refl lines b.at.at;
    printed_all = b.printed_all;
  }

  -- it is past once it was answered, or the run broke off in it
  pub call_done : {T : Type 0} (printed : List ℕ) (result : Result T Halted) → OnOk result (kind_at old.nodes (client - 1) ≡ Some Idle) → ((given : Given) (lines : List Outcome) → HasReport geo given lines old → kind_at old.nodes (client - 1) ≡ Some Idle → HaveLines given lines (calls client))
      → MatchResult result (λ _. IsCalling start geo script plus client call old printed) (λ halted. IsCutOff halted start geo (script ++ CallLine plus client call ∷ []) printed)
      → MatchResult result (λ _. IsBetween start geo (script ++ CallLine plus client call ∷ []) old printed) (λ halted. IsCutOffAt halted start geo script (CallLine plus client call) printed)
  call_done printed (Ok x) idle law b = past_call printed b (law b.given b.lines b.report idle)
  call_done printed (Err halted) idle law cut = inr cut

  -- a step told lines, or nothing
  module _ (printed : List ℕ) (b : IsCalling start geo script plus client call old printed) (new : SeenCourse) (who : ℕ) (t : HasTold b.report new who) (at : IsAtCall script plus client call t.report) where
    pub calling_silent : (now : List ℕ) → now ≡ printed → new.text ≡ old.text → IsCalling start geo script plus client call new now
    calling_silent now same quiet = record {
      given = b.given;
      lines = b.lines ++ t.more;
      report = t.report;
      unfinished = b.unfinished;
      at = at;
      printed_all = subst (IsPrinted start (b.lines ++ t.more) new) (sym same) (silent start b.lines t.more old new printed b.printed_all t.text quiet);
    }

    -- they were put
    pub calling_put : {T E : Type 0} (end : SeenCourse) → end ≡ record new { text = [] } → GivesMore t.report b.given (record new { text = [] }) → (result : Result T E) (before after : Streams) (m k : Meaning) → m.now.printed ≡ printed → PutTold new.text result before after m k
        → MatchResult result (λ _. IsCalling start geo script plus client call end k.now.printed) (λ _. IsCutOff WriteFault start geo (script ++ CallLine plus client call ∷ []) k.now.printed)
    calling_put {T} {E} end is g (Ok x) before after m k same told =
        let put = puts {T = T} {E = E} start b.lines t.more old new (record new { text = [] }) (Ok x) before after m k (subst (IsPrinted start b.lines old) (sym same) b.printed_all) t.text refl told in
        subst (λ (c : SeenCourse). IsCalling start geo script plus client call c k.now.printed) (sym is) (record {
          given = b.given;
          lines = b.lines ++ t.more;
          report = g.report;
          unfinished = b.unfinished;
          at = at_call_still t.report (record new { text = [] }) script plus client call at g;
          printed_all = put;
        })
    calling_put {T} {E} end is g (Err e) before after m k same told =
        let put = puts {T = T} {E = E} start b.lines t.more old new (record new { text = [] }) (Err e) before after m k (subst (IsPrinted start b.lines old) (sym same) b.printed_all) t.text refl told in
        record {
          given = b.given;
          lines = b.lines ++ t.more;
          stand = record { gives = at.at.gives; fits = t.report.settled.sound.told.fit; valid = t.report.system.valid; space = t.report.system.space; ample = λ turn enough. (t.report.turns.ample turn enough).replied };
          printed_until = put;
        }
