-- A world stays sound.
use Rattle.std.proofs.Common.{◌≡◌, ◌≢◌, ℕ, ◌<◌, List, [], length, Result, Ok, Err, None, sym, subst}
use Rattle.std.specs.Prelude.{IfErr, IfOk, IsTrue, OnErr, OnOk}
use Rattle.zb_types.specs.Limits.{within}
use Rattle.zb_types.specs.declared.calls.Call.{Call}
use Rattle.zb_types.specs.declared.geometry.Geometry.{Geometry}
use Rattle.zb_types.specs.declared.lines.Outcome.{Outcome}
use Rattle.zb_given.specs.Given.{Given, with_finish}
use Rattle.zb_forming_laws.specs.Resting.{IsShort}
use Rattle.zb_ending.specs.Left.{work_left}
use Rattle.zb_nodes.specs.declared.answers.Halt.{Halt}
use Rattle.zb_course.specs.Seen.{SeenCourse}
use Rattle.zb_course.specs.Sound.{most_calls}
use Rattle.zb_course.specs.Steps.{HasHalted, IsFirstCourse, StepIs, TakesCall, TellsRest, holder_of}
use Rattle.zb_course.specs.declared.step.Step.{Step}
use Rattle.zb_course.specs.declared.step.Step.TheVariants as step
use Rattle.zb_running.specs.Reports.{HasReport, IsReported}
use Rattle.zb_running.specs.Telling.{HasHalted as Halts, SomeHasTold, TellsMore, TellsUntil}
use Rattle.zb_running.proofs.Reported.{call_given, first_report, halts_so, none_waits, rest_so, settles_so, step_told, still_prints}
use Rattle.zb_running.proofs.Steps.{nearer}
use Rattle.zb_world.specs.World.{IsSound}

-- with this report it is sound
pub with_report : {geo : Geometry} {given : Given} {lines : List Outcome} {course : SeenCourse} → HasReport geo given lines course → IsSound geo course
with_report {geo} {given} {lines} {course} r = record { given = given; lines = lines; report = none_waits r }

pub with_reported : {geo : Geometry} {given : Given} {lines : List Outcome} {course : SeenCourse} → IsReported geo given lines course → IsSound geo course
with_reported {geo} {given} {lines} {course} r = record { given = given; lines = lines; report = r }

pub first_sound : (geo : Geometry) (course : SeenCourse) → IsFirstCourse geo course → IsSound geo course
first_sound geo course first = with_report (first_report geo course first)

pub handed_over : (geo : Geometry) (course : SeenCourse) → IsSound geo course → IsSound geo (record course { text = [] })
handed_over geo course s = with_reported (still_prints course s.report)

-- its report, where no line waits
pub report_now : {geo : Geometry} {course : SeenCourse} (s : IsSound geo course) → course.untold ≡ None → HasReport geo s.given s.lines course
report_now s told = settles_so s.report told

module _ {geo : Geometry} {old : SeenCourse} (s : IsSound geo old) (new : SeenCourse) where
  after_same : new ≡ old → IsSound geo new
  after_same same = subst (IsSound geo) (sym same) s

  pub after_tell : {T E : Type 0} (res : Result T E) → OnOk res (TellsRest old new) → OnErr res (new ≡ old) → IsSound geo new
  after_tell (Ok x) told same = with_report (rest_so new s.report told).report
  after_tell (Err e) told same = after_same same

  module _ (told : old.untold ≡ None) where
    pub after_call : {T E : Type 0} (client : ℕ) (call : Call) (res : Result T E) → IsTrue (within 1 geo.clients client) → IsShort call → OnOk res (TakesCall old new client call) → OnOk res (old.calls < most_calls) → OnErr res (new ≡ old) → IsSound geo new
    after_call client call (Ok x) own short takes few same = with_report (call_given (report_now s told) new client call own short few takes).report
    after_call client call (Err e) own short takes few same = after_same same

    pub after_step : (client : ℕ) (res : Result Step Halt) → IsTrue (within 1 geo.clients client) → IfOk res (StepIs old new client) → IfErr res (HasHalted old new client) → IsSound geo new
    after_step client (Ok did) own is halts = with_report (step_told (report_now s told) new client own did is).report
    after_step client (Err why) own is halts = with_reported (halts_so (report_now s told) new client why own halts).report

    pub after_one : (client : ℕ) (res : Result Step Halt) → OnOk res (SomeHasTold (report_now s told) new client) → OnErr res (Halts geo s.given s.lines old new) → IsSound geo new
    after_one client (Ok did) some halts = with_report some.told.report
    after_one client (Err why) some halts = with_reported halts.report

    pub after_finish : {T E : Type 0} (res : Result T E) → OnOk res (TellsMore geo (with_finish s.given (length s.lines)) s.lines old new) → OnErr res (TellsUntil geo (with_finish s.given (length s.lines)) s.lines old new) → IsSound geo new
    after_finish (Ok x) more halts = with_report more.report
    after_finish (Err e) more halts = with_reported halts.report

-- no line waits behind a finish
pub settled_after : {T E : Type 0} (geo : Geometry) (given : Given) (lines : List Outcome) (old new : SeenCourse) (res : Result T E) → OnOk res (TellsMore geo given lines old new) → OnOk res (new.untold ≡ None)
settled_after geo given lines old new (Ok x) more = more.report.settled.told
settled_after geo given lines old new (Err e) more = tt

-- a step that is made leaves fewer
pub steps_nearer : {geo : Geometry} {given : Given} {lines : List Outcome} {old : SeenCourse} (r : HasReport geo given lines old) (new : SeenCourse) (client : ℕ) (res : Result Step Halt) → IfOk res (StepIs old new client)
    → IfOk res (λ did. did ≢ step.Idle → holder_of did ≡ None → work_left new.nodes < work_left old.nodes)
steps_nearer r new client (Ok did) is = λ made free. nearer r new client did is made free
steps_nearer r new client (Err why) is = tt
