-- A program's loop over one row, by the laws alone: each line fits, and what the loop keeps goes on.
use Rattle.std.proofs.Common.{◌≡◌, ℕ, true, false, List, [], ◌∷◌, ◌++◌, Some, None, refl, ap, ◌∙◌, arith, inr}
use Rattle.std.specs.Prelude.{codes}
use Rattle.zb_types.specs.declared.calls.Call.{Call}
use Rattle.zb_types.specs.declared.calls.Call.TheVariants.{Create, Write, Read}
use Rattle.zb_types.specs.declared.calls.Reply.TheVariants.{Made, Bytes}
use Rattle.zb_types.specs.declared.nodes.Node.TheVariants.{Client}
use Rattle.zb_types.specs.declared.nodes.Event.TheVariants.{Crash as CrashOf, Up as UpOf}
use Rattle.zb_types.specs.declared.nodes.EventAnswer.TheVariants.{Done as EventDone}
use Rattle.zb_types.specs.declared.lines.Line.{Line}
use Rattle.zb_types.specs.declared.lines.Line.TheVariants.{Call as CallLine, Event as EventLine}
use Rattle.zb_types.specs.declared.lines.Said.TheVariants.{Reply as Replied, Buffered, Dropped}
use Rattle.zb_types.specs.declared.lines.Told.TheVariants.{Crash, Up}
use Rattle.zb_types.specs.declared.lines.Outcome.{Outcome}
use Rattle.zb_types.specs.declared.lines.Outcome.TheVariants.{Call as OfCall, Event as OfEvent}
use Rattle.zb_types.specs.Apply.{is_update, reply_to}
use Rattle.zb_claims.specs.Points.{calls, crashes, ups, call_of, has_final, is_of_client, tree_at}
use Rattle.zb_claims.specs.Fits.{is_next}
use Rattle.zb_claims.specs.Rows.{fid, dropped_script, dropped_report}
use Rattle.zb_given.specs.Given.{Given, none_given, script_of, FitGiven}
use Rattle.zb_given.specs.Calls.{IsOpen, LookedUp}
use Rattle.zb_given.specs.Telling.{IsOfLookup, StepTells}
use Rattle.zb_given.specs.Loops.{IsPast}
use Rattle.zb_given.specs.Worked.{one_given, write_given, more_written, crash_given, up_given, read_given, dropped_given, DroppedLift}
use Rattle.zb_given.proofs.Small.{no, on}
use Rattle.zb_given.proofs.MoreGiving.{more_given, more_finished}
use Rattle.zb_given.proofs.RunLifting.{lifts_run}
use Rattle.zb_given.proofs.Adding.{adds_buffered, adds_update, adds_read, adds_dropped, adds_event}
use Rattle.zb_given.proofs.Staying.{looks_up}
use Rattle.zb_given.proofs.Ending.{all_told_law}
use Rattle.zb_given.proofs.Looping.{is_first, goes_to, goes_past, steps_own, steps_other, finishes}

-- The lines of the script, and those of the report as they come.

abbrev creates : Line
creates = CallLine false 1 (Create (codes "/a"))

abbrev writes : Line
writes = CallLine false 1 (Write (fid 1) 0 (codes "x"))

abbrev writes_more : Line
writes_more = CallLine false 1 (Write (fid 1) 1 (codes "y"))

abbrev made : List Outcome
made = OfCall 1 1 (Replied (Made (fid 1))) ∷ []

abbrev one_kept : List Outcome
one_kept = made ++ OfCall 1 2 Buffered ∷ []

abbrev two_kept : List Outcome
two_kept = one_kept ++ OfCall 1 3 Buffered ∷ []

abbrev crashed : List Outcome
crashed = two_kept ++ OfEvent (Crash (Client 1)) EventDone ∷ []

abbrev one_dropped : List Outcome
one_dropped = crashed ++ OfCall 1 2 Dropped ∷ []

abbrev two_dropped : List Outcome
two_dropped = one_dropped ++ OfCall 1 3 Dropped ∷ []

abbrev is_up : List Outcome
is_up = two_dropped ++ OfEvent (Up (Client 1)) EventDone ∷ []

-- Each line fits.

opened : (given : Given) (lines : List Outcome) (n : ℕ) (call : Call) → call_of (script_of given) 1 n ≡ Some call → has_final lines 1 n ≡ false → is_next lines 1 n ≡ true → IsOpen given lines 1 n call
opened given lines n call is left next = record { is = is; next = next; unended = left }

fit_made : FitGiven one_given made
fit_made = adds_update one_given [] 1 1 (Create (codes "/a")) (Made (fid 1)) (more_given none_given [] (CallLine true 1 (Create (codes "/a"))) 0 (omega arith) is_first.fit).0
    (opened one_given [] 1 (Create (codes "/a")) refl refl refl) (record { earlier = refl; manager = refl }) (λ x y. no y) refl refl

fit_one_kept : FitGiven write_given one_kept
fit_one_kept = adds_buffered write_given made 1 2 (Write (fid 1) 0 (codes "x")) (more_given one_given made (CallLine true 1 (Write (fid 1) 0 (codes "x"))) 1 (omega arith) fit_made).0
    (opened write_given made 2 (Write (fid 1) 0 (codes "x")) refl refl refl) (record { buffer = refl; new = refl; few = omega arith })

fit_two_kept : FitGiven more_written two_kept
fit_two_kept = adds_buffered more_written one_kept 1 3 (Write (fid 1) 1 (codes "y")) (more_given write_given one_kept (CallLine true 1 (Write (fid 1) 1 (codes "y"))) 2 (omega arith) fit_one_kept).0
    (opened more_written one_kept 3 (Write (fid 1) 1 (codes "y")) refl refl refl) (record { buffer = refl; new = refl; few = omega arith })

fit_crashed : FitGiven crash_given crashed
fit_crashed = adds_event crash_given two_kept (Crash (Client 1)) EventDone (more_given more_written two_kept (EventLine (CrashOf (Client 1))) 3 (omega arith) fit_two_kept).0 (omega arith)

fit_dropped : FitGiven crash_given two_dropped
fit_dropped = adds_dropped crash_given one_dropped 1 3 (Write (fid 1) 1 (codes "y"))
    (adds_dropped crash_given crashed 1 2 (Write (fid 1) 0 (codes "x")) fit_crashed (opened crash_given crashed 2 (Write (fid 1) 0 (codes "x")) refl refl refl))
    (opened crash_given one_dropped 3 (Write (fid 1) 1 (codes "y")) refl refl refl)

fit_up : FitGiven up_given is_up
fit_up = adds_event up_given two_dropped (Up (Client 1)) EventDone (more_given crash_given two_dropped (EventLine (UpOf (Client 1))) 6 (omega arith) fit_dropped).0 (omega arith)

fit_reads : FitGiven read_given is_up
fit_reads = (more_given up_given is_up (CallLine true 1 (Read (fid 1) 0 5)) 7 (omega arith) fit_up).0

abbrev looked : LookedUp
looked = record { number = 4; at = 7 }

fit_all : FitGiven read_given dropped_report
fit_all = adds_read read_given is_up 1 looked (Read (fid 1) 0 5) (Bytes []) fit_reads (looks_up read_given is_up 1 4 (Read (fid 1) 0 5) fit_reads (opened read_given is_up 4 (Read (fid 1) 0 5) refl refl refl) refl) (record { earlier = refl; manager = refl }) refl

-- The loop.

same_call : {a b : Call} → Some a ≡ Some b → a ≡ b
same_call e = cc

-- a step that tells one line, no reply to a read
tells : (given : Given) (lines : List Outcome) (x : Outcome) → is_of_client 1 x ≡ true → IsOfLookup given lines None x → StepTells given lines 1 None None (x ∷ [])
tells given lines x own of_lookup = record { own = (own, tt); reads = (of_lookup, tt); looks = inr tt }

past_made : IsPast (creates ∷ []) one_given made
past_made =
    let at = goes_to [] none_given [] creates refl refl is_first.fit is_first.past in
    let done = steps_own [] creates one_given [] 1 None None made fit_made (tells one_given [] (OfCall 1 1 (Replied (Made (fid 1)))) refl (λ call is read. on (ap is_update (same_call is) ∙ read))) tt at in
    goes_past [] creates one_given made (calls 1) refl ((all_told_law one_given made).0 refl (calls 1)) done.0

past_kept : IsPast (creates ∷ writes ∷ []) write_given one_kept
past_kept =
    let at = goes_to (creates ∷ []) one_given made writes refl refl fit_made past_made in
    let done = steps_own (creates ∷ []) writes write_given made 1 None None (OfCall 1 2 Buffered ∷ []) fit_one_kept (tells write_given made (OfCall 1 2 Buffered) refl tt) tt at in
    goes_past (creates ∷ []) writes write_given one_kept (calls 1) refl ((all_told_law write_given one_kept).0 refl (calls 1)) done.0

past_two_kept : IsPast (creates ∷ writes ∷ writes_more ∷ []) more_written two_kept
past_two_kept =
    let at = goes_to (creates ∷ writes ∷ []) write_given one_kept writes_more refl refl fit_one_kept past_kept in
    let done = steps_own (creates ∷ writes ∷ []) writes_more more_written one_kept 1 None None (OfCall 1 3 Buffered ∷ []) fit_two_kept (tells more_written one_kept (OfCall 1 3 Buffered) refl tt) tt at in
    goes_past (creates ∷ writes ∷ []) writes_more more_written two_kept (calls 1) refl ((all_told_law more_written two_kept).0 refl (calls 1)) done.0

abbrev three : List Line
three = creates ∷ writes ∷ writes_more ∷ []

past_crash : IsPast (three ++ EventLine (CrashOf (Client 1)) ∷ []) crash_given two_dropped
past_crash =
    let at = goes_to three more_written two_kept (EventLine (CrashOf (Client 1))) refl refl fit_two_kept past_two_kept in
    let done = steps_other three (EventLine (CrashOf (Client 1))) crash_given two_kept (OfEvent (Crash (Client 1)) EventDone ∷ OfCall 1 2 Dropped ∷ OfCall 1 3 Dropped ∷ []) fit_dropped (λ client e. no e) at in
    goes_past three (EventLine (CrashOf (Client 1))) crash_given two_dropped (crashes (Client 1)) refl ((all_told_law crash_given two_dropped).0 refl (crashes (Client 1))) done

abbrev four : List Line
four = three ++ EventLine (CrashOf (Client 1)) ∷ []

past_up : IsPast (four ++ EventLine (UpOf (Client 1)) ∷ []) up_given is_up
past_up =
    let at = goes_to four crash_given two_dropped (EventLine (UpOf (Client 1))) refl refl fit_dropped past_crash in
    let done = steps_other four (EventLine (UpOf (Client 1))) up_given two_dropped (OfEvent (Up (Client 1)) EventDone ∷ []) fit_up (λ client e. no e) at in
    goes_past four (EventLine (UpOf (Client 1))) up_given is_up (ups (Client 1)) refl ((all_told_law up_given is_up).0 refl (ups (Client 1))) done

abbrev five : List Line
five = four ++ EventLine (UpOf (Client 1)) ∷ []

-- the read is looked up in one step, and answered in another
past_read : IsPast dropped_script read_given dropped_report
past_read =
    let line : Line = CallLine false 1 (Read (fid 1) 0 5) in
    let at = goes_to five up_given is_up (CallLine false 1 (Read (fid 1) 0 5)) refl refl fit_up past_up in
    let looks = steps_own five (CallLine false 1 (Read (fid 1) 0 5)) read_given is_up 1 None (Some looked) [] fit_reads (record { own = tt; reads = tt; looks = inr refl }) tt at in
    let answered = steps_own five (CallLine false 1 (Read (fid 1) 0 5)) read_given is_up 1 (Some looked) None (OfCall 1 4 (Replied (Bytes [])) ∷ []) fit_all
    (record { own = (refl, tt); reads = ((λ call is read. record { number = refl; same = ap (reply_to (tree_at (script_of read_given) is_up)) (same_call is) }), tt); looks = inr tt }) looks.1 looks.0 in
    goes_past five (CallLine false 1 (Read (fid 1) 0 5)) read_given dropped_report (calls 1) refl ((all_told_law read_given dropped_report).0 refl (calls 1)) answered.0

pub dropped_lift : DroppedLift
dropped_lift =
    let past = finishes dropped_script read_given dropped_report past_read in
    let fit = more_finished read_given dropped_report 8 fit_all in
    record { given_fit = fit; past = past; fits = (lifts_run dropped_script dropped_given dropped_report past.gives fit).0 }
