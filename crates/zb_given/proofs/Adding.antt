-- One line more.
use Rattle.std.proofs.Common.{◌≡◌, ℕ, zero, suc, ◌≤◌, Bool, true, List, [], ◌∷◌, ◌++◌, length, take, drop, refl, sym, subst, ◌∙◌, append_assoc, arith}
use Rattle.std.specs.List.{AllByRecursion}
use Rattle.std.proofs.lemmas.List.{append-nil, length-append, length-take-le, take-append-drop}
use Rattle.zb_types.specs.declared.calls.Call.{Call}
use Rattle.zb_types.specs.declared.calls.Call.TheVariants.{Write, Truncate}
use Rattle.zb_types.specs.declared.lines.Line.{Line}
use Rattle.zb_types.specs.declared.lines.Said.{Said}
use Rattle.zb_types.specs.declared.lines.Said.TheVariants.{Reply as Replied, Buffered, Kept, Failed, Dropped, Unfinished}
use Rattle.zb_types.specs.declared.lines.Outcome.{Outcome}
use Rattle.zb_types.specs.declared.lines.Outcome.TheVariants.{Call as OfCall, Clean as OfClean, Rebuild as OfRebuild, Event as OfEvent}
use Rattle.zb_types.specs.Apply.{is_update, is_bufferable}
use Rattle.zb_claims.specs.Points.{Subject, told_of}
use Rattle.zb_claims.specs.Fits.{Clock, SaidFitsBy, EventFitsBy, FitsNextBy, FitsFromBy}
use Rattle.zb_given.specs.Given.{Item, Given, script_of, point, place_of, point_of, clock_of_given, FitGiven}
use Rattle.zb_given.specs.Calls.{IsOpen, IsOwed}
use Rattle.zb_given.specs.Adds.{AddsBuffered, AddsUpdate, AddsRead, AddsKept, AddsFailed, AddsDropped, AddsUnfinished, AddsClean, AddsRebuild, AddsEvent}
use Rattle.zb_given.proofs.Small.{no, on, nat_le_yes}
use Rattle.zb_given.proofs.Asking.{asked_some}
use Rattle.zb_given.proofs.Parts.{asks_call}

pub buffers_update : (call : Call) → is_bufferable call ≡ true → is_update call ≡ true
buffers_update (Write fid offset bytes) h = refl
buffers_update (Truncate fid size) h = refl
buffers_update call h = absurd cc

pub push_from : (w : Clock) (script : List Line) (before lines : List Outcome) (line : Outcome) → FitsFromBy w script before lines → FitsNextBy w script (before ++ lines) line → FitsFromBy w script before (lines ++ line ∷ [])
push_from w script before [] line fits next = (subst (λ (b : List Outcome). FitsNextBy w script b line) (append-nil before) next, tt)
push_from w script before (x ∷ lines) line fits next =
    (fits.0, push_from w script (before ++ x ∷ []) lines line fits.1 (subst (λ (b : List Outcome). FitsNextBy w script b line) (sym (append_assoc before (x ∷ []) lines)) next))

pub point_stood : (n : ℕ) (items : List Item) (place : ℕ) → AllByRecursion (λ item. item.at ≤ n) items → point items place ≤ n
point_stood n [] place all = omega arith
point_stood n (item ∷ items) zero all = all.0
point_stood n (item ∷ items) (suc place) all = point_stood n items place all.1

pub stood_more : (n m : ℕ) → n ≤ m → (items : List Item) → AllByRecursion (λ item. item.at ≤ n) items → AllByRecursion (λ item. item.at ≤ m) items
stood_more n m le [] all = tt
stood_more n m le (item ∷ items) all = let a : item.at ≤ n = all.0 in (omega (arith, a, le), stood_more n m le items all.1)

pub adds : (given : Given) (lines : List Outcome) (line : Outcome) → FitGiven given lines → FitsNextBy (clock_of_given given) (script_of given) lines line → FitGiven given (lines ++ line ∷ [])
adds given lines line g next = record {
  fits = push_from (clock_of_given given) (script_of given) [] lines line g.fits next;
  stood = stood_more (length lines) (length (lines ++ line ∷ [])) (omega (arith, length-append lines (line ∷ []))) given.items g.stood;
}

of_call : (given : Given) (lines : List Outcome) (client n : ℕ) (call : Call) (said : Said) → FitGiven given lines → IsOpen given lines client n call → ((plus : Bool) → SaidFitsBy (clock_of_given given) (script_of given) lines client n (place_of given client n) plus call said) → FitGiven given (lines ++ OfCall client n said ∷ [])
of_call given lines client n call said g o fits =
    let a = asks_call (script_of given) client n call o.is in
    adds given lines (OfCall client n said) g (record {
      place = place_of given client n;
      plus = a.plus;
      call = call;
      is = a.is;
      begun = nat_le_yes (point_of given client n) (length lines) (point_stood (length lines) given.items (place_of given client n) g.stood);
      unended = o.unended;
      next = o.next;
      fits = fits a.plus;
    })

owed : (given : Given) (lines : List Outcome) (subject : Subject) → FitGiven given lines → IsOwed given lines subject → EventFitsBy (clock_of_given given) (script_of given) lines subject
owed given lines subject g o =
    let a = asked_some (script_of given) subject (told_of subject lines) o in
    record {
      place = a.0.0;
      line = a.0.1;
      is = a.1;
      begun = nat_le_yes (point given.items a.0.0) (length lines) (point_stood (length lines) given.items a.0.0 g.stood);
    }

pub adds_buffered : AddsBuffered
adds_buffered given lines client n call g o fits = of_call given lines client n call Buffered g o (λ plus. fits)

pub adds_update : AddsUpdate
adds_update given lines client n call reply g o may first is same = of_call given lines client n call (Replied reply) g o (λ plus. record {
  earlier = may.earlier;
  manager = may.manager;
  first = first;
  update = λ h. same;
  read = λ h. on (sym is ∙ h);
})

pub adds_read : AddsRead
adds_read given lines client read call reply g l may same =
    let behind : point_of given client read.number ≤ length (take read.at lines) = omega (arith, l.after_given, length-take-le read.at lines l.stood) in
    of_call given lines client read.number call (Replied reply) g l.is_open (λ plus. record {
      earlier = may.earlier;
      manager = may.manager;
      first = λ new buffer. on (sym (buffers_update call buffer) ∙ l.is_read);
      update = λ h. on (sym h ∙ l.is_read);
      read = λ h. record {
        front = take read.at lines;
        rest = drop read.at lines;
        split = sym (take-append-drop read.at lines);
        after_begin = nat_le_yes (point_of given client read.number) (length (take read.at lines)) behind;
        after_own = l.after_own;
        at_once = λ a b. no a;
        same = same;
      };
    })

pub adds_kept : AddsKept
adds_kept given lines client n call cause g o fits = of_call given lines client n call (Kept cause) g o (λ plus. fits)

pub adds_failed : AddsFailed
adds_failed given lines client n call cause g o is = of_call given lines client n call (Failed cause) g o (λ plus. is)

pub adds_dropped : AddsDropped
adds_dropped given lines client n call g o = of_call given lines client n call Dropped g o (λ plus. tt)

pub adds_unfinished : AddsUnfinished
adds_unfinished given lines client n call cause g o is has over = of_call given lines client n call (Unfinished cause) g o (λ plus. record { update = is; all = over; kept = has })

pub adds_clean : AddsClean
adds_clean given lines pass g o = adds given lines (OfClean pass) g (owed given lines _ g o)

pub adds_rebuild : AddsRebuild
adds_rebuild given lines server end g o = adds given lines (OfRebuild server end) g (owed given lines _ g o)

pub adds_event : AddsEvent
adds_event given lines event answer g o = adds given lines (OfEvent event answer) g (owed given lines _ g o)
