-- The worked rows fit.
use Rattle.std.proofs.Common.{◌≡◌, ℕ, suc, ◌+◌, ◌<◌, Bool, true, false, List, [], ◌∷◌, ◌++◌, Option, Some, None, refl, sym, ap, subst, ◌∙◌, arith}
use Rattle.std.specs.Prelude.{codes}
use Rattle.zb_types.specs.declared.calls.Call.{Call}
use Rattle.zb_types.specs.declared.calls.Call.TheVariants.{Create, Write, Sync, Read, List as ListOf}
use Rattle.zb_types.specs.declared.calls.Reply.{Reply}
use Rattle.zb_types.specs.declared.calls.Reply.TheVariants.{Done, Made, Bytes}
use Rattle.zb_types.specs.declared.lines.Line.{Line}
use Rattle.zb_types.specs.declared.lines.Line.TheVariants.{Call as CallLine, Event as EventLine}
use Rattle.zb_types.specs.declared.lines.Said.TheVariants.{Reply as Replied, Buffered, Kept, Failed, Dropped}
use Rattle.zb_types.specs.declared.lines.Outcome.{Outcome}
use Rattle.zb_types.specs.declared.lines.Outcome.TheVariants.{Call as OfCall, Event as OfEvent}
use Rattle.zb_types.specs.declared.nodes.Cause.{Cause}
use Rattle.zb_types.specs.declared.nodes.Cause.TheVariants.{Down}
use Rattle.zb_types.specs.declared.nodes.Node.TheVariants.{Client, Manager}
use Rattle.zb_types.specs.declared.nodes.Event.TheVariants.{Crash as CrashOf, Arm as ArmOf, Up as UpOf, Lose as LoseOf}
use Rattle.zb_types.specs.declared.nodes.EventAnswer.TheVariants.{Done as EventDone}
use Rattle.zb_types.specs.declared.lines.Told.TheVariants.{Crash}
use Rattle.std.proofs.lemmas.List.{append-nil}
use Rattle.zb_types.specs.Apply.{is_update, is_bufferable, reply_to}
use Rattle.zb_claims.specs.Points.{Subject, calls, asked, told_of, has_line, has_final, kept_now, is_begun, is_before_crash, tree_at}
use Rattle.zb_claims.specs.Fits.{are_ended, is_next, MayNotBuffer, ReadFits, CallFits, EventFits, FitLines}
use Rattle.zb_claims.specs.Rows.{fid, hello_script, hello_report, stale_report, unordered_report, two_script, two_report, armed_script, armed_report, dropped_script, dropped_report, down_script, down_report, beside_report, eight_script, seven_lines, eight_lines, too_many_report, done}

no : {C : Type 0} → false ≡ true → C
no e = absurd cc

on : {C : Type 0} → true ≡ false → C
on e = absurd cc

-- an update's reply whose call isn't a write, or has a line
pub updated : {script : List Line} {before : List Outcome} {client n : ℕ} (place : ℕ) (plus : Bool) (call : Call) {reply : Reply}
    → asked script (calls client) n ≡ Some (place, CallLine plus client call) → is_begun script before place ≡ true → has_final before client n ≡ false → is_next before client n ≡ true
    → are_ended script before client n ≡ true → is_before_crash script before place ≡ true → MayNotBuffer before client n call → is_update call ≡ true → reply ≡ reply_to (tree_at script before) call
    → CallFits true script before client n (Replied reply)
updated place plus call is begun left next ended manager first update same = record {
  place = place;
  plus = plus;
  call = call;
  is = is;
  begun = begun;
  unended = left;
  next = next;
  fits = record { earlier = ended; manager = manager; first = first; update = λ h. same; read = λ h. let e : true ≡ false = sym update ∙ h in absurd cc };
}

-- a read's reply without a plus
pub seen : {script : List Line} {before : List Outcome} {client n : ℕ} (place : ℕ) (call : Call) {reply : Reply}
    → asked script (calls client) n ≡ Some (place, CallLine false client call) → is_begun script before place ≡ true → has_final before client n ≡ false → is_next before client n ≡ true
    → are_ended script before client n ≡ true → is_before_crash script before place ≡ true → is_bufferable call ≡ false → is_update call ≡ false → reply ≡ reply_to (tree_at script before) call → before ≡ before ++ []
    → CallFits true script before client n (Replied reply)
seen {before = before} place call is begun left next ended manager buffer update same whole = record {
  place = place;
  plus = false;
  call = call;
  is = is;
  begun = begun;
  unended = left;
  next = next;
  fits = record {
    earlier = ended;
    manager = manager;
    first = λ a b. let e : false ≡ true = sym buffer ∙ b in absurd cc;
    update = λ h. let e : false ≡ true = sym update ∙ h in absurd cc;
    read = λ h. record { front = before; rest = []; split = whole; after_begin = begun; after_own = refl; at_once = λ a b. refl; same = same };
  };
}

kept : {script : List Line} {before : List Outcome} {client n : ℕ} (place : ℕ) (plus : Bool) (call : Call)
    → asked script (calls client) n ≡ Some (place, CallLine plus client call) → is_begun script before place ≡ true → has_final before client n ≡ false → is_next before client n ≡ true
    → is_bufferable call ≡ true → has_line before client n ≡ false → kept_now before client + 1 < 8 → CallFits true script before client n Buffered
kept place plus call is begun left next buffer new few = record { place = place; plus = plus; call = call; is = is; begun = begun; unended = left; next = next; fits = record { buffer = buffer; new = new; few = few } }

pub hello_fits : FitLines true hello_script hello_report
hello_fits = (
  updated 0 false (Create (codes "/a")) refl refl refl refl refl refl (λ a b. no b) refl refl,
  (
    kept 1 false (Write (fid 1) 0 (codes "hello")) refl refl refl refl refl refl (omega arith),
    (
      updated 1 false (Write (fid 1) 0 (codes "hello")) refl refl refl refl refl refl (λ a b. on a) refl refl,
      (
        updated 2 false Sync refl refl refl refl refl refl (λ a b. no b) refl refl,
        (
          seen 3 (Read (fid 1) 0 5) refl refl refl refl refl refl refl refl refl refl,
          tt,
        ),
      ),
    ),
  ),
)

pub two_fit : FitLines true two_script two_report
two_fit = (
  updated 0 false (Create (codes "/a")) refl refl refl refl refl refl (λ a b. no b) refl refl,
  (
    kept 1 false (Write (fid 1) 0 (codes "aaaaaa")) refl refl refl refl refl refl (omega arith),
    (
      updated 1 false (Write (fid 1) 0 (codes "aaaaaa")) refl refl refl refl refl refl (λ a b. on a) refl refl,
      (
        updated 2 false Sync refl refl refl refl refl refl (λ a b. no b) refl refl,
        (
          kept 3 true (Write (fid 1) 0 (codes "X")) refl refl refl refl refl refl (omega arith),
          (
            kept 5 true (Write (fid 1) 1 (codes "Y")) refl refl refl refl refl refl (omega arith),
            (
              updated 3 true (Write (fid 1) 0 (codes "X")) refl refl refl refl refl refl (λ a b. on a) refl refl,
              (
                updated 4 true Sync refl refl refl refl refl refl (λ a b. no b) refl refl,
                (
                  updated 9 false Sync refl refl refl refl refl refl (λ a b. no b) refl refl,
                  (
                    updated 5 true (Write (fid 1) 1 (codes "Y")) refl refl refl refl refl refl (λ a b. on a) refl refl,
                    (
                      updated 6 true Sync refl refl refl refl refl refl (λ a b. no b) refl refl,
                      (
                        updated 10 false Sync refl refl refl refl refl refl (λ a b. no b) refl refl,
                        (
                          seen 11 (Read (fid 1) 0 6) refl refl refl refl refl refl refl refl refl refl,
                          tt,
                        ),
                      ),
                    ),
                  ),
                ),
              ),
            ),
          ),
        ),
      ),
    ),
  ),
)

event : {script : List Line} {before : List Outcome} {subject : Subject} (place : ℕ) (line : Line) → asked script subject (suc (told_of subject before)) ≡ Some (place, line) → is_begun script before place ≡ true → EventFits true script before subject
event place line is begun = record { place = place; line = line; is = is; begun = begun }

pub armed_fit : FitLines true armed_script armed_report
armed_fit = (
  updated 0 false (Create (codes "/a")) refl refl refl refl refl refl (λ a b. no b) refl refl,
  (
    kept 1 false (Write (fid 1) 0 (codes "hello")) refl refl refl refl refl refl (omega arith),
    (
      event 2 (EventLine (ArmOf Manager 2)) refl refl,
      (
        record { place = 3; plus = false; call = Sync; is = refl; begun = refl; unended = refl; next = refl; fits = record { update = refl; new = refl; first = λ a b. no b } },
        (
          event 4 (EventLine (UpOf Manager)) refl refl,
          (
            updated 1 false (Write (fid 1) 0 (codes "hello")) refl refl refl refl refl refl (λ a b. on a) refl refl,
            (
              updated 3 false Sync refl refl refl refl refl refl (λ a b. no b) refl refl,
              (
                seen 5 (Read (fid 1) 0 5) refl refl refl refl refl refl refl refl refl refl,
                tt,
              ),
            ),
          ),
        ),
      ),
    ),
  ),
)

drop : {script : List Line} {before : List Outcome} {client n : ℕ} (place : ℕ) (plus : Bool) (call : Call) → asked script (calls client) n ≡ Some (place, CallLine plus client call) → is_begun script before place ≡ true → has_final before client n ≡ false → is_next before client n ≡ true → CallFits true script before client n Dropped
drop place plus call is begun left next = record { place = place; plus = plus; call = call; is = is; begun = begun; unended = left; next = next; fits = tt }

pub dropped_fit : FitLines true dropped_script dropped_report
dropped_fit = (
  updated 0 false (Create (codes "/a")) refl refl refl refl refl refl (λ a b. no b) refl refl,
  (
    kept 1 false (Write (fid 1) 0 (codes "x")) refl refl refl refl refl refl (omega arith),
    (
      kept 2 false (Write (fid 1) 1 (codes "y")) refl refl refl refl refl refl (omega arith),
      (
        event 3 (EventLine (CrashOf (Client 1))) refl refl,
        (
          drop 1 false (Write (fid 1) 0 (codes "x")) refl refl refl refl,
          (
            drop 2 false (Write (fid 1) 1 (codes "y")) refl refl refl refl,
            (
              event 4 (EventLine (UpOf (Client 1))) refl refl,
              (
                seen 5 (Read (fid 1) 0 5) refl refl refl refl refl refl refl refl refl refl,
                tt,
              ),
            ),
          ),
        ),
      ),
    ),
  ),
)

-- Wrong reports.

stale_read : ReadFits true hello_script (OfCall 1 1 (Replied (Made (fid 1))) ∷ OfCall 1 2 Buffered ∷ OfCall 1 2 (Replied Done) ∷ OfCall 1 3 (Replied Done) ∷ []) 1 3 false (Read (fid 1) 0 5) (Bytes []) → ⊥
stale_read r =
    let none : r.rest ≡ [] = r.at_once refl refl in
    let all : OfCall 1 1 (Replied (Made (fid 1))) ∷ OfCall 1 2 Buffered ∷ OfCall 1 2 (Replied Done) ∷ OfCall 1 3 (Replied Done) ∷ [] ≡ r.front = r.split ∙ ap (λ (l : List Outcome). r.front ++ l) none ∙ append-nil r.front in
    let same : Bytes [] ≡ Bytes (codes "hello") = r.same ∙ ap (λ (l : List Outcome). reply_to (tree_at hello_script l) (Read (fid 1) 0 5)) (sym all) in cc

parts : (place : ℕ) (plus : Bool) (call asked_call : Call) → ◌≡◌ {A = Option (ℕ × Line)} (Some (3, CallLine false 1 asked_call)) (Some (place, CallLine plus 1 call)) → (place ≡ 3) × (plus ≡ false) × (call ≡ asked_call)
parts place plus call asked_call e =
    let pair : ◌≡◌ {A = ℕ × Line} (3, CallLine false 1 asked_call) (place, CallLine plus 1 call) = cc in
    let line : CallLine false 1 asked_call ≡ CallLine plus 1 call = ap (λ (p : ℕ × Line). p.1) pair in
    (sym (ap (λ (p : ℕ × Line). p.0) pair), cc, cc)

parts_of : (at place : ℕ) (plus : Bool) (call asked_call : Call) → ◌≡◌ {A = Option (ℕ × Line)} (Some (at, CallLine false 1 asked_call)) (Some (place, CallLine plus 1 call)) → (at ≡ place) × (call ≡ asked_call)
parts_of at place plus call asked_call e =
    let pair : ◌≡◌ {A = ℕ × Line} (at, CallLine false 1 asked_call) (place, CallLine plus 1 call) = cc in
    let line : CallLine false 1 asked_call ≡ CallLine plus 1 call = ap (λ (p : ℕ × Line). p.1) pair in
    (ap (λ (p : ℕ × Line). p.0) pair, cc)

pub stale_unfit : FitLines true hello_script stale_report → ⊥
stale_unfit fits =
    let line = fits.1.1.1.1.0 in
    let is = parts line.place line.plus line.call (Read (fid 1) 0 5) line.is in
    let r = line.fits.read (ap is_update is.2) in
    stale_read (subst (λ (p : ℕ). ReadFits true hello_script (OfCall 1 1 (Replied (Made (fid 1))) ∷ OfCall 1 2 Buffered ∷ OfCall 1 2 (Replied Done) ∷ OfCall 1 3 (Replied Done) ∷ []) 1 p false (Read (fid 1) 0 5) (Bytes [])) is.0
    (subst (λ (p : Bool). ReadFits true hello_script (OfCall 1 1 (Replied (Made (fid 1))) ∷ OfCall 1 2 Buffered ∷ OfCall 1 2 (Replied Done) ∷ OfCall 1 3 (Replied Done) ∷ []) 1 line.place p (Read (fid 1) 0 5) (Bytes [])) is.1
    (subst (λ (p : Call). ReadFits true hello_script (OfCall 1 1 (Replied (Made (fid 1))) ∷ OfCall 1 2 Buffered ∷ OfCall 1 2 (Replied Done) ∷ OfCall 1 3 (Replied Done) ∷ []) 1 line.place line.plus p (Bytes [])) is.2 r)))

pub unordered_unfit : FitLines true hello_script unordered_report → ⊥
unordered_unfit fits = let e : false ≡ true = fits.1.1.0.fits.earlier in no e

failed : {script : List Line} {before : List Outcome} {client n : ℕ} {cause : Cause} (place : ℕ) (call : Call) → asked script (calls client) n ≡ Some (place, CallLine false client call) → is_begun script before place ≡ true → has_final before client n ≡ false → is_next before client n ≡ true → is_update call ≡ false → CallFits true script before client n (Failed cause)
failed place call is begun left next read = record { place = place; plus = false; call = call; is = is; begun = begun; unended = left; next = next; fits = read }

pub down_fit : FitLines true down_script down_report
down_fit = (
  event 0 (EventLine (CrashOf Manager)) refl refl,
  (
    record { place = 1; plus = false; call = Create (codes "/a"); is = refl; begun = refl; unended = refl; next = refl; fits = record { update = refl; new = refl; first = λ a b. no b } },
    (
      failed 2 (ListOf None) refl refl refl refl refl,
      (
        event 3 (EventLine (LoseOf (record { 0 = 1 }))) refl refl,
        (
          event 4 (EventLine (UpOf Manager)) refl refl,
          (
            updated 1 false (Create (codes "/a")) refl refl refl refl refl refl (λ a b. no b) refl refl,
            tt,
          ),
        ),
      ),
    ),
  ),
)

pub beside_unfit : FitLines true down_script beside_report → ⊥
beside_unfit fits =
    let line = fits.1.1.0 in
    let is = parts_of 2 line.place line.plus line.call (ListOf None) line.is in
    let e : false ≡ true = subst (λ (p : ℕ). is_before_crash down_script (OfEvent (Crash Manager) EventDone ∷ OfCall 1 1 (Kept Down) ∷ []) p ≡ true) (sym is.0) line.fits.manager in no e

pub eight_fit : FitLines true eight_script (seven_lines ++ eight_lines)
eight_fit = (
  updated 0 false (Create (codes "/a")) refl refl refl refl refl refl (λ a b. no b) refl refl,
  (
    kept 1 false (Write (fid 1) 0 (codes "x")) refl refl refl refl refl refl (omega arith),
    (
      kept 2 false (Write (fid 1) 1 (codes "x")) refl refl refl refl refl refl (omega arith),
      (
        kept 3 false (Write (fid 1) 2 (codes "x")) refl refl refl refl refl refl (omega arith),
        (
          kept 4 false (Write (fid 1) 3 (codes "x")) refl refl refl refl refl refl (omega arith),
          (
            kept 5 false (Write (fid 1) 4 (codes "x")) refl refl refl refl refl refl (omega arith),
            (
              kept 6 false (Write (fid 1) 5 (codes "x")) refl refl refl refl refl refl (omega arith),
              (
                kept 7 false (Write (fid 1) 6 (codes "x")) refl refl refl refl refl refl (omega arith),
                (
                  updated 1 false (Write (fid 1) 0 (codes "x")) refl refl refl refl refl refl (λ a b. on a) refl refl,
                  (
                    updated 2 false (Write (fid 1) 1 (codes "x")) refl refl refl refl refl refl (λ a b. on a) refl refl,
                    (
                      updated 3 false (Write (fid 1) 2 (codes "x")) refl refl refl refl refl refl (λ a b. on a) refl refl,
                      (
                        updated 4 false (Write (fid 1) 3 (codes "x")) refl refl refl refl refl refl (λ a b. on a) refl refl,
                        (
                          updated 5 false (Write (fid 1) 4 (codes "x")) refl refl refl refl refl refl (λ a b. on a) refl refl,
                          (
                            updated 6 false (Write (fid 1) 5 (codes "x")) refl refl refl refl refl refl (λ a b. on a) refl refl,
                            (
                              updated 7 false (Write (fid 1) 6 (codes "x")) refl refl refl refl refl refl (λ a b. on a) refl refl,
                              (
                                updated 8 false (Write (fid 1) 7 (codes "x")) refl refl refl refl refl refl
                                    (λ a b. record { front = seven_lines; rest = done 2 ∷ done 3 ∷ done 4 ∷ done 5 ∷ done 6 ∷ done 7 ∷ done 8 ∷ []; split = refl; next = refl; full = omega arith }) refl refl,
                                tt,
                              ),
                            ),
                          ),
                        ),
                      ),
                    ),
                  ),
                ),
              ),
            ),
          ),
        ),
      ),
    ),
  ),
)

pub too_many_unfit : FitLines true eight_script too_many_report → ⊥
too_many_unfit fits = let h : kept_now seven_lines 1 + 1 < 8 = fits.1.1.1.1.1.1.1.1.0.fits.few in absurd (omega (arith, h))
