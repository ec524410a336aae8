-- Worked rows fit what their worlds were given, and wrong ones don't.
use Rattle.std.proofs.Common.{◌≡◌, ℕ, ◌+◌, ◌<◌, ◌≤◌, Bool, true, false, List, [], ◌∷◌, ◌++◌, length, Option, Some, refl, sym, ap, subst, ◌∙◌, arith}
use Rattle.std.specs.Prelude.{codes, nat_le, take, None}
use Rattle.std.specs.List.{list_any}
use Rattle.std.proofs.lemmas.List.{append-nil, length-append}
use Rattle.zb_types.specs.declared.calls.Call.{Call}
use Rattle.zb_types.specs.declared.calls.Call.TheVariants.{Create, Write, Sync, Read, List as ListOf}
use Rattle.zb_types.specs.declared.calls.Reply.{Reply}
use Rattle.zb_types.specs.declared.calls.Reply.TheVariants.{Made, Bytes, Names}
use Rattle.zb_types.specs.declared.lines.Line.{Line}
use Rattle.zb_types.specs.declared.lines.Line.TheVariants.{Call as CallLine}
use Rattle.zb_types.specs.declared.lines.Said.TheVariants.{Reply as Replied, Buffered}
use Rattle.zb_types.specs.declared.lines.Outcome.{Outcome}
use Rattle.zb_types.specs.declared.lines.Outcome.TheVariants.{Call as OfCall}
use Rattle.zb_types.specs.Apply.{is_update, is_bufferable, reply_to}
use Rattle.zb_claims.specs.Points.{calls, asked, has_line, has_final, kept_now, is_of_client, is_before_crash, tree_at}
use Rattle.zb_claims.specs.Fits.{are_ended, is_next, MayNotBuffer, ReadFitsBy, CallFitsBy}
use Rattle.zb_claims.specs.Rows.{fid, hello_report, stale_report, two_script, two_report}
use Rattle.zb_given.specs.Given.{Given, none_given, with_item, script_of, point, clock_of_given, FitGiven}
use Rattle.zb_given.specs.Gives.{Gives}
use Rattle.zb_given.specs.Worked.{two_given, TwoLift, full_script, full_report, full_given, FullLift, late_script, late_report, late_given, LateLift, hello_given, WrongGiven}
use Rattle.zb_given.proofs.Small.{no, on, nat_le_is}
use Rattle.zb_given.proofs.RunLifting.{plus_extend, lifts_run, lifts_threads}

-- Lines by their kinds.

module _ (given : Given) where
  updated : {before : List Outcome} {client n : ℕ} (place : ℕ) (call : Call) {reply : Reply}
      → asked (script_of given) (calls client) n ≡ Some (place, CallLine true client call) → nat_le (point given.items place) (length before) ≡ true → has_final before client n ≡ false → is_next before client n ≡ true
      → are_ended (script_of given) before client n ≡ true → is_before_crash (script_of given) before place ≡ true → MayNotBuffer before client n call → is_update call ≡ true → reply ≡ reply_to (tree_at (script_of given) before) call
      → CallFitsBy (clock_of_given given) (script_of given) before client n (Replied reply)
  updated place call is begun left next ended manager first update same = record {
    place = place;
    plus = true;
    call = call;
    is = is;
    begun = begun;
    unended = left;
    next = next;
    fits = record { earlier = ended; manager = manager; first = first; update = λ h. same; read = λ h. on (sym update ∙ h) };
  }

  seen : {before : List Outcome} {client n : ℕ} (place : ℕ) (call : Call) {reply : Reply}
      → asked (script_of given) (calls client) n ≡ Some (place, CallLine true client call) → nat_le (point given.items place) (length before) ≡ true → has_final before client n ≡ false → is_next before client n ≡ true
      → are_ended (script_of given) before client n ≡ true → is_before_crash (script_of given) before place ≡ true → is_bufferable call ≡ false → is_update call ≡ false
      → (front rest : List Outcome) → before ≡ front ++ rest → nat_le (point given.items place) (length front) ≡ true → list_any (is_of_client client) rest ≡ false → reply ≡ reply_to (tree_at (script_of given) front) call
      → CallFitsBy (clock_of_given given) (script_of given) before client n (Replied reply)
  seen place call is begun left next ended manager buffer update front rest split behind own same = record {
    place = place;
    plus = true;
    call = call;
    is = is;
    begun = begun;
    unended = left;
    next = next;
    fits = record {
      earlier = ended;
      manager = manager;
      first = λ a b. no (sym buffer ∙ b);
      update = λ h. no (sym update ∙ h);
      read = λ h. record { front = front; rest = rest; split = split; after_begin = behind; after_own = own; at_once = λ a b. no a; same = same };
    };
  }

  kept : {before : List Outcome} {client n : ℕ} (place : ℕ) (call : Call)
      → asked (script_of given) (calls client) n ≡ Some (place, CallLine true client call) → nat_le (point given.items place) (length before) ≡ true → has_final before client n ≡ false → is_next before client n ≡ true
      → is_bufferable call ≡ true → has_line before client n ≡ false → kept_now before client + 1 < 8 → CallFitsBy (clock_of_given given) (script_of given) before client n Buffered
  kept place call is begun left next buffer new few = record { place = place; plus = true; call = call; is = is; begun = begun; unended = left; next = next; fits = record { buffer = buffer; new = new; few = few } }

-- Two clients.

two_fit : FitGiven two_given two_report
two_fit = record {
  fits = (
    updated two_given 0 (Create (codes "/a")) refl refl refl refl refl refl (λ a b. no b) refl refl,
    (
      kept two_given 1 (Write (fid 1) 0 (codes "aaaaaa")) refl refl refl refl refl refl (omega arith),
      (
        updated two_given 1 (Write (fid 1) 0 (codes "aaaaaa")) refl refl refl refl refl refl (λ a b. on a) refl refl,
        (
          updated two_given 2 Sync refl refl refl refl refl refl (λ a b. no b) refl refl,
          (
            kept two_given 3 (Write (fid 1) 0 (codes "X")) refl refl refl refl refl refl (omega arith),
            (
              kept two_given 5 (Write (fid 1) 1 (codes "Y")) refl refl refl refl refl refl (omega arith),
              (
                updated two_given 3 (Write (fid 1) 0 (codes "X")) refl refl refl refl refl refl (λ a b. on a) refl refl,
                (
                  updated two_given 4 Sync refl refl refl refl refl refl (λ a b. no b) refl refl,
                  (
                    updated two_given 7 Sync refl refl refl refl refl refl (λ a b. no b) refl refl,
                    (
                      updated two_given 5 (Write (fid 1) 1 (codes "Y")) refl refl refl refl refl refl (λ a b. on a) refl refl,
                      (
                        updated two_given 6 Sync refl refl refl refl refl refl (λ a b. no b) refl refl,
                        (
                          updated two_given 8 Sync refl refl refl refl refl refl (λ a b. no b) refl refl,
                          (
                            seen two_given 9 (Read (fid 1) 0 6) refl refl refl refl refl refl refl refl all [] refl refl refl refl,
                            tt,
                          ),
                        ),
                      ),
                    ),
                  ),
                ),
              ),
            ),
          ),
        ),
      ),
    ),
  );
  stood = (omega arith, (omega arith, (omega arith, (omega arith, (omega arith, (omega arith, (omega arith, (omega arith, (omega arith, (omega arith, tt))))))))));
}
  where
    -- the lines before the read
    all : List Outcome
    all = take 12 two_report

two_gives : Gives two_script two_given two_report
two_gives = record {
  items = refl;
  begun = refl;
  over = refl;
  at_once = (λ e. on e, (tt, (λ e. on e, (λ e. on e, (tt, (tt, (tt, (tt, (λ e. on e, (tt, (tt, (λ e. on e, (λ e. refl, tt)))))))))))));
}

pub two_lift : TwoLift
two_lift = record { given_fit = two_fit; gives = two_gives; fits = (lifts_run two_script two_given two_report two_gives two_fit).0 }

-- A write without space.

full_fit : FitGiven (full_given (3 ∷ [])) full_report
full_fit = record {
  fits = (
    updated (full_given (3 ∷ [])) 0 (Create (codes "/a")) refl refl refl refl refl refl (λ a b. no b) refl refl,
    (
      kept (full_given (3 ∷ [])) 1 (Write (fid 1) 0 (codes "x")) refl refl refl refl refl refl (omega arith),
      (
        record { place = 2; line = _; is = refl; begun = refl },
        (
          record { place = 1; plus = true; call = Write (fid 1) 0 (codes "x"); is = refl; begun = refl; unended = refl; next = refl; fits = record { update = refl; all = refl; kept = refl } },
          tt,
        ),
      ),
    ),
  );
  stood = (omega arith, (omega arith, (omega arith, tt)));
}

full_gives : Gives full_script (full_given (3 ∷ [])) full_report
full_gives = record { items = refl; begun = refl; over = refl; at_once = (λ e. on e, (tt, (tt, (tt, tt)))) }

pub full_lift : FullLift
full_lift = record { given_fit = full_fit; gives = full_gives; fits = (lifts_run full_script (full_given (3 ∷ [])) full_report full_gives full_fit).0 }

-- A read that is late.

late_fit : FitGiven late_given late_report
late_fit = record {
  fits = (
    updated late_given 0 (Create (codes "/b")) refl refl refl refl refl refl (λ a b. no b) refl refl,
    (seen late_given 1 (ListOf None) refl refl refl refl refl refl refl refl [] (OfCall 2 1 (Replied (Made (fid 1))) ∷ []) refl refl refl refl, tt),
  );
  stood = (omega arith, (omega arith, tt));
}

pub late_lift : LateLift
late_lift = record { given_fit = late_fit; fits = (lifts_threads late_script late_given late_report (plus_extend late_script) late_fit).0 }

-- What is wrong.

parts : (place at : ℕ) (call asked_call : Call) (plus : Bool) → ◌≡◌ {A = Option (ℕ × Line)} (Some (at, CallLine true 1 asked_call)) (Some (place, CallLine plus 1 call)) → (place ≡ at) × (call ≡ asked_call)
parts place at call asked_call plus e =
    let pair : ◌≡◌ {A = ℕ × Line} (at, CallLine true 1 asked_call) (place, CallLine plus 1 call) = cc in
    let line : CallLine true 1 asked_call ≡ CallLine plus 1 call = ap (λ (p : ℕ × Line). p.1) pair in
    (sym (ap (λ (p : ℕ × Line). p.0) pair), cc)

early : FitGiven (with_item none_given (CallLine true 1 (Create (codes "/a"))) 1) (OfCall 1 1 (Replied (Made (fid 1))) ∷ []) → ⊥
early g =
    let f = g.fits.0 in
    let is = parts f.place 0 f.call (Create (codes "/a")) f.plus f.is in
    let begun : nat_le 1 0 ≡ true = subst (λ (k : ℕ). nat_le (point (with_item none_given (CallLine true 1 (Create (codes "/a"))) 1).items k) 0 ≡ true) is.0 f.begun in
    no begun

abbrev before_read : List Outcome
before_read = take 4 hello_report

stale_read : ReadFitsBy (clock_of_given hello_given) (script_of hello_given) before_read 1 3 true (Read (fid 1) 0 5) (Bytes []) → ⊥
stale_read r =
    let long : 4 ≤ length r.front = nat_le_is 4 (length r.front) r.after_begin in
    let none : r.rest ≡ [] = short r.rest (omega (arith, long, ap length r.split, length-append r.front r.rest)) in
    let all : before_read ≡ r.front = r.split ∙ ap (λ (l : List Outcome). r.front ++ l) none ∙ append-nil r.front in
    let same : Bytes [] ≡ Bytes (codes "hello") = r.same ∙ ap (λ (l : List Outcome). reply_to (tree_at (script_of hello_given) l) (Read (fid 1) 0 5)) (sym all) in cc
  where
    short : (rest : List Outcome) → length rest ≤ 0 → rest ≡ []
    short [] le = refl
    short (x ∷ rest) le = absurd (omega (arith, le))

stale : FitGiven hello_given stale_report → ⊥
stale g =
    let f = g.fits.1.1.1.1.0 in
    let is = parts f.place 3 f.call (Read (fid 1) 0 5) f.plus f.is in
    let r = f.fits.read (ap is_update is.1) in
    stale_read (record {
      front = r.front;
      rest = r.rest;
      split = r.split;
      after_begin = subst (λ (k : ℕ). nat_le (point hello_given.items k) (length r.front) ≡ true) is.0 r.after_begin;
      after_own = r.after_own;
      at_once = λ a b. no a;
      same = r.same ∙ ap (reply_to (tree_at (script_of hello_given) r.front)) is.1;
    })

unfinished : FitGiven (full_given []) full_report → ⊥
unfinished g = no g.fits.1.1.1.0.fits.all

late : Gives late_script late_given late_report → ⊥
late gives = let same : Names [] ≡ Names (codes "b" ∷ []) = gives.at_once.1.0 refl in cc

pub wrong_given : WrongGiven
wrong_given = record { early = early; stale = stale; unfinished = unfinished; late = late }
