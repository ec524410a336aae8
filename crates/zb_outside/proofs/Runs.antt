-- How runs on one platter go on.
use Rattle.std.proofs.Common.{◌≡◌, inl, inr, ⊎_elim, ℕ, ◌≤◌, ◌+◌, List, length, slice_index, Result, Ok, Err, IsErr, OnOk, refl, sym, ◌∙◌, subst, arith}
use Rattle.std.proofs.lemmas.List.{get_or_past}
use Rattle.std.proofs.lemmas.Bool.{cases_lt}
use Rattle.std.proofs.lemmas.Result.{on_ok_weaker}
use Rattle.zb_outside.specs.Meaning.{Moment, Standing, IsMoment, Meaning}
use Rattle.zb_outside.specs.Platters.{WriteTold, SyncTold, WriteSyncedTold}
use Rattle.zb_outside.specs.Ranges.{Torn, Written, SameBeside, torn_same}
use Rattle.zb_outside.specs.Runs.{Ticks, Spares, AtPlatter, Run, IsSettled, SparesOthers}
use Rattle.zb_outside.proofs.Time.{still, then, weaker, spares_same, forgets_none, remembers_then}

pub spares_then : {p : ℕ} {a b c : Standing} → Spares p a b → Spares p b c → Spares p a c
spares_then {p} {a} {b} {c} f s = record {
  seen = λ q ne. s.seen q ne ∙ f.seen q ne;
  may_leave = λ q ne i h. f.may_leave q ne i (s.may_leave q ne i h);
  taken = s.taken ∙ f.taken;
  printed = s.printed ∙ f.printed;
  faults = λ q ne. s.faults q ne ∙ f.faults q ne;
  rises = λ q. omega (arith, f.rises q, s.rises q);
  writes = λ q ne. s.writes q ne ∙ f.writes q ne;
  counts = λ q. omega (arith, f.counts q, s.counts q);
  read_faults = s.read_faults ∙ f.read_faults;
  write_faults = s.write_faults ∙ f.write_faults;
}

-- a moment now is one of those that a run speaks of
pub at_now : {p : ℕ} {Q : List ℕ → Type 0} {a b : Standing} → Spares p a b → ((c : List ℕ) → b.may_leave p c → Q c) → (m : Moment) → IsMoment b m → AtPlatter p Q a m
at_now {p} {Q} {a} {b} s here m h = record {
  here = here (m.images p) (h.images p);
  elsewhere = λ q ne. s.may_leave q ne (m.images q) (h.images q);
  taken = h.taken ∙ s.taken;
  printed = h.printed ∙ s.printed;
  rises = λ q. omega (arith, h.faults q, s.rises q);
  faults = λ q ne. h.faults q ∙ s.faults q ne;
  counts = λ q. omega (arith, h.writes q, s.counts q);
  writes = λ q ne. h.writes q ∙ s.writes q ne;
  read_faults = h.read_faults ∙ s.read_faults;
  write_faults = h.write_faults ∙ s.write_faults;
}

pub at_later : {p : ℕ} {Q R : List ℕ → Type 0} {a b : Standing} → Spares p a b → ((c : List ℕ) → Q c → R c) → (m : Moment) → AtPlatter p Q b m → AtPlatter p R a m
at_later {p} {Q} {R} {a} {b} s f m h = record {
  here = f (m.images p) h.here;
  elsewhere = λ q ne. s.may_leave q ne (m.images q) (h.elsewhere q ne);
  taken = h.taken ∙ s.taken;
  printed = h.printed ∙ s.printed;
  rises = λ q. omega (arith, h.rises q, s.rises q);
  faults = λ q ne. h.faults q ne ∙ s.faults q ne;
  counts = λ q. omega (arith, h.counts q, s.counts q);
  writes = λ q ne. h.writes q ne ∙ s.writes q ne;
  read_faults = h.read_faults ∙ s.read_faults;
  write_faults = h.write_faults ∙ s.write_faults;
}

-- before the first call
pub started : (p : ℕ) (Q : List ℕ → Type 0) (w : Meaning) → ((c : List ℕ) → w.now.may_leave p c → Q c) → Run p Q w w
started p Q w here = record { time = still (AtPlatter p Q w.now) w; remembers = forgets_none w; spares = spares_same p w.now; here = here }

-- one run after another
pub then_run : {p : ℕ} {Q R : List ℕ → Type 0} {a b c : Meaning} → Run p Q a b → Run p R b c → ((i : List ℕ) → R i → Q i) → Run p Q a c
then_run {p} {Q} {R} {a} {b} {c} first second f = record {
  time = then first.time (weaker (at_later first.spares f) second.time);
  remembers = remembers_then first.time.later first.remembers second.remembers;
  spares = spares_then first.spares second.spares;
  here = λ i h. f i (second.here i h);
}

-- one call more
pub then_call : {p : ℕ} {Q : List ℕ → Type 0} {a b c : Meaning} → Run p Q a b → Ticks p b c → ((i : List ℕ) → c.now.may_leave p i → Q i) → Run p Q a c
then_call run ticks here = then_run run ticks here

pub weaker_run : {p : ℕ} {Q R : List ℕ → Type 0} {a b : Meaning} → Run p Q a b → ((i : List ℕ) → Q i → R i) → Run p R a b
weaker_run {p} {Q} {R} {a} {b} run f = record {
  time = weaker (at_later (spares_same p a.now) f) run.time;
  remembers = run.remembers;
  spares = run.spares;
  here = λ i h. f i (run.here i h);
}

-- what any run leaves of the other platters
pub run_spares : {p : ℕ} {Q : List ℕ → Type 0} {a b : Meaning} → Run p Q a b → SparesOthers p a b
run_spares run = weaker_run run (λ i h. tt)

pub others_same : (p : ℕ) (w : Meaning) → SparesOthers p w w
others_same p w = started p (λ _. Unit {0}) w (λ c h. tt)

pub others_then : {p : ℕ} {a b c : Meaning} → SparesOthers p a b → SparesOthers p b c → SparesOthers p a c
others_then first second = then_run first second (λ i h. tt)

-- a write from a settled platter
pub put_write : {T E : Type 0} {p at : ℕ} {bytes : List ℕ} {r : Result T E} {a b : Meaning} → IsSettled p a.now → WriteTold p at bytes r a b → Run p (Torn at (length bytes) (a.now.seen p)) a b
put_write {T} {E} {p} {at} {bytes} {r} {a} {b} settled w =
    let torn : List ℕ → Type 0 = Torn at (length bytes) (a.now.seen p) in
    then_call (started p torn a (λ c h. subst torn (sym (settled.only c h)) (torn_same at _ _))) w.ticks
    (λ c h. let from = w.crash c h in subst (λ (d : List ℕ). Torn at (length bytes) d c) (settled.only from.0 from.1) from.2)

pub put_failed : {T E : Type 0} {p at : ℕ} {bytes : List ℕ} (r : Result T E) {a b : Meaning} → IsErr r → Run p (Torn at (length bytes) (a.now.seen p)) a b → WriteSyncedTold p at bytes r a b
put_failed (Ok x) err run = absurd (cc err)
put_failed (Err e) err run = record { run = run; written = tt; settled = tt }

sync_settles : {T E : Type 0} {p : ℕ} {s : Result T E} {b c : Meaning} → SyncTold p s b c → OnOk s (IsSettled p c.now)
sync_settles {p = p} {s = s} {b = b} {c = c} h = on_ok_weaker s (λ only. record { only = λ i left. only i left ∙ sym h.seen }) h.durable

pub put_sync : {T E F G : Type 0} {p at : ℕ} {bytes : List ℕ} {x : T} {s : Result F G} {a b c : Meaning} → IsSettled p a.now → WriteTold {E = E} p at bytes (Ok x) a b → SyncTold p s b c → WriteSyncedTold p at bytes s a c
put_sync {p = p} {at = at} {bytes = bytes} {s = s} {a = a} {b = b} {c = c} settled w h =
    let run = put_write settled w in
    record {
      run = then_call run h.ticks (λ i left. run.here i (h.crash i left));
      written = on_ok_weaker s (λ only. subst (Written at bytes (a.now.seen p)) (sym h.seen) w.written) h.durable;
      settled = sync_settles h;
    }

past_end : (xs : List ℕ) (i : ℕ) → length xs ≤ i → slice_index xs i ≡ 0
past_end xs i h = get_or_past xs i 0 h

pub torn_outside : {at n : ℕ} {old new : List ℕ} → at + n ≤ length old → Torn at n old new → SameBeside at n old new
torn_outside {at} {n} {old} {new} le t =
    let same_length : length new ≡ length old = omega (arith, t.no_shorter, t.no_longer) in
    record {
      same_length = same_length;
      same = λ i side. elim (cases_lt i (length old)) [
        | inl lt ↦ ⊎_elim (λ below. t.below i lt below) (λ above. t.above i lt above) side
        | inr ge ↦ past_end new i (omega (arith, same_length)) ∙ sym (past_end old i ge)
      ];
    }

pub written_outside : {at : ℕ} {bytes old new : List ℕ} → at + length bytes ≤ length old → Written at bytes old new → SameBeside at (length bytes) old new
written_outside {at} {bytes} {old} {new} le w = record {
  same_length = omega (arith, w.size);
  same = λ i side. ⊎_elim (λ below. w.below i below) (λ above. w.above i above) side;
}

pub outside_wider : {at n lo m : ℕ} {a b : List ℕ} → lo ≤ at → at + n ≤ lo + m → SameBeside at n a b → SameBeside lo m a b
outside_wider {at} {n} {lo} {m} {a} {b} low high o = record {
  same_length = o.same_length;
  same = λ i side. o.same i (⊎_elim (λ below. inl (omega arith)) (λ above. inr (omega arith)) side);
}

pub outside_then : {at n : ℕ} {a b c : List ℕ} → SameBeside at n a b → SameBeside at n b c → SameBeside at n a c
outside_then {at} {n} {a} {b} {c} f g = record {
  same_length = g.same_length ∙ f.same_length;
  same = λ i side. g.same i side ∙ f.same i side;
}

pub outside_same : (at n : ℕ) (a : List ℕ) → SameBeside at n a a
outside_same at n a = record { same_length = refl; same = λ i side. refl }
