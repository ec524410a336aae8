-- Zeros that are written over an empty platter.
use Rattle.std.proofs.Common.{◌≡◌, inl, inr, ℕ, ◌+◌, ◌-◌, List, [], length, slice_index, Result, Ok, Err, IsErr, OnErr, subst, sym, ◌∙◌, ap, arith}
use Rattle.std.proofs.lemmas.Result.{on_ok_weaker}
use Rattle.std.proofs.lemmas.Bool.{cases_lt}
use Rattle.zb_outside.specs.Meaning.{Meaning}
use Rattle.zb_outside.specs.Platters.{WriteTold, SyncTold, BlankTold}
use Rattle.zb_outside.specs.Ranges.{Written}
use Rattle.zb_outside.specs.Runs.{Run}
use Rattle.zb_outside.proofs.Runs.{started, then_call}
use Rattle.zb_slot_map.specs.Zeros.{AreZeros, WipeTold, ZerosTold}

-- any image will do
abbrev pub Any : List ℕ → Type 0
Any image = Unit {0}

pub none_yet : (image : List ℕ) → image ≡ [] → AreZeros 0 image
none_yet image is = record { size = ap (λ (l : List ℕ). length l) is; zeros = λ i. ap (λ (l : List ℕ). slice_index l i) is }

pub more_zeros : (at : ℕ) (bytes old new : List ℕ) → AreZeros at old → ((i : ℕ) → slice_index bytes i ≡ 0) → Written at bytes old new → (n : ℕ) → n ≡ at + length bytes → AreZeros n new
more_zeros at bytes old new was none w n is = record {
  size = omega (arith, w.size, was.size, is);
  zeros = λ i. elim (cases_lt i at) [
    | inl lt ↦ w.below i lt ∙ was.zeros i
    | inr ge ↦ elim (cases_lt i (at + length bytes)) [
      | inl lt ↦ ap (slice_index new) (omega arith) ∙ w.within (i - at) (omega arith) ∙ none (i - at)
      | inr past ↦ w.above i past ∙ was.zeros i
    ]
  ];
}

pub zeros_failed : {T E : Type 0} {p n : ℕ} (r : Result T E) {a b : Meaning} → IsErr r → Run p Any a b → ZerosTold p n r a b
zeros_failed (Ok x) err run = absurd (cc err)
zeros_failed (Err e) err run = record { run = run; zeros = tt }

pub begun : (p : ℕ) (a : Meaning) → Run p Any a a
begun p a = started p Any a (λ i h. tt)

pub went_on : {T E : Type 0} {p at : ℕ} {bytes : List ℕ} {r : Result T E} {a b c : Meaning} → Run p Any a b → WriteTold p at bytes r b c → Run p Any a c
went_on run write = then_call run write.ticks (λ i h. tt)

pub zeros_written : {T E : Type 0} {p n : ℕ} (u : T) {a b : Meaning} → Run p Any a b → AreZeros n (b.now.seen p) → ZerosTold {E = E} p n (Ok u) a b
zeros_written u run zeros = record { run = run; zeros = zeros }

pub wipe_failed : {T E : Type 0} {p n : ℕ} (r : Result T E) {a b : Meaning} → IsErr r → Run p Any a b → WipeTold p n r a b
wipe_failed (Ok x) err run = absurd (cc err)
wipe_failed (Err e) err run = record { run = run; settled = tt; zeros = tt }

pub blanked : {T E : Type 0} {p : ℕ} {r : Result T E} {a b : Meaning} → BlankTold p r a b → Run p Any a b
blanked {p = p} {a = a} blank = then_call (begun p a) blank.ticks (λ i h. tt)

pub wiped : {T E : Type 0} {p n : ℕ} {r : Result T E} {a b c : Meaning} → Run p Any a b → AreZeros n (b.now.seen p) → SyncTold p r b c → WipeTold p n r a c
wiped {n = n} {r = r} run was s = record {
  run = then_call run s.ticks (λ i h. tt);
  settled = on_ok_weaker r (λ only. record { only = λ i left. only i left ∙ sym s.seen }) s.durable;
  zeros = on_ok_weaker r (λ only. subst (AreZeros n) (sym s.seen) was) s.durable;
}

on_err : {T E P : Type 0} (r : Result T E) → P → OnErr r P
on_err (Ok x) h = tt
on_err (Err e) h = h
