-- How calls that leave a platter alone go on.
use Rattle.std.proofs.Common.{ℕ, List, Result, sym, ◌∙◌, subst}
use Rattle.zb_outside.specs.Meaning.{Meaning}
use Rattle.zb_outside.specs.Platters.{ReadTold}
use Rattle.zb_outside.specs.Runs.{IsSettled, Held}
use Rattle.zb_outside.proofs.Runs.{started, then_run, weaker_run}
use Rattle.zb_slots.specs.Reading.{LeftAlone}

-- no call
pub left_same : (p : ℕ) (a : Meaning) → LeftAlone p a a
left_same p a = record { run = started p (a.now.may_leave p) a (λ i h. h); seen = λ i. a.now.seen p; left = λ i h. h }

-- one read
pub left_by_read : {T E : Type 0} {p at : ℕ} {bytes : List ℕ} {r : Result T E} {a b : Meaning} → ReadTold p at bytes r a b → LeftAlone p a b
left_by_read read = record { run = weaker_run read.ticks read.crash; seen = read.seen; left = read.crash }

-- one call that holds the platter
pub left_by_held : {p : ℕ} {a b : Meaning} → Held p a b → LeftAlone p a b
left_by_held held = record { run = weaker_run held.ticks held.left; seen = held.seen; left = held.left }

-- one call after another
pub left_then : {p : ℕ} {a b c : Meaning} → LeftAlone p a b → LeftAlone p b c → LeftAlone p a c
left_then first second = record {
  run = then_run first.run second.run first.left;
  seen = second.seen ∙ first.seen;
  left = λ i h. first.left i (second.left i h);
}

-- where no write was unsynced, the platter is held
pub held_when_settled : {p : ℕ} {a b : Meaning} → IsSettled p a.now → LeftAlone p a b → Held p a b
held_when_settled {p = p} {a = a} {b = b} settled alone = record {
  ticks = weaker_run alone.run (λ i h. subst (b.now.may_leave p) (alone.seen ∙ sym (settled.only i h)) (b.seen_now p));
  seen = alone.seen;
  left = alone.left;
}

-- and no write is
pub still_settled : {p : ℕ} {a b : Meaning} → IsSettled p a.now → LeftAlone p a b → IsSettled p b.now
still_settled settled alone = record { only = λ i h. settled.only i (alone.left i h) ∙ sym alone.seen }
