-- What taking bytes of a script leaves.
use Rattle.std.proofs.Common.{◌≡◌, ℕ, ◌<◌, Bool, true, false, ◌||◌, eqb, List, [], ◌∷◌, ◌++◌, length, take, Result, Ok, Err, refl, sym, ap, subst, ◌∙◌, append_assoc, arith}
use Rattle.std.specs.Prelude.{IfOk, IsErr}
use Rattle.std.proofs.lemmas.List.{append_cancel_left, append-nil}
use Rattle.std.proofs.lemmas.Bool.Decides.{nat_tests}
use Rattle.zb_outside.specs.Meaning.{Meaning}
use Rattle.zb_outside.specs.Streams.{Streams, TakeTold}
use Rattle.zebra.specs.Pending.{Pending}
use Rattle.zebra.specs.Moves.{Tape, tape, IsRead, IsTaken}

tail_nil : {A : Type 0} (xs ys : List A) → xs ++ ys ≡ [] → ys ≡ []
tail_nil [] ys e = e
tail_nil (x ∷ xs) ys e = absurd cc

-- these bytes were taken, and nothing was printed
pub record Took (bytes : List ℕ) (before after : Tape) : Type 0 where
  pub taken : after.taken ≡ before.taken ++ bytes
  pub left : before.left ≡ bytes ++ after.left
  pub printed : after.printed ≡ before.printed

pub took : {E : Type 0} (buf : List ℕ) (n : ℕ) (before after : Streams) (m k : Meaning) → TakeTold {E = E} buf (Ok n) before after m k → Took (take n buf) (tape before m) (tape after k)
took buf n before after m k told = record {
  taken = told.taken;
  left = sym (append_cancel_left m.now.taken (take n buf ++ after.left) before.left (sym (append_assoc m.now.taken (take n buf) after.left) ∙ ap (λ (b : List ℕ). b ++ after.left) (sym told.taken) ∙ told.script));
  printed = told.printed;
}

pub took_none : {E : Type 0} (buf : List ℕ) (e : E) (before after : Streams) (m k : Meaning) → TakeTold buf (Err e) before after m k → Took [] (tape before m) (tape after k)
took_none buf e before after m k told = record {
  taken = told.taken ∙ sym (append-nil m.now.taken);
  left = sym (append_cancel_left m.now.taken after.left before.left (ap (λ (b : List ℕ). b ++ after.left) (sym told.taken) ∙ told.script));
  printed = told.printed;
}

pub IsTaken-more : (start before after : Tape) (front bytes : List ℕ) (p : Pending) → IsRead start front p before → Took bytes before after → IsTaken start front after
IsTaken-more start before after front bytes p read t = record {
  rest = p.rest ++ bytes;
  taken = t.taken ∙ ap (λ (b : List ℕ). b ++ bytes) read.taken ∙ append_assoc (start.taken ++ front) p.rest bytes;
  left = read.left ∙ ap (λ (b : List ℕ). front ++ p.rest ++ b) t.left ∙ sym (append_assoc (front ++ p.rest) bytes after.left) ∙ ap (λ (b : List ℕ). b ++ after.left) (append_assoc front p.rest bytes);
}

pub IsTaken-read : (start now : Tape) (front : List ℕ) (p : Pending) → IsRead start front p now → IsTaken start front now
IsTaken-read start now front p read = record { rest = p.rest; taken = read.taken; left = read.left }

abbrev pub with_bytes : Pending → List ℕ → ℕ → Pending
with_bytes p bytes n = record { rest = p.rest ++ bytes; ended = p.ended || eqb n 0 }

pub IsRead-more : (start before after : Tape) (front bytes : List ℕ) (n : ℕ) (p : Pending) → IsRead start front p before → Took bytes before after → (n ≡ 0 → before.left ≡ []) → IsRead start front (with_bytes p bytes n) after
unfolding IsTaken-more
IsRead-more start before after front bytes n p read t ends =
    let more = IsTaken-more start before after front bytes p read t in
    record {
      taken = more.taken;
      left = more.left;
      ended = λ h. tail_nil bytes after.left (sym t.left ∙ by_end p.ended (eqb n 0) refl refl h);
    }
  where
    by_end : (a b : Bool) → p.ended ≡ a → eqb n 0 ≡ b → (a || b) ≡ true → before.left ≡ []
    by_end true b e f h = read.ended e
    by_end false true e f h = ends (grind (arith, nat_tests))
    by_end false false e f h = absurd cc

-- a take that was accepted
pub IsRead-take : {E : Type 0} (buf : List ℕ) (result : Result ℕ E) (before after : Streams) (m k : Meaning) (p q : Pending) → TakeTold buf result before after m k → 0 < length buf
    → IfOk result (λ n. q ≡ with_bytes p (take n buf) n) → (IsErr result → ⊥) → (start : Tape) (front : List ℕ) → IsRead start front p (tape before m) → IsRead start front q (tape after k)
IsRead-take buf (Ok n) before after m k p q told some same good start front read =
    subst (λ (p : Pending). IsRead start front p (tape after k)) (sym same) (IsRead-more start (tape before m) (tape after k) front (take n buf) n p read (took buf n before after m k told) (told.ends some).0)
IsRead-take buf (Err e) before after m k p q told some same good start front read = absurd (good refl)

-- a take, accepted or not
pub IsTaken-take : {E : Type 0} (buf : List ℕ) (result : Result ℕ E) (before after : Streams) (m k : Meaning) (p : Pending) → TakeTold buf result before after m k → (start : Tape) (front : List ℕ) → IsRead start front p (tape before m) → IsTaken start front (tape after k)
IsTaken-take buf (Ok n) before after m k p told start front read = IsTaken-more start (tape before m) (tape after k) front (take n buf) p read (took buf n before after m k told)
IsTaken-take buf (Err e) before after m k p told start front read = IsTaken-more start (tape before m) (tape after k) front [] p read (took_none buf e before after m k told)
