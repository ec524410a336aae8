-- The part of a script before a line that is asked for, and the call that a client's number names.
use Rattle.std.proofs.Common.{◌≡◌, ℕ, zero, suc, ◌+◌, ◌<◌, Bool, true, false, cond, eqb, List, [], ◌∷◌, ◌++◌, length, take, Option, Some, None, refl, sym, ap, subst, ◌∙◌, arith}
use Rattle.std.specs.Prelude.{filter}
use Rattle.std.proofs.lemmas.Bool.Decides.{nat_tests}
use Rattle.std.proofs.lemmas.List.{length-append}
use Rattle.std.proofs.Math.Seq.{take-append_seam}
use Rattle.zb_types.specs.declared.calls.Call.{Call}
use Rattle.zb_types.specs.declared.lines.Line.{Line}
use Rattle.zb_types.specs.declared.lines.Line.TheVariants.{Call as CallLine, Job as JobLine, Steps, StepTo, Event as EventLine}
use Rattle.zb_claims.specs.Points.{Subject, calls, is_about, asked_of, asked_from, asked, call_in, call_of}
use Rattle.zb_laws.proofs.Tests.{equal}
use Rattle.zb_given.specs.Given.{place_in}
use Rattle.zb_given.proofs.Asking.{asked_zero, asked_cons}

pub record Splits (base : ℕ) (s : Subject) (n : ℕ) (script : List Line) (place : ℕ) (line : Line) : Type 0 where
  pub front : List Line
  pub rest : List Line
  pub split : script ≡ front ++ line ∷ rest
  pub at : place ≡ base + length front
  pub is : is_about s line ≡ true
  pub count : n ≡ suc (asked_of s front)

split_on : (base : ℕ) (s : Subject) (n : ℕ) (x : Line) (xs : List Line) (place : ℕ) (line : Line) → is_about s x ≡ true → Splits (suc base) s n xs place line → Splits base s (suc n) (x ∷ xs) place line
split_on base s n x xs place line is p = record {
  front = x ∷ p.front;
  rest = p.rest;
  split = ap (λ (l : List Line). x ∷ l) p.split;
  at = p.at ∙ more (length p.front);
  is = p.is;
  count = ap suc p.count ∙ ap (λ (b : Bool). suc (length (cond b (x ∷ filter (is_about s) p.front) (filter (is_about s) p.front)))) (sym is);
}
  where
    more : (k : ℕ) → suc base + k ≡ base + suc k
    more k = omega arith

split_past : (base : ℕ) (s : Subject) (n : ℕ) (x : Line) (xs : List Line) (place : ℕ) (line : Line) → is_about s x ≡ false → Splits (suc base) s n xs place line → Splits base s n (x ∷ xs) place line
split_past base s n x xs place line is p = record {
  front = x ∷ p.front;
  rest = p.rest;
  split = ap (λ (l : List Line). x ∷ l) p.split;
  at = p.at ∙ more (length p.front);
  is = p.is;
  count = p.count ∙ ap (λ (b : Bool). suc (length (cond b (x ∷ filter (is_about s) p.front) (filter (is_about s) p.front)))) (sym is);
}
  where
    more : (k : ℕ) → suc base + k ≡ base + suc k
    more k = omega arith

pub splits : (base : ℕ) (s : Subject) (n : ℕ) (script : List Line) (place : ℕ) (line : Line) → asked_from base s n script ≡ Some (place, line) → Splits base s n script place line
splits base s zero script place line is = let e : ◌≡◌ {A = Option (ℕ × Line)} None (Some (place, line)) = sym (asked_zero base s script) ∙ is in absurd cc
splits base s (suc n) [] place line is = absurd cc
splits base s (suc n) (x ∷ xs) place line is =
    elim (is_about s x) as (λ b. is_about s x ≡ b → cond b (cond (eqb n 0) (Some (base, x)) (asked_from (suc base) s n xs)) (asked_from (suc base) s (suc n) xs) ≡ Some (place, line) → Splits base s (suc n) (x ∷ xs) place line) [
      | true ↦ λ e h. here n e h (λ k g. splits (suc base) s k xs place line g)
      | false ↦ λ e h. split_past base s (suc n) x xs place line e (splits (suc base) s (suc n) xs place line h)
    ] refl (sym (asked_cons base s n x xs) ∙ is)
  where
    here : (k : ℕ) → is_about s x ≡ true → cond (eqb k 0) (Some (base, x)) (asked_from (suc base) s k xs) ≡ Some (place, line) → ((m : ℕ) → asked_from (suc base) s m xs ≡ Some (place, line) → Splits (suc base) s m xs place line) → Splits base s (suc k) (x ∷ xs) place line
    here zero e h rec =
        let pair : ◌≡◌ {A = ℕ × Line} (base, x) (place, line) = cc in
        let p : base ≡ place = ap (λ (q : ℕ × Line). q.0) pair in
        let l : x ≡ line = ap (λ (q : ℕ × Line). q.1) pair in
        record { front = []; rest = xs; split = ap (λ (y : Line). y ∷ xs) l; at = omega (arith, p); is = subst (λ (y : Line). is_about s y ≡ true) l e; count = refl }
    here (suc k) e h rec =
        let not_first : eqb (suc k) 0 ≡ false = grind (arith, nat_tests) in
        split_on base s (suc k) x xs place line e (rec (suc k) (subst (λ (b : Bool). cond b (Some (base, x)) (asked_from (suc base) s (suc k) xs) ≡ Some (place, line)) not_first h))

asked_of_cons : (s : Subject) (x : Line) (f : List Line) → is_about s x ≡ true → asked_of s (x ∷ f) ≡ suc (asked_of s f)
asked_of_cons s x f is = ap (λ (b : Bool). length (cond b (x ∷ filter (is_about s) f) (filter (is_about s) f))) is

-- of one list, two parts before a line of this subject that have as many are one
pub one_part : (s : Subject) (f g r t : List Line) (l m : Line) → f ++ l ∷ r ≡ g ++ m ∷ t → is_about s l ≡ true → is_about s m ≡ true → asked_of s f ≡ asked_of s g → (f ≡ g) × (l ≡ m)
one_part s [] [] r t l m e a b same = (refl, cc)
one_part s [] (y ∷ g) r t l m e a b same =
    let first : l ≡ y = cc in
    absurd (omega (arith, same, asked_of_cons s y g (subst (λ (x : Line). is_about s x ≡ true) first a)))
one_part s (x ∷ f) [] r t l m e a b same =
    let first : x ≡ m = cc in
    absurd (omega (arith, same, asked_of_cons s x f (subst (λ (y : Line). is_about s y ≡ true) (sym first) b)))
one_part s (x ∷ f) (y ∷ g) r t l m e a b same =
    let first : x ≡ y = cc in
    let tails : f ++ l ∷ r ≡ g ++ m ∷ t = cc in
    let counts : asked_of s (y ∷ f) ≡ asked_of s (y ∷ g) = ap (λ (z : Line). asked_of s (z ∷ f)) (sym first) ∙ same in
    let fewer : asked_of s f ≡ asked_of s g = elim (is_about s y) as (λ b. length (cond b (y ∷ filter (is_about s) f) (filter (is_about s) f)) ≡ length (cond b (y ∷ filter (is_about s) g) (filter (is_about s) g)) → asked_of s f ≡ asked_of s g) [ true ↦ λ h. omega (arith, h) | false ↦ λ h. h ] counts in
    let rest = one_part s f g r t l m tails a b fewer in
    (ap (λ (z : Line). z ∷ f) first ∙ ap (λ (z : List Line). y ∷ z) rest.0, rest.1)

-- it stands within the script
pub within : (A : List Line) (s : Subject) (n j : ℕ) (l : Line) → asked A s n ≡ Some (j, l) → j < length A
within A s n j l is =
    let p = splits 0 s n A j l is in
    omega (arith, p.at, ap length p.split, length-append p.front (l ∷ p.rest))

-- what a script has before it
pub front_taken : (A : List Line) (s : Subject) (n j : ℕ) (l : Line) → (p : Splits 0 s n A j l) → take j A ≡ p.front
front_taken A s n j l p =
    let at : j ≡ length p.front = omega (arith, p.at) in
    ap (take j) p.split ∙ ap (λ k. take k (p.front ++ l ∷ p.rest)) at ∙ take-append_seam p.front (l ∷ p.rest)

-- The call that a client's number names.

pub record AsksCall (script : List Line) (client n : ℕ) (call : Call) : Type 0 where
  pub plus : Bool
  pub is : asked script (calls client) n ≡ Some (place_in (asked script (calls client) n), CallLine plus client call)

pub asks_call : (script : List Line) (client n : ℕ) (call : Call) → call_of script client n ≡ Some call → AsksCall script client n call
asks_call script client n call is = by_found (asked script (calls client) n) refl is
  where
    by_line : (place : ℕ) (line : Line) → asked script (calls client) n ≡ Some (place, line) → is_about (calls client) line ≡ true → call_in (Some (place, line)) ≡ Some call → AsksCall script client n call
    by_line place (CallLine plus c d) e about f =
        let one : client ≡ c = equal client c about in
        let two : d ≡ call = cc in
        record { plus = plus; is = e ∙ ap (λ (x : ℕ). Some (place, CallLine plus x d)) (sym one) ∙ ap (λ (x : Call). Some (place, CallLine plus client x)) two ∙ ap (λ (k : ℕ). Some (k, CallLine plus client call)) (ap place_in (sym e)) }
    by_line place (JobLine plus job) e about f = absurd cc
    by_line place (Steps actor count) e about f = absurd cc
    by_line place (StepTo actor kind) e about f = absurd cc
    by_line place (EventLine event) e about f = absurd cc

    by_found : (o : Option (ℕ × Line)) → asked script (calls client) n ≡ o → call_in o ≡ Some call → AsksCall script client n call
    by_found None e f = absurd cc
    by_found (Some found) e f = let p = splits 0 (calls client) n script found.0 found.1 e in by_line found.0 found.1 e p.is f
