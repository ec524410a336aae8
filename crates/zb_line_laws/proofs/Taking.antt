-- The first queued call is taken.
use Rattle.std.proofs.Common.{◌≡◌, ℕ, suc, ◌+◌, ◌≤◌, Bool, true, false, List, [], ◌∷◌, ◌++◌, append-nil, length, length-append, Option, Some, None, refl, sym, ap, ◌∙◌, subst, arith}
use Rattle.std.specs.Prelude.{◌&&◌, if◌then◌else◌, nat_lt}
use Rattle.std.specs.List.{AllByRecursion}
use Rattle.std.proofs.lemmas.Bool.{and_parts, ltb-false, ltb-true}
use Rattle.zb_types.specs.Apply.{is_bufferable, is_update}
use Rattle.zb_types.specs.Limits.{most_kept}
use Rattle.zb_types.specs.declared.lines.Outcome.{Outcome}
use Rattle.zb_types.specs.declared.lines.Outcome.TheVariants.{Call as OfCall}
use Rattle.zb_types.specs.declared.lines.Said.TheVariants as said
use Rattle.zb_claims.specs.Points.{call_of}
use Rattle.zb_given.specs.Given.{FitGiven, Given, calls_of, script_of}
use Rattle.zb_given.specs.Queues.{CallsStand}
use Rattle.zb_given.proofs.Adding.{adds_buffered}
use Rattle.zb_given.proofs.Standing.{buffers, takes}
use Rattle.zb_basis.specs.declared.calls.Numbered.{Numbered}
use Rattle.zb_basis.proofs.Each.{each-append}
use Rattle.zb_work.specs.declared.work.Aim.TheVariants.{Update, Read, Finish}
use Rattle.zb_work.specs.declared.work.Task.{Task}
use Rattle.zb_work.specs.Steps.{aim_of, new_task}
use Rattle.zb_client.specs.Seen.{SeenClient}
use Rattle.zb_client.specs.Hearing.{keeps, takes_call, takes_first}
use Rattle.zb_client.specs.Telling.{Heard, line, silent, tells}
use Rattle.zb_line_laws.specs.Calls.{AimHas, AreGivenBehind, HasItsCalls, IsGiven, lines_in, numbers_of}

pub numbers-append : (xs ys : List Numbered) → numbers_of (xs ++ ys) ≡ numbers_of xs ++ numbers_of ys
numbers-append [] ys = refl
numbers-append (x ∷ xs) ys = ap (λ (rest : List ℕ). x.number ∷ rest) (numbers-append xs ys)

numbers-length : (xs : List Numbered) → length (numbers_of xs) ≡ length xs
numbers-length [] = refl
numbers-length (x ∷ xs) = ap suc (numbers-length xs)

pub no_work : None ≡ Some Finish → ⊥
no_work e = cc e

no_update : (n : ℕ) → Some (Update n) ≡ Some Finish → ⊥
no_update n e = cc e

no_read : Some Read ≡ Some Finish → ⊥
no_read e = cc e

module _ (given : Given) (lines : List Outcome) (c : SeenClient) (fit : FitGiven given lines) (h : HasItsCalls given lines c) where
  abbrev Fits : Heard → Type 0
  Fits heard = FitGiven given (lines ++ lines_in heard.told) × HasItsCalls given (lines ++ lines_in heard.told) heard.client

  -- nothing is told, and the calls stay
  same_lines : lines ≡ lines ++ []
  same_lines = sym (append-nil lines)

  pub quiet : (d : SeenClient) → HasItsCalls given lines d → Fits (silent d)
  quiet d g = (
    subst (FitGiven given) same_lines fit,
    subst (λ (ls : List Outcome). HasItsCalls given ls (silent d).client) same_lines
        (record { taken = g.taken; lined = g.lined; stand = g.stand; kept = g.kept; queue = g.queue; all = g.all; work = g.work; finishing = g.finishing }),
  )

  module _ (none : c.task ≡ None) where
    lined_is : h.lined ≡ h.taken
    lined_is = subst (λ (t : Option Task). AimHas (aim_of t) h.taken h.lined) none h.work

    stand : CallsStand given lines c.client (numbers_of c.kept) h.taken h.taken
    stand = subst (λ (n : ℕ). CallsStand given lines c.client (numbers_of c.kept) h.taken n) lined_is h.stand

    module _ (call : Numbered) (rest : List Numbered) (queue : AreGivenBehind given c.client h.taken (call ∷ rest)) (all : h.taken + length (call ∷ rest) ≡ length (calls_of given c.client)) where
      number_is : call.number ≡ suc h.taken
      number_is = let e = queue.0 in omega (arith, e)

      given_next : call_of (script_of given) c.client (suc h.taken) ≡ Some call.call
      given_next = subst (λ (n : ℕ). call_of (script_of given) c.client n ≡ Some call.call) number_is queue.1

      abbrev Kept : List Numbered
      Kept = c.kept ++ call ∷ []

      abbrev With : SeenClient
      With = record c { kept = Kept; queue = rest }

      kept_given : AllByRecursion (IsGiven given c.client) Kept
      kept_given = each-append (IsGiven given c.client) c.kept (call ∷ []) h.kept (queue.1, tt)

      numbers_are : numbers_of c.kept ++ suc h.taken ∷ [] ≡ numbers_of Kept
      numbers_are = ap (λ (n : ℕ). numbers_of c.kept ++ n ∷ []) (sym number_is) ∙ sym (numbers-append c.kept (call ∷ []))

      behind : AreGivenBehind given c.client (suc h.taken) rest
      behind = subst (λ (n : ℕ). AreGivenBehind given c.client n rest) (let e : h.taken + 1 ≡ suc h.taken = omega arith in e) queue.2

      count : suc h.taken + length rest ≡ length (calls_of given c.client)
      count = let e : h.taken + suc (length rest) ≡ length (calls_of given c.client) = all in omega (arith, e)

      long : length Kept ≡ suc (length (numbers_of c.kept))
      long = let a = numbers-length c.kept in let b = length-append c.kept (call ∷ []) in omega (arith, a, b)

      -- buffered
      buffered : is_bufferable call.call ≡ true → nat_lt (length Kept) most_kept ≡ true → Fits (tells With (line With call.number said.Buffered ∷ []))
      buffered can few =
          let b = buffers given lines c.client (numbers_of c.kept) h.taken call.call given_next can (let f = ltb-true (length Kept) most_kept few in let l = long in omega (arith, f, l)) stand in
          let fits = adds_buffered given lines c.client (suc h.taken) call.call fit b.is_open b.fits in
          subst (λ (n : ℕ). FitGiven given (lines ++ OfCall c.client n said.Buffered ∷ []) × HasItsCalls given (lines ++ OfCall c.client n said.Buffered ∷ []) (tells With []).client) (sym number_is) (
            fits,
            record {
              taken = suc h.taken;
              lined = suc h.taken;
              stand = subst (λ (ns : List ℕ). CallsStand given (lines ++ OfCall c.client (suc h.taken) said.Buffered ∷ []) c.client ns (suc h.taken) (suc h.taken)) numbers_are b.stand;
              kept = kept_given;
              queue = behind;
              all = count;
              work = subst (λ (t : Option Task). AimHas (aim_of t) (suc h.taken) (suc h.taken)) (sym none) refl;
              finishing = λ e. absurd (no_work (sym (ap aim_of none) ∙ e));
            },
          )

      -- the commit of all begins
      begun : is_update call.call ≡ true → (is_bufferable call.call ≡ true → most_kept ≤ suc (length (numbers_of c.kept))) → Fits (silent (record With { task = new_task (Update call.number) }))
      begun update full =
          quiet (record With { task = new_task (Update call.number) }) (record {
            taken = suc h.taken;
            lined = h.taken;
            stand = subst (λ (ns : List ℕ). CallsStand given lines c.client ns (suc h.taken) h.taken) numbers_are (takes given lines c.client (numbers_of c.kept) h.taken call.call given_next update full stand);
            kept = kept_given;
            queue = behind;
            all = count;
            work = (number_is, (let e : suc h.taken ≡ h.taken + 1 = omega arith in e));
            finishing = λ e. absurd (no_update call.number e);
          })

      full_by : (can few : Bool) → is_bufferable call.call ≡ can → nat_lt (length Kept) most_kept ≡ few → can && few ≡ false → is_bufferable call.call ≡ true → most_kept ≤ suc (length (numbers_of c.kept))
      full_by true true a b e buffer = absurd (cc e)
      full_by true false a b e buffer = let l = long in let n = ltb-false (length Kept) most_kept b in omega (arith, l, n)
      full_by false few a b e buffer = absurd (cc (sym a ∙ buffer))

      kept_by : is_update call.call ≡ true → (test : Bool) → (is_bufferable call.call && nat_lt (length Kept) most_kept) ≡ test
          → Fits (if test then tells With (line With call.number said.Buffered ∷ []) else silent (record With { task = new_task (Update call.number) }))
      kept_by update true e = let two = and_parts (is_bufferable call.call) (nat_lt (length Kept) most_kept) e in buffered two.0 two.1
      kept_by update false e = begun update (full_by (is_bufferable call.call) (nat_lt (length Kept) most_kept) refl refl e)

      -- a read
      read_begun : Fits (silent (record c { task = new_task Read }))
      read_begun = quiet (record c { task = new_task Read }) (record {
        taken = h.taken;
        lined = h.lined;
        stand = h.stand;
        kept = h.kept;
        queue = h.queue;
        all = h.all;
        work = lined_is;
        finishing = λ e. absurd (no_read e);
      })

      taken_by : (update : Bool) → is_update call.call ≡ update → Fits (if update then keeps With call else silent (record c { task = new_task Read }))
      taken_by true e = kept_by e (is_bufferable call.call && nat_lt (length Kept) most_kept) refl
      taken_by false e = read_begun

    first_taken : (queue : List Numbered) → c.queue ≡ queue → Fits (takes_first c queue)
    first_taken [] e = quiet c h
    first_taken (call ∷ rest) e =
        taken_by call rest (subst (AreGivenBehind given c.client h.taken) e h.queue)
        (subst (λ (q : List Numbered). h.taken + length q ≡ length (calls_of given c.client)) e h.all) (is_update call.call) refl

    pub taken_fits : Fits (takes_call c)
    taken_fits = first_taken c.queue refl
