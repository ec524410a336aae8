-- What the calls of all clients need together is what the script needs.
use Rattle.std.proofs.Common.{◌≡◌, ℕ, zero, suc, ◌+◌, ◌≤◌, true, false, Bool, eqb, List, [], ◌∷◌, length, Some, refl, ap, ◌∙◌, subst, arith, inl, inr}
use Rattle.std.specs.Prelude.{filter, if◌then◌else◌, map, slice_get}
use Rattle.std.specs.List.{flat_map, sum, sum_by}
use Rattle.std.proofs.lemmas.Bool.{cases_Bool, cond-true, cond-false, eqb-true, ne_eqb}
use Rattle.std.proofs.lemmas.List.Sums.{sum_by-append, sum_by-cons}
use Rattle.zb_types.specs.declared.calls.Call.{Call}
use Rattle.zb_types.specs.declared.geometry.Geometry.{Geometry}
use Rattle.zb_types.specs.declared.lines.Line.{Line}
use Rattle.zb_types.specs.declared.lines.Line.TheVariants.{Call as CallLine, Job as JobLine, Steps, StepTo, Event as EventLine}
use Rattle.zb_types.specs.Apply.{is_update}
use Rattle.zb_headline.specs.Need.{need_of, space_needed}
use Rattle.zb_given.specs.Given.{Given, Item, call_by, calls_of, script_of}
use Rattle.zb_need.specs.Weights.{need, needs}

-- what a call needs, where it is an update
abbrev pub wants : Geometry → Call → ℕ
wants geo call = if is_update call then need geo call else 0

-- the sum of f at so many numbers from k on
abbrev pub span : (ℕ → ℕ) → ℕ → ℕ → ℕ
span f k zero = 0
span f k (suc m) = f k + span f (suc k) m

span_both : (f g : ℕ → ℕ) (k m : ℕ) → span (λ i. f i + g i) k m ≡ span f k m + span g k m
span_both f g k zero = refl
span_both f g k (suc m) = let rest = span_both f g (suc k) m in omega (arith, rest)

-- a list is at most the sum where each element is at most its part
pub sum_spans : (f : ℕ → ℕ) (k : ℕ) (xs : List ℕ) → ((i x : ℕ) → slice_get xs i ≡ Some x → x ≤ f (k + i)) → sum xs ≤ span f k (length xs)
sum_spans f k [] each = omega arith
sum_spans f k (x ∷ xs) each =
    let first : x ≤ f k = subst (λ (j : ℕ). x ≤ f j) (omega arith) (each 0 x refl) in
    let rest = sum_spans f (suc k) xs (λ i y e. subst (λ (j : ℕ). y ≤ f j) (omega arith) (each (suc i) y e)) in
    omega (arith, first, rest, sum_by-cons (λ (y : ℕ). y) x xs)

-- ---- one of the clients has a line's call
module _ (c x : ℕ) where
  abbrev at : ℕ → ℕ
  at i = if eqb (i + 1) c then x else 0

  none_behind : (k m : ℕ) → c ≤ k → span at k m ≡ 0
  none_behind k zero low = refl
  none_behind k (suc m) low =
      let rest = none_behind (suc k) m (omega (arith, low)) in
      let here : at k ≡ 0 = cond-false (eqb (k + 1) c) x 0 (ne_eqb (k + 1) c (λ e. omega (arith, e, low))) in
      omega (arith, here, rest)

  at_most : (k m : ℕ) → span at k m ≤ x
  at_most k zero = omega arith
  at_most k (suc m) =
      let rest = at_most (suc k) m in
      elim (cases_Bool (eqb (k + 1) c)) [
        | inl is ↦
            let here : at k ≡ x = cond-true (eqb (k + 1) c) x 0 is in
            let one = eqb-true (k + 1) c is in
            let none = none_behind (suc k) m (omega (arith, one)) in
            omega (arith, here, none)
        | inr other ↦
            let here : at k ≡ 0 = cond-false (eqb (k + 1) c) x 0 other in
            omega (arith, here, rest)
      ]

module _ (geo : Geometry) where
  abbrev wants_all : List Call → ℕ
  wants_all calls = sum_by (wants geo) calls

  -- what the calls of a client among these items need
  abbrev of_items : List Item → ℕ → ℕ
  of_items items i = wants_all (flat_map (λ item. call_by (i + 1) item.line) items)

  one_call : (call : Call) → wants_all (call ∷ []) ≡ wants geo call
  one_call call = sum_by-cons (wants geo) call [] ∙ omega arith

  span_ext : (f g : ℕ → ℕ) (k m : ℕ) → ((i : ℕ) → f i ≡ g i) → span f k m ≡ span g k m
  span_ext f g k zero same = refl
  span_ext f g k (suc m) same = let here = same k in let rest = span_ext f g (suc k) m same in omega (arith, here, rest)

  call_wants : (i c : ℕ) (call : Call) → wants_all (if eqb (i + 1) c then call ∷ [] else []) ≡ at c (wants geo call) i
  call_wants i c call = by (eqb (i + 1) c) where
    by : (b : Bool) → wants_all (if b then call ∷ [] else []) ≡ (if b then wants geo call else 0)
    by true = one_call call
    by false = refl

  none_of : (k m : ℕ) → span (λ i. wants_all []) k m ≡ 0
  none_of k zero = refl
  none_of k (suc m) = let rest = none_of (suc k) m in omega (arith, rest)

  of_line : (line : Line) (m : ℕ) → span (λ i. wants_all (call_by (i + 1) line)) 0 m ≤ need_of geo line
  of_line (CallLine plus c call) m =
      let same = span_ext (λ i. wants_all (call_by (i + 1) (CallLine plus c call))) (at c (wants geo call)) 0 m (λ i. call_wants i c call) in
      let few = at_most c (wants geo call) 0 m in
      omega (arith, same, few)
  of_line (JobLine plus job) m = let none = none_of 0 m in omega (arith, none)
  of_line (Steps actor count) m = let none = none_of 0 m in omega (arith, none)
  of_line (StepTo actor kind) m = let none = none_of 0 m in omega (arith, none)
  of_line (EventLine event) m = let none = none_of 0 m in omega (arith, none)

  of_all : (items : List Item) (m : ℕ) → span (of_items items) 0 m ≤ sum (map (need_of geo) (map (λ item. item.line) items))
  of_all [] m = let none = none_of 0 m in omega (arith, none)
  of_all (item ∷ items) m =
      let rest = of_all items m in
      let line = of_line item.line m in
      let both = span_both (λ i. wants_all (call_by (i + 1) item.line)) (of_items items) 0 m in
      let same = span_ext (of_items (item ∷ items)) (λ i. wants_all (call_by (i + 1) item.line) + of_items items i) 0 m
      (λ i. sum_by-append (wants geo) (call_by (i + 1) item.line) (flat_map (λ it. call_by (i + 1) it.line) items)) in
      omega (arith, rest, line, both, same, sum_by-cons (λ (y : ℕ). y) (need_of geo item.line) (map (need_of geo) (map (λ it. it.line) items)))

  -- all clients' calls together need what the script needs
  pub script_needs : (given : Given) (m : ℕ) → span (λ i. wants_all (calls_of given (i + 1))) 0 m ≤ space_needed geo (script_of given)
  script_needs given m = of_all given.items m

  -- ---- the updates alone
  pub updates_want : (calls : List Call) → needs geo (filter is_update calls) ≡ wants_all calls
  updates_want [] = refl
  updates_want (call ∷ calls) =
      let rest = updates_want calls in
      elim (cases_Bool (is_update call)) [
        | inl update ↦
            let here : wants geo call ≡ need geo call = cond-true (is_update call) (need geo call) 0 update in
            let kept : filter is_update (call ∷ calls) ≡ call ∷ filter is_update calls = cond-true (is_update call) (call ∷ filter is_update calls) (filter is_update calls) update in
            let more = ap (needs geo) kept in
            omega (arith, rest, here, more, sum_by-cons (wants geo) call calls, sum_by-cons (λ (y : ℕ). y) (need geo call) (map (need geo) (filter is_update calls)))
        | inr other ↦
            let here : wants geo call ≡ 0 = cond-false (is_update call) (need geo call) 0 other in
            let kept : filter is_update (call ∷ calls) ≡ filter is_update calls = cond-false (is_update call) (call ∷ filter is_update calls) (filter is_update calls) other in
            let more = ap (needs geo) kept in
            omega (arith, rest, here, more, sum_by-cons (wants geo) call calls)
      ]
