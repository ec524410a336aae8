-- What a search finds among rising numbers, and what an edit at that place does.
use Rattle.std.proofs.Common.{◌≡◌, ℕ, zero, suc, ◌+◌, ◌<◌, ◌≤◌, List, [], ◌∷◌, ◌++◌, length, get_or, set, take, drop, append_assoc, append-nil, Some, None, Result, Ok, Err, IfOk, IfErr, refl, sym, ap, ◌∙◌, arith}
use Rattle.std.specs.List.{insert}
use Rattle.std.specs.List.Sorted.{IsSearchInRange, IsBinarySearchResult, IsNonDecreasingBy}
use Rattle.std.specs.Ordering.{nat_cmp, ordering_index}
use Rattle.std.proofs.lemmas.Cmp.{ranked}
use Rattle.std.proofs.lemmas.List.Sorted.{IsNonDecreasingBy-from_default}
use Rattle.std.specs.Prelude.{nat_lt}
use Rattle.std.proofs.lemmas.Bool.{cond_both}
use Rattle.std.proofs.lemmas.Bool.Decides.{nat_tests}
use Rattle.zb_types.specs.declared.ids.Ptr.{Ptr}
use Rattle.zb_types.specs.Keyed.{look, put}
use Rattle.zb_types.proofs.KeyedLists.{KeysAbove, IsRising}
use Rattle.zb_tables.specs.Finding.{among}
use Rattle.zb_tables.specs.Fold.{below}
use Rattle.zb_pointers.specs.Blocks.{number_at, IsAt, IsFirstFrom, IsGap}

abbrev Pairs : Type 0
Pairs = List (ℕ × Ptr)

above_at : (k : ℕ) (es : Pairs) (i : ℕ) → KeysAbove k es → i < length es → k < number_at es i
above_at k [] i above lt = absurd (omega arith)
above_at k (e ∷ es) zero above lt = above.0
above_at k (e ∷ es) (suc i) above lt = above_at k es i above.1 (omega arith)

rise_at : (es : Pairs) (i j : ℕ) → IsRising es → i < j → j < length es → number_at es i < number_at es j
rise_at [] i j rising lt within = absurd (omega arith)
rise_at (e ∷ es) i zero rising lt within = absurd (omega arith)
rise_at (e ∷ es) zero (suc j) rising lt within = above_at e.0 es j rising.0 (omega arith)
rise_at (e ∷ es) (suc i) (suc j) rising lt within = rise_at es i j rising.1 (omega arith) (omega arith)

-- the number of a pair that is read
number_is : (es : Pairs) (i : ℕ) (d : ℕ × Ptr) → i < length es → (get_or es i d).0 ≡ number_at es i
number_is [] i d lt = absurd (omega arith)
number_is (e ∷ es) zero d lt = refl
number_is (e ∷ es) (suc i) d lt = number_is es i d (omega arith)

-- ---- the search

module _ (es : Pairs) (rising : IsRising es) (k : ℕ) where
  comparisons_rise : (d : ℕ × Ptr) → IsNonDecreasingBy (λ pair. ordering_index (nat_cmp pair.0 k)) es
  comparisons_rise d = IsNonDecreasingBy-from_default (λ pair. ordering_index (nat_cmp pair.0 k)) es d (λ i j le within.
      let low : (get_or es i d).0 ≡ number_at es i = number_is es i d (omega arith) in
      let high : (get_or es j d).0 ≡ number_at es j = number_is es j d within in
      let rise : (get_or es i d).0 ≤ (get_or es j d).0 = grind (arith, rise_at es i j rising, λ (same : i ≡ j). ap (number_at es) same) in
      grind (arith, nat_tests))

  pub record Searched (r : Result ℕ ℕ) : Type 0 where
    pub found : IfOk r (IsAt es k)
    pub absent : IfErr r (IsGap es k)

  pub searched : (d : ℕ × Ptr) (r : Result ℕ ℕ) → IsSearchInRange r (length es) → IsBinarySearchResult (λ pair. nat_cmp pair.0 k) es r → Searched r
  searched d (Ok i) within equal = record { found = record { in_range = within; is = sym (number_is es i d within) ∙ ranked _ k _ (sym (equal d)) }; absent = tt }
  searched d (Err i) within parted = record {
    found = tt;
    absent = record {
      in_range = within;
      before = λ j lt. let n = number_is es j d (omega arith) in let less : (get_or es j d).0 < k = ranked _ k _ (sym ((parted (comparisons_rise d)).0 j d (omega arith) lt)) in omega arith;
      behind = λ j le lt. let n = number_is es j d lt in let more : k < (get_or es j d).0 = ranked _ k _ (sym ((parted (comparisons_rise d)).1 j d le lt)) in omega arith;
    };
  }

-- ---- at the place that was found

is_at_rest : (e : ℕ × Ptr) (es : Pairs) (k i : ℕ) → IsAt (e ∷ es) k (suc i) → IsAt es k i
is_at_rest e es k i at = record { in_range = omega (arith, at.in_range); is = at.is }

pub set_puts : (es : Pairs) (k : ℕ) (p : Ptr) (i : ℕ) → IsRising es → IsAt es k i → set es i (k, p) ≡ put k p es
set_puts [] k p i rising at = absurd (omega (arith, at.in_range))
set_puts (e ∷ es) k p zero rising at = grind (arith, nat_tests, at.is)
set_puts (e ∷ es) k p (suc i) rising at =
    let rest = is_at_rest e es k i at in
    let lt : e.0 < number_at es i = above_at e.0 es i rising.0 rest.in_range in
    let is : number_at es i ≡ k = rest.is in
    grind (arith, nat_tests, set_puts es k p i rising.1 rest)

pub found_at : (es : Pairs) (k i : ℕ) (d : ℕ × Ptr) → IsRising es → IsAt es k i → look k es ≡ Some (get_or es i d).1
found_at [] k i d rising at = absurd (omega (arith, at.in_range))
found_at (e ∷ es) k zero d rising at = grind (arith, nat_tests, at.is)
found_at (e ∷ es) k (suc i) d rising at =
    let rest = is_at_rest e es k i at in
    let lt : e.0 < number_at es i = above_at e.0 es i rising.0 rest.in_range in
    let is : number_at es i ≡ k = rest.is in
    grind (arith, nat_tests, found_at es k i d rising.1 rest)

-- ---- at the gap

is_gap_rest : (e : ℕ × Ptr) (es : Pairs) (k i : ℕ) → IsGap (e ∷ es) k (suc i) → IsGap es k i
is_gap_rest e es k i gap = record {
  in_range = omega (arith, gap.in_range);
  before = λ j lt. gap.before (suc j) (omega arith);
  behind = λ j le lt. gap.behind (suc j) (omega arith) (omega arith);
}

pub insert_puts : (es : Pairs) (k : ℕ) (p : Ptr) (i : ℕ) → IsGap es k i → insert es i (k, p) ≡ put k p es
insert_puts [] k p zero gap = refl
insert_puts [] k p (suc i) gap = absurd (omega (arith, gap.in_range))
insert_puts (e ∷ es) k p zero gap =
    let more : k < e.0 = gap.behind 0 (omega arith) (omega arith) in
    grind (arith, nat_tests)
insert_puts (e ∷ es) k p (suc i) gap =
    let less : e.0 < k = gap.before 0 (omega arith) in
    grind (arith, nat_tests, insert_puts es k p i (is_gap_rest e es k i gap))

pub absent_at : (es : Pairs) (k i : ℕ) → IsGap es k i → look k es ≡ None
absent_at [] k i gap = refl
absent_at (e ∷ es) k zero gap =
    let more : k < e.0 = gap.behind 0 (omega arith) (omega arith) in
    let rest : IsGap es k 0 = record { in_range = omega arith; before = λ j lt. absurd (omega arith); behind = λ j le lt. gap.behind (suc j) (omega arith) (omega arith) } in
    grind (arith, nat_tests, absent_at es k zero rest)
absent_at (e ∷ es) k (suc i) gap =
    let less : e.0 < k = gap.before 0 (omega arith) in
    grind (arith, nat_tests, absent_at es k i (is_gap_rest e es k i gap))

-- ---- the part before a place

-- the place of a number that is there, or of a gap, is where those not below it begin
pub first_at : (es : Pairs) (k i : ℕ) → IsRising es → IsAt es k i → IsFirstFrom es k i
first_at es k i rising at = record {
  in_range = omega (arith, at.in_range);
  before = λ j lt. let r = rise_at es j i rising lt at.in_range in omega (arith, at.is);
  behind = λ j le lt. let e = at.is in grind (arith, rise_at es i j rising, λ (same : i ≡ j). ap (number_at es) same);
}

pub first_gap : (es : Pairs) (k i : ℕ) → IsGap es k i → IsFirstFrom es k i
first_gap es k i gap = record { in_range = gap.in_range; before = gap.before; behind = λ j le lt. omega (arith, gap.behind j le lt) }

-- behind the first block
first_rest : (e : ℕ × Ptr) (es : Pairs) (k i : ℕ) → IsFirstFrom (e ∷ es) k (suc i) → IsFirstFrom es k i
first_rest e es k i first = record {
  in_range = omega (arith, first.in_range);
  before = λ j lt. first.before (suc j) (omega arith);
  behind = λ j le lt. first.behind (suc j) (omega arith) (omega arith);
}

none_before : (e : ℕ × Ptr) (es : Pairs) (k : ℕ) → IsFirstFrom (e ∷ es) k 0 → IsFirstFrom es k 0
none_before e es k first = record { in_range = omega arith; before = λ j lt. absurd (omega arith); behind = λ j le lt. first.behind (suc j) (omega arith) (omega arith) }

pub take_keeps : (es : Pairs) (k i : ℕ) → IsFirstFrom es k i → take i es ≡ below k es
take_keeps [] k zero first = refl
take_keeps [] k (suc i) first = absurd (omega (arith, first.in_range))
take_keeps (e ∷ es) k zero first =
    let more : k ≤ e.0 = first.behind 0 (omega arith) (omega arith) in
    grind (arith, nat_tests, take_keeps es k zero (none_before e es k first))
take_keeps (e ∷ es) k (suc i) first =
    let less : e.0 < k = first.before 0 (omega arith) in
    grind (arith, nat_tests, take_keeps es k i (first_rest e es k i first))

above_below : (k j : ℕ) (ds : Pairs) → KeysAbove j ds → KeysAbove j (below k ds)
above_below k j [] above = tt
above_below k j (d ∷ ds) above =
    cond_both (nat_lt d.0 k) (d ∷ below k ds) (below k ds) (KeysAbove j) (λ t. (above.0, above_below k j ds above.1)) (λ f. above_below k j ds above.1)

pub rising_below : (k : ℕ) (es : Pairs) → IsRising es → IsRising (below k es)
rising_below k [] rising = tt
rising_below k (e ∷ es) rising =
    cond_both (nat_lt e.0 k) (e ∷ below k es) (below k es) IsRising (λ t. (above_below k e.0 es rising.0, rising_below k es rising.1)) (λ f. rising_below k es rising.1)

pub none_below : (es : Pairs) → below 0 es ≡ []
none_below [] = refl
none_below (e ∷ es) = grind (arith, nat_tests, none_below es)

-- ---- a range of numbers

-- no number is below k
abbrev pub AllFrom : ℕ → Pairs → Type 0
AllFrom k [] = Unit {0}
AllFrom k (e ∷ es) = (k ≤ e.0) × AllFrom k es

from_above : (k j : ℕ) (es : Pairs) → k ≤ j → KeysAbove j es → AllFrom k es
from_above k j [] le above = tt
from_above k j (e ∷ es) le above = (omega (arith, above.0), from_above k j es le above.1)

-- what stands before the first number isn't in the range
among_behind : (es : Pairs) (k n i : ℕ) → IsFirstFrom es k i → among k n es ≡ among k n (drop i es)
among_behind es k n zero first = refl
among_behind [] k n (suc i) first = refl
among_behind (e ∷ es) k n (suc i) first =
    let less : e.0 < k = first.before 0 (omega arith) in
    grind (arith, nat_tests, among_behind es k n i (first_rest e es k i first))

-- the numbers from that place on
from_first : (es : Pairs) (k i : ℕ) → IsFirstFrom es k i → AllFrom k (drop i es)
from_first [] k zero first = tt
from_first [] k (suc i) first = tt
from_first (e ∷ es) k zero first = (first.behind 0 (omega arith) (omega arith), from_first es k zero (none_before e es k first))
from_first (e ∷ es) k (suc i) first = from_first es k i (first_rest e es k i first)

rising_drop : (es : Pairs) (i : ℕ) → IsRising es → IsRising (drop i es)
rising_drop es zero rising = rising
rising_drop [] (suc i) rising = tt
rising_drop (e ∷ es) (suc i) rising = rising_drop es i rising.1

-- none is in the range from a number behind it on
none_among : (es : Pairs) (k n : ℕ) → AllFrom (k + n) es → among k n es ≡ []
none_among [] k n from = refl
none_among (e ∷ es) k n from = let more = from.0 in grind (arith, nat_tests, none_among es k n from.1)

one_among : (e : ℕ × Ptr) (es : Pairs) (k n : ℕ) → k ≤ e.0 → e.0 < k + n → among k n (e ∷ es) ≡ e ∷ among k n es
one_among e es k n low high = grind (arith, nat_tests)

-- of the blocks in the range some were found, and the others are left in rising numbers
pub record AreLeft (k n : ℕ) (found left all : Pairs) : Type 0 where
  pub rising : IsRising left
  pub from : AllFrom k left
  pub rest : found ++ among k n left ≡ all

pub left_first : (es : Pairs) (k n i : ℕ) → IsRising es → IsFirstFrom es k i → AreLeft k n [] (drop i es) (among k n es)
left_first es k n i rising first = record { rising = rising_drop es i rising; from = from_first es k i first; rest = sym (among_behind es k n i first) }

pub left_next : (e : ℕ × Ptr) (k n : ℕ) (found left all : Pairs) → AreLeft k n found (e ∷ left) all → e.0 < k + n → AreLeft k n (found ++ e ∷ []) left all
left_next e k n found left all are high = record {
  rising = are.rising.1;
  from = are.from.1;
  rest = append_assoc found (e ∷ []) (among k n left) ∙ ap (λ more. found ++ more) (sym (one_among e left k n are.from.0 high)) ∙ are.rest;
}

pub left_none : (k n : ℕ) (found all : Pairs) → AreLeft k n found [] all → found ≡ all
left_none k n found all are = sym (append-nil found) ∙ are.rest

pub left_past : (e : ℕ × Ptr) (k n : ℕ) (found left all : Pairs) → AreLeft k n found (e ∷ left) all → k + n ≤ e.0 → found ≡ all
left_past e k n found left all are past =
    sym (append-nil found) ∙ ap (λ more. found ++ more) (sym (none_among (e ∷ left) k n (past, from_above (k + n) e.0 left past are.rising.0))) ∙ are.rest

pub drop_one : (es : Pairs) (i : ℕ) (d : ℕ × Ptr) → i < length es → drop i es ≡ get_or es i d ∷ drop (i + 1) es
drop_one [] i d lt = absurd (omega arith)
drop_one (e ∷ es) zero d lt = refl
drop_one (e ∷ es) (suc i) d lt = let next : suc i + 1 ≡ suc (i + 1) = omega arith in drop_one es i d (omega arith) ∙ ap (λ j. get_or es i d ∷ drop j (e ∷ es)) (sym next)

pub drop_all : (es : Pairs) (i : ℕ) → length es ≤ i → drop i es ≡ []
drop_all [] zero le = refl
drop_all [] (suc i) le = refl
drop_all (e ∷ es) zero le = absurd (omega arith)
drop_all (e ∷ es) (suc i) le = drop_all es i (omega arith)
