-- Logs by number: where one stands, and what is found and replaced.
use Rattle.std.proofs.Common.{ltb, ◌≡◌, ℕ, zero, suc, ◌+◌, ◌<◌, ◌≤◌, List, [], ◌∷◌, length, get_or, set, Option, Some, None, refl, sym, ap, subst, inl, inr, arith}
use Rattle.std.specs.List.{AllByRecursion}
use Rattle.std.specs.List.Sorted.{IsStrictlySortedBy, IsNonDecreasingBy, IsPartitionPoint}
use Rattle.std.specs.Map.{keys_of}
use Rattle.std.specs.Ordering.{nat_cmp}
use Rattle.std.proofs.lemmas.Bool.{cases_order}
use Rattle.std.proofs.lemmas.Bool.Decides.{nat_tests}
use Rattle.zb_types.specs.Keyed.{look, replaced}
use Rattle.zb_types.proofs.KeyedLists.{KeysAbove, IsRising, IsRising-from_ordered, look-below}
use Rattle.zb_tables.specs.Tables.{LogState}
use Rattle.zb_log_tables.specs.declared.log.Log.{Log}
use Rattle.std.specs.Prelude.{◌++◌, true, false}
use Rattle.std.specs.declared.cmp.Ordering.TheVariants.{Less}
use Rattle.zb_types.specs.declared.ids.Piece.{Piece}
use Rattle.zb_tables.specs.Tables.{last_value}
use Rattle.zb_tables.specs.Fold.{last_of, later}
use Rattle.zb_log_tables.specs.Logs.{IsPlace, IsLast, AreLogs, StripeFits, state_of, states_of}

abbrev Keyed : Type 0
Keyed = List (ℕ × LogState)

abbrev pub number_at : Keyed → ℕ → ℕ
number_at es j = get_or (keys_of es) j 0

above_at : (k : ℕ) (es : Keyed) (j : ℕ) → KeysAbove k es → j < length es → k < number_at es j
above_at k [] j above lt = absurd (omega arith)
above_at k (e ∷ es) zero above lt = above.0
above_at k (e ∷ es) (suc j) above lt = above_at k es j above.1 (omega arith)

rise_at : (es : Keyed) (i j : ℕ) → IsRising es → i < j → j < length es → number_at es i < number_at es j
rise_at [] i j rising lt within = absurd (omega arith)
rise_at (e ∷ es) i zero rising lt within = absurd (omega arith)
rise_at (e ∷ es) zero (suc j) rising lt within = above_at e.0 es j rising.0 (omega arith)
rise_at (e ∷ es) (suc i) (suc j) rising lt within = rise_at es i j rising.1 (omega arith) (omega arith)

-- a log, for the places where there is none
no_log : Log
no_log = record { number = 0; owner = 0; live = false; batch = 0; replies = []; last = None; mark = 0 }

pub number_of : (ls : List Log) (i : ℕ) (d : Log) → i < length ls → number_at (states_of ls) i ≡ (get_or ls i d).number
number_of [] i d lt = absurd (omega arith)
number_of (l ∷ ls) zero d lt = refl
number_of (l ∷ ls) (suc i) d lt = number_of ls i d (omega arith)

pub length_states : (ls : List Log) → length (states_of ls) ≡ length ls
length_states [] = refl
length_states (l ∷ ls) = ap suc (length_states ls)

-- numbers don't fall
pub numbers_rise : (ls : List Log) → IsRising (states_of ls) → IsNonDecreasingBy (λ l. l.number) ls
numbers_rise ls rising i j d le lt = elim (cases_order i j) as (λ _. (get_or ls i d).number ≤ (get_or ls j d).number) [
  | inl same ↦ subst (λ k. (get_or ls i d).number ≤ (get_or ls k d).number) same (omega arith)
  | inr (inl low) ↦ let r = rise_at (states_of ls) i j rising low (omega (arith, length_states ls)) in omega (arith, number_of ls i d (omega arith), number_of ls j d lt)
  | inr (inr high) ↦ absurd (omega arith)
]

-- the place that a search by halves finds
pub place_found : (ls : List Log) (n i : ℕ) → i ≤ length ls → IsPartitionPoint (λ l. ltb l.number n ≡ true) (λ l. ltb l.number n ≡ false) ls i → IsPlace (states_of ls) n i
place_found ls n i le p = record {
  before = λ j lt. grind (arith, nat_tests, number_of ls j no_log (omega arith), p.0 j no_log (omega arith) lt);
  behind = λ j from lt. let within : j < length ls = omega (arith, length_states ls) in grind (arith, nat_tests, number_of ls j no_log within, p.1 j no_log from within);
}

place_rest : (e : ℕ × LogState) (es : Keyed) (n i : ℕ) → IsPlace (e ∷ es) n (suc i) → IsPlace es n i
place_rest e es n i p = record { before = λ j lt. p.before (suc j) (omega arith); behind = λ j le lt. p.behind (suc j) (omega arith) (omega arith) }

pub found_log : (ls : List Log) (n i : ℕ) (d : Log) → i < length ls → IsPlace (states_of ls) n i → (get_or ls i d).number ≡ n → look n (states_of ls) ≡ Some (state_of (get_or ls i d))
found_log [] n i d lt p here = absurd (omega arith)
found_log (l ∷ ls) n zero d lt p here = grind (arith, nat_tests, here)
found_log (l ∷ ls) n (suc i) d lt p here =
    let less : l.number < n = p.before 0 (omega arith) in
    grind (arith, nat_tests, less, found_log ls n i d (omega arith) (place_rest (l.number, state_of l) (states_of ls) n i p) here)

pub absent_log : (es : Keyed) (n i : ℕ) → IsRising es → IsPlace es n i → (i < length es → number_at es i ≡ n → ⊥) → look n es ≡ None
absent_log [] n i rising p other = refl
absent_log (e ∷ es) n zero rising p other =
    let more : n ≤ e.0 = p.behind 0 (omega arith) (omega arith) in
    let apart : e.0 ≡ n → ⊥ = other (omega arith) in
    grind (arith, nat_tests, more, apart, look-below n e.0 es more rising.0)
absent_log (e ∷ es) n (suc i) rising p other =
    let less : e.0 < n = p.before 0 (omega arith) in
    grind (arith, nat_tests, less, absent_log es n i rising.1 (place_rest e es n i p) (λ lt. other (omega arith)))

pub set_log : (ls : List Log) (n i : ℕ) (d m : Log) → i < length ls → IsPlace (states_of ls) n i → (get_or ls i d).number ≡ n → m.number ≡ n → states_of (set ls i m) ≡ replaced n (state_of m) (states_of ls)
set_log [] n i d m lt p here same = absurd (omega arith)
set_log (l ∷ ls) n zero d m lt p here same = grind (arith, nat_tests, here, same)
set_log (l ∷ ls) n (suc i) d m lt p here same =
    let less : l.number < n = p.before 0 (omega arith) in
    grind (arith, nat_tests, less, set_log ls n i d m (omega arith) (place_rest (l.number, state_of l) (states_of ls) n i p) here same)

pub set_numbers : (ls : List Log) (i : ℕ) (d m : Log) → i < length ls → (get_or ls i d).number ≡ m.number → keys_of (states_of (set ls i m)) ≡ keys_of (states_of ls)
set_numbers [] i d m lt same = absurd (omega arith)
set_numbers (l ∷ ls) zero d m lt same = ap (λ n. n ∷ keys_of (states_of ls)) (sym same)
set_numbers (l ∷ ls) (suc i) d m lt same = ap (λ ns. l.number ∷ ns) (set_numbers ls i d m (omega arith) same)

abbrev Lasts : List Log → Type 0
Lasts ls = AllByRecursion (λ log. IsLast log.last) ls

pub last_there : (ls : List Log) (i : ℕ) (d : Log) → i < length ls → Lasts ls → IsLast (get_or ls i d).last
last_there [] i d lt all = absurd (omega arith)
last_there (l ∷ ls) zero d lt all = all.0
last_there (l ∷ ls) (suc i) d lt all = last_there ls i d (omega arith) all.1

pub set_lasts : (ls : List Log) (i : ℕ) (m : Log) → Lasts ls → IsLast m.last → Lasts (set ls i m)
set_lasts [] i m all this = tt
set_lasts (l ∷ ls) zero m all this = (this, all.1)
set_lasts (l ∷ ls) (suc i) m all this = (all.0, set_lasts ls i m all.1 this)

greater_fits : (last : Option ℕ) (stripe : ℕ) → IsLast last → stripe ≤ last_value → IsLast (Some (later stripe last))
greater_fits None stripe this le = omega arith
greater_fits (Some l) stripe this le = omega arith

pub last_fits : (last : Option ℕ) (ps : List Piece) → IsLast last → AllByRecursion StripeFits ps → IsLast (last_of last ps)
last_fits last [] this all = this
last_fits last (p ∷ ps) this all = last_fits (Some (later p.stripe last)) ps (greater_fits last p.stripe this all.0) all.1

pub no_logs : AreLogs []
unfolding IsStrictlySortedBy
no_logs = record { rising = tt; last = tt }

above_less : (k : ℕ) (es : Keyed) → KeysAbove k es → AllByRecursion (λ j. nat_cmp k j ≡ Less) (keys_of es)
above_less k [] above = tt
above_less k (e ∷ es) above = (grind (arith, nat_tests, above.0), above_less k es above.1)

pub ordered_from : (es : Keyed) → IsRising es → IsStrictlySortedBy nat_cmp (keys_of es)
unfolding IsStrictlySortedBy
ordered_from [] rising = tt
ordered_from (e ∷ es) rising = (above_less e.0 es rising.0, ordered_from es rising.1)

above_more : (k : ℕ) (es : Keyed) (n : ℕ) (a : LogState) → KeysAbove k es → k < n → KeysAbove k (es ++ (n, a) ∷ [])
above_more k [] n a above lt = (lt, tt)
above_more k (e ∷ es) n a above lt = (above.0, above_more k es n a above.1 lt)

rising_more : (es : Keyed) (n : ℕ) (a : LogState) → IsRising es → AllByRecursion (λ k. k < n) (keys_of es) → IsRising (es ++ (n, a) ∷ [])
rising_more [] n a rising all = (tt, tt)
rising_more (e ∷ es) n a rising all = (above_more e.0 es n a rising.0 all.0, rising_more es n a rising.1 all.1)

pub states_more : (ls : List Log) (l : Log) → states_of (ls ++ l ∷ []) ≡ states_of ls ++ (l.number, state_of l) ∷ []
states_more [] l = refl
states_more (m ∷ ls) l = ap (λ es. (m.number, state_of m) ∷ es) (states_more ls l)

lasts_more : (ls : List Log) (l : Log) → Lasts ls → IsLast l.last → Lasts (ls ++ l ∷ [])
lasts_more [] l all this = (this, tt)
lasts_more (m ∷ ls) l all this = (all.0, lasts_more ls l all.1 this)

pub logs_more : (ls : List Log) (l : Log) → AreLogs ls → AllByRecursion (λ k. k < l.number) (keys_of (states_of ls)) → IsLast l.last → AreLogs (ls ++ l ∷ [])
logs_more ls l are all this = record {
  rising = subst (λ es. IsStrictlySortedBy nat_cmp (keys_of es)) (sym (states_more ls l))
      (ordered_from (states_of ls ++ (l.number, state_of l) ∷ []) (rising_more (states_of ls) l.number (state_of l) (IsRising-from_ordered (states_of ls) are.rising) all));
  last = lasts_more ls l are.last this;
}
