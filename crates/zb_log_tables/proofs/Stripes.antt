-- Held stripes in order: what is found, put and dropped.
use Rattle.std.proofs.Common.{◌≡◌, ℕ, zero, suc, ◌+◌, ◌<◌, ◌≤◌, max, Bool, true, false, List, [], ◌∷◌, ◌++◌, length, get_or, set, take, drop, Some, None, refl, sym, ap, ◌∙◌, subst, inl, inr, arith}
use Rattle.std.specs.Prelude.{not, filter, if◌then◌else◌, ◌==◌, ◌||◌}
use Rattle.std.specs.List.{AllByRecursion, insert, list_any}
use Rattle.std.specs.List.Sorted.{IsStrictlySortedBy}
use Rattle.std.specs.declared.cmp.Ordering.TheVariants.{Less}
use Rattle.std.proofs.lemmas.Bool.{cases_order, cases_Bool, cond_both}
use Rattle.std.proofs.lemmas.Option.{none-some}
use Rattle.std.proofs.lemmas.Bool.Decides.{nat_tests}
use Rattle.zb_types.specs.declared.ids.LogId.{LogId}
use Rattle.zb_types.specs.declared.tables.HeldUse.{HeldUse}
use Rattle.zb_types.specs.declared.ids.Piece.{Piece}
use Rattle.std.specs.Prelude.{Result, Ok, Err, OnErr, is_ok}
use Rattle.zb_tables.specs.Tables.{is_of, held_at, end_at, end_of}
use Rattle.zb_tables.specs.Fold.{is_before, put_held, held_with, born_of, retired}
use Rattle.zb_tables.specs.Checkpoint.{held_cmp}
use Rattle.zb_log_tables.specs.HeldStripes.{key_of, IsInOrder, IsPlace}

abbrev H : Type 0
H = HeldUse

abbrev pub AllAfter : H → List H → Type 0
AllAfter h hs = AllByRecursion (λ g. is_before h g ≡ true) hs

abbrev pub Rising : List H → Type 0
Rising [] = Unit {0}
Rising (h ∷ hs) = AllAfter h hs × Rising hs

less_before : (h g : H) → held_cmp h g ≡ Less → is_before h g ≡ true
less_before h g e = elim (cases_order h.log.0 g.log.0) [
  | inl here ↦ grind (arith, nat_tests)
  | inr (inl low) ↦ grind (arith, nat_tests)
  | inr (inr high) ↦ grind (arith, nat_tests)
]

before_less : (h g : H) → is_before h g ≡ true → held_cmp h g ≡ Less
before_less h g e = elim (cases_order h.log.0 g.log.0) [
  | inl here ↦ grind (arith, nat_tests)
  | inr (inl low) ↦ grind (arith, nat_tests)
  | inr (inr high) ↦ grind (arith, nat_tests)
]

all_less : (h : H) (hs : List H) → AllByRecursion (λ g. held_cmp h g ≡ Less) hs → AllAfter h hs
all_less h [] all = tt
all_less h (g ∷ gs) all = (less_before h g all.0, all_less h gs all.1)

less_all : (h : H) (hs : List H) → AllAfter h hs → AllByRecursion (λ g. held_cmp h g ≡ Less) hs
less_all h [] all = tt
less_all h (g ∷ gs) all = (before_less h g all.0, less_all h gs all.1)

pub rising_from : (hs : List H) → IsInOrder hs → Rising hs
unfolding IsStrictlySortedBy
rising_from [] order = tt
rising_from (h ∷ hs) order = (all_less h hs order.0, rising_from hs order.1)

pub order_from : (hs : List H) → Rising hs → IsInOrder hs
unfolding IsStrictlySortedBy
order_from [] rising = tt
order_from (h ∷ hs) rising = (less_all h hs rising.0, order_from hs rising.1)

trans : (a b c : H) → is_before a b ≡ true → is_before b c ≡ true → is_before a c ≡ true
trans a b c p q = grind (arith, nat_tests)

after_trans : (a b : H) (hs : List H) → is_before a b ≡ true → AllAfter b hs → AllAfter a hs
after_trans a b [] p all = tt
after_trans a b (g ∷ gs) p all = (trans a b g p all.0, after_trans a b gs p all.1)

after_at : (h : H) (hs : List H) (j : ℕ) (d : H) → AllAfter h hs → j < length hs → is_before h (get_or hs j d) ≡ true
after_at h [] j d all lt = absurd (omega arith)
after_at h (g ∷ gs) zero d all lt = all.0
after_at h (g ∷ gs) (suc j) d all lt = after_at h gs j d all.1 (omega arith)

pub rise_at : (hs : List H) (i j : ℕ) (d : H) → Rising hs → i < j → j < length hs → is_before (get_or hs i d) (get_or hs j d) ≡ true
rise_at [] i j d rising lt within = absurd (omega arith)
rise_at (h ∷ hs) i zero d rising lt within = absurd (omega arith)
rise_at (h ∷ hs) zero (suc j) d rising lt within = after_at h hs j d rising.0 (omega arith)
rise_at (h ∷ hs) (suc i) (suc j) d rising lt within = rise_at hs i j d rising.1 (omega arith) (omega arith)

-- what is before a stripe is so up to a place
pub parts : (hs : List H) (key : H) → Rising hs → (i j : ℕ) (d : H) → i ≤ j → j < length hs → is_before (get_or hs j d) key ≡ true → is_before (get_or hs i d) key ≡ true
parts hs key rising i j d le within p = elim (cases_order i j) [
  | inl same ↦ subst (λ k. is_before (get_or hs k d) key ≡ true) (sym same) p
  | inr (inl low) ↦ trans (get_or hs i d) (get_or hs j d) key (rise_at hs i j d rising low within) p
  | inr (inr high) ↦ absurd (omega arith)
]

-- ---- a place

pub record Place (hs : List H) (key : H) (i : ℕ) : Type 0 where
  pub before : (j : ℕ) (d : H) → j < i → is_before (get_or hs j d) key ≡ true
  pub behind : (j : ℕ) (d : H) → i ≤ j → j < length hs → is_before (get_or hs j d) key ≡ false

place_rest : (g : H) (gs : List H) (key : H) (i : ℕ) → Place (g ∷ gs) key (suc i) → Place gs key i
place_rest g gs key i p = record { before = λ j d lt. p.before (suc j) d (omega arith); behind = λ j d le lt. p.behind (suc j) d (omega arith) (omega arith) }

before_other : (g h : H) → is_before g h ≡ true → is_of h.log h.stripe g ≡ false
before_other g h p = grind (arith, nat_tests)

before_not : (g h : H) → is_before g h ≡ true → is_before h g ≡ false
before_not g h p = grind (arith, nat_tests)

else_after : (g h : H) → is_before g h ≡ false → is_of h.log h.stripe g ≡ false → is_before h g ≡ true
else_after g h p q = grind (arith, nat_tests)

after_other : (g h : H) → is_before h g ≡ true → is_of h.log h.stripe g ≡ false
after_other g h p = grind (arith, nat_tests)

pub insert_puts : (h : H) (hs : List H) (i : ℕ) → i ≤ length hs → Place hs h i → ((d : H) → i < length hs → is_of h.log h.stripe (get_or hs i d) ≡ false) → insert hs i h ≡ put_held h hs
insert_puts h [] zero le p other = refl
insert_puts h [] (suc i) le p other = absurd (omega arith)
insert_puts h (g ∷ gs) zero le p other =
    let no = other g (omega arith) in
    let after = else_after g h (p.behind 0 g (omega arith) (omega arith)) no in
    sym (ap (λ b. if b then h ∷ gs else (if is_before h g then h ∷ g ∷ gs else g ∷ put_held h gs)) no ∙ ap (λ b. if b then h ∷ g ∷ gs else g ∷ put_held h gs) after)
insert_puts h (g ∷ gs) (suc i) le p other =
    let first = p.before 0 g (omega arith) in
    let rest = insert_puts h gs i (omega arith) (place_rest g gs h i p) (λ d lt. other d (omega arith)) in
    ap (λ ys. g ∷ ys) rest
    ∙ sym (ap (λ b. if b then h ∷ gs else (if is_before h g then h ∷ g ∷ gs else g ∷ put_held h gs)) (before_other g h first) ∙ ap (λ b. if b then h ∷ g ∷ gs else g ∷ put_held h gs) (before_not g h first))

pub set_puts : (h : H) (hs : List H) (i : ℕ) (d : H) → i < length hs → Place hs h i → is_of h.log h.stripe (get_or hs i d) ≡ true → set hs i h ≡ put_held h hs
set_puts h [] i d lt p here = absurd (omega arith)
set_puts h (g ∷ gs) zero d lt p here = sym (ap (λ b. if b then h ∷ gs else (if is_before h g then h ∷ g ∷ gs else g ∷ put_held h gs)) here)
set_puts h (g ∷ gs) (suc i) d lt p here =
    let first = p.before 0 g (omega arith) in
    let rest = set_puts h gs i d (omega arith) (place_rest g gs h i p) here in
    ap (λ ys. g ∷ ys) rest
    ∙ sym (ap (λ b. if b then h ∷ gs else (if is_before h g then h ∷ g ∷ gs else g ∷ put_held h gs)) (before_other g h first) ∙ ap (λ b. if b then h ∷ g ∷ gs else g ∷ put_held h gs) (before_not g h first))

pub found_there : (log : LogId) (stripe : ℕ) (hs : List H) (i : ℕ) (d : H) → i < length hs → Place hs (key_of log stripe) i → is_of log stripe (get_or hs i d) ≡ true → held_at log stripe hs ≡ Some (get_or hs i d)
found_there log stripe [] i d lt p here = absurd (omega arith)
found_there log stripe (g ∷ gs) zero d lt p here = ap (λ b. if b then Some g else held_at log stripe gs) here
found_there log stripe (g ∷ gs) (suc i) d lt p here =
    ap (λ b. if b then Some g else held_at log stripe gs) (before_other g (key_of log stripe) (p.before 0 g (omega arith)))
    ∙ found_there log stripe gs i d (omega arith) (place_rest g gs (key_of log stripe) i p) here

none_after : (log : LogId) (stripe : ℕ) (hs : List H) → AllAfter (key_of log stripe) hs → held_at log stripe hs ≡ None
none_after log stripe [] all = refl
none_after log stripe (g ∷ gs) all = ap (λ b. if b then Some g else held_at log stripe gs) (after_other g (key_of log stripe) all.0) ∙ none_after log stripe gs all.1

pub absent_there : (log : LogId) (stripe : ℕ) (hs : List H) (i : ℕ) → Rising hs → Place hs (key_of log stripe) i → ((d : H) → i < length hs → is_of log stripe (get_or hs i d) ≡ false) → held_at log stripe hs ≡ None
absent_there log stripe [] i rising p other = refl
absent_there log stripe (g ∷ gs) zero rising p other =
    let after = else_after g (key_of log stripe) (p.behind 0 g (omega arith) (omega arith)) (other g (omega arith)) in
    none_after log stripe (g ∷ gs) (after, after_trans (key_of log stripe) g gs after rising.0)
absent_there log stripe (g ∷ gs) (suc i) rising p other =
    ap (λ b. if b then Some g else held_at log stripe gs) (before_other g (key_of log stripe) (p.before 0 g (omega arith)))
    ∙ absent_there log stripe gs i rising.1 (place_rest g gs (key_of log stripe) i p) (λ d lt. other d (omega arith))

-- ---- order kept

after_put : (j h : H) (hs : List H) → AllAfter j hs → is_before j h ≡ true → AllAfter j (put_held h hs)
after_put j h [] all this = (this, tt)
after_put j h (g ∷ gs) all this =
    cond_both (is_of h.log h.stripe g) (h ∷ gs) (if is_before h g then h ∷ g ∷ gs else g ∷ put_held h gs) (AllAfter j) (λ t. (this, all.1))
    (λ f. cond_both (is_before h g) (h ∷ g ∷ gs) (g ∷ put_held h gs) (AllAfter j) (λ t. (this, all)) (λ t. (all.0, after_put j h gs all.1 this)))

same_after : (g h : H) (hs : List H) → is_of h.log h.stripe g ≡ true → AllAfter g hs → AllAfter h hs
same_after g h [] e all = tt
same_after g h (k ∷ ks) e all = (grind (arith, nat_tests, all.0), same_after g h ks e all.1)

not_before_of : (g h : H) → is_of h.log h.stripe g ≡ false → is_before h g ≡ false → is_before g h ≡ true
not_before_of g h p q = grind (arith, nat_tests)

pub rising_put : (h : H) (hs : List H) → Rising hs → Rising (put_held h hs)
rising_put h [] rising = (tt, tt)
rising_put h (g ∷ gs) rising =
    cond_both (is_of h.log h.stripe g) (h ∷ gs) (if is_before h g then h ∷ g ∷ gs else g ∷ put_held h gs) Rising (λ t. (same_after g h gs t rising.0, rising.1))
    (λ f. cond_both (is_before h g) (h ∷ g ∷ gs) (g ∷ put_held h gs) Rising
    (λ t. ((t, after_trans h g gs t rising.0), rising))
    (λ t. (after_put g h gs rising.0 (not_before_of g h f t), rising_put h gs rising.1)))

after_filter : (test : H → Bool) (j : H) (hs : List H) → AllAfter j hs → AllAfter j (filter test hs)
after_filter test j [] all = tt
after_filter test j (g ∷ gs) all = cond_both (test g) (g ∷ filter test gs) (filter test gs) (AllAfter j) (λ t. (all.0, after_filter test j gs all.1)) (λ f. after_filter test j gs all.1)

pub rising_filter : (test : H → Bool) (hs : List H) → Rising hs → Rising (filter test hs)
rising_filter test [] rising = tt
rising_filter test (g ∷ gs) rising =
    cond_both (test g) (g ∷ filter test gs) (filter test gs) Rising (λ t. (after_filter test g gs rising.0, rising_filter test gs rising.1)) (λ f. rising_filter test gs rising.1)

-- ---- a search by halves

-- ---- a stripe that is dropped

none_of : (log : LogId) (stripe : ℕ) (g : H) (hs : List H) → is_of log stripe g ≡ true → AllAfter g hs → retired log stripe hs ≡ hs
none_of log stripe g [] e all = refl
none_of log stripe g (k ∷ ks) e all =
    let other : is_of log stripe k ≡ false = grind (arith, nat_tests, all.0) in
    ap (λ b. if not b then k ∷ retired log stripe ks else retired log stripe ks) other ∙ ap (λ ys. k ∷ ys) (none_of log stripe g ks e all.1)

pub remove_retires : (log : LogId) (stripe : ℕ) (hs : List H) (i : ℕ) (d : H) → Rising hs → i < length hs → Place hs (key_of log stripe) i → is_of log stripe (get_or hs i d) ≡ true
    → take i hs ++ drop (suc i) hs ≡ retired log stripe hs
remove_retires log stripe [] i d rising lt p here = absurd (omega arith)
remove_retires log stripe (g ∷ gs) zero d rising lt p here =
    sym (ap (λ b. if not b then g ∷ retired log stripe gs else retired log stripe gs) here ∙ none_of log stripe g gs here rising.0)
remove_retires log stripe (g ∷ gs) (suc i) d rising lt p here =
    let other = before_other g (key_of log stripe) (p.before 0 g (omega arith)) in
    ap (λ ys. g ∷ ys) (remove_retires log stripe gs i d rising.1 (omega arith) (place_rest g gs (key_of log stripe) i p) here)
    ∙ sym (ap (λ b. if not b then g ∷ retired log stripe gs else retired log stripe gs) other)

pub place_of : (hs : List H) (log : LogId) (stripe i : ℕ) → IsPlace hs log stripe i → Place hs (key_of log stripe) i
place_of hs log stripe i p = record { before = λ j d lt. p.0 j d (omega arith) lt; behind = λ j d le lt. p.1 j d le lt }

-- no stripe is at the place
pub not_at : (log : LogId) (stripe : ℕ) (hs : List H) (i : ℕ) (b : Bool) → ((d : H) → i < length hs → b ≡ is_of log stripe (get_or hs i d)) → b ≡ false → (d : H) → i < length hs → is_of log stripe (get_or hs i d) ≡ false
not_at log stripe hs i b is e d lt = sym (is d lt) ∙ e

pub absent_retired : (log : LogId) (stripe : ℕ) (hs : List H) → held_at log stripe hs ≡ None → retired log stripe hs ≡ hs
absent_retired log stripe [] none = refl
absent_retired log stripe (g ∷ gs) none = elim (cases_Bool (is_of log stripe g)) as (λ _. retired log stripe (g ∷ gs) ≡ g ∷ gs) [
  | inl t ↦ absurd (none-some g (sym none ∙ ap (λ b. if b then Some g else held_at log stripe gs) t))
  | inr f ↦
      ap (λ b. if not b then g ∷ retired log stripe gs else retired log stripe gs) f
      ∙ ap (λ ys. g ∷ ys) (absent_retired log stripe gs (sym (ap (λ b. if b then Some g else held_at log stripe gs) f) ∙ none))
]

-- ---- an end that is raised

as_key : (hs : List H) (log : LogId) (stripe end born i : ℕ) → Place hs (key_of log stripe) i → Place hs (record { log = log; stripe = stripe; end = end; born = born }) i
as_key hs log stripe end born i p = record { before = λ j d lt. p.before j d lt; behind = λ j d le lt. p.behind j d le lt }

pub raised_there : (log : LogId) (born : ℕ) (p : Piece) (hs : List H) (i e : ℕ) (held : H) → i < length hs → Place hs (key_of log p.stripe) i → get_or hs i held ≡ held → is_of log p.stripe held ≡ true
    → e ≡ max held.end (p.offset + p.len) → set hs i (record { log = log; stripe = p.stripe; end = e; born = held.born }) ≡ held_with log born p hs
raised_there log born p hs i e held lt place at here e_is =
    let found : held_at log p.stripe hs ≡ Some held = found_there log p.stripe hs i held lt place (ap (is_of log p.stripe) at ∙ here) ∙ ap Some at in
    let end_is : e ≡ max (end_at hs log p.stripe) (p.offset + p.len) = e_is ∙ ap (λ o. max (end_of o) (p.offset + p.len)) (sym found) in
    let born_is : held.born ≡ born_of born (held_at log p.stripe hs) = ap (born_of born) (sym found) in
    set_puts (record { log = log; stripe = p.stripe; end = e; born = held.born }) hs i held lt (as_key hs log p.stripe e held.born i place) (ap (is_of log p.stripe) at ∙ here)
    ∙ (λ k. put_held (record { log = log; stripe = p.stripe; end = end_is k; born = born_is k }) hs)

pub raised_new : (log : LogId) (born : ℕ) (p : Piece) (hs : List H) (i : ℕ) → i ≤ length hs → Rising hs → Place hs (key_of log p.stripe) i → ((d : H) → i < length hs → is_of log p.stripe (get_or hs i d) ≡ false)
    → insert hs i (record { log = log; stripe = p.stripe; end = p.offset + p.len; born = born }) ≡ held_with log born p hs
raised_new log born p hs i le rising place other =
    let none = absent_there log p.stripe hs i rising place other in
    let end_is : p.offset + p.len ≡ max (end_at hs log p.stripe) (p.offset + p.len) = (let z : max 0 (p.offset + p.len) ≡ p.offset + p.len = omega arith in sym z) ∙ ap (λ o. max (end_of o) (p.offset + p.len)) (sym none) in
    let born_is : born ≡ born_of born (held_at log p.stripe hs) = ap (born_of born) (sym none) in
    insert_puts (record { log = log; stripe = p.stripe; end = p.offset + p.len; born = born }) hs i le (as_key hs log p.stripe (p.offset + p.len) born i place) other
    ∙ (λ k. put_held (record { log = log; stripe = p.stripe; end = end_is k; born = born_is k }) hs)

pub insert_ok : {T E : Type 0} (r : Result T E) (n : ℕ) → OnErr r (n ≡ 0) → 1 ≤ n → is_ok r ≡ true
insert_ok (Ok x) n full le = refl
insert_ok (Err e) n full le = absurd (omega (arith, full))

-- ---- whether a log has a stripe

abbrev has : ℕ → List H → Bool
has log hs = list_any (λ h. h.log.0 == log) hs

log_before : (log : ℕ) (g : H) → is_before g (key_of (record { 0 = log }) 0) ≡ true → (g.log.0 == log) ≡ false
log_before log g e = grind (arith, nat_tests)

log_behind : (log : ℕ) (g : H) → is_before g (key_of (record { 0 = log }) 0) ≡ false → (g.log.0 == log) ≡ false → log < g.log.0
log_behind log g e f = grind (arith, nat_tests)

log_after : (log : ℕ) (g h : H) → log < g.log.0 → is_before g h ≡ true → (h.log.0 == log) ≡ false
log_after log g h l e = grind (arith, nat_tests)

no_more : (log : ℕ) (g : H) (gs : List H) → log < g.log.0 → AllAfter g gs → has log gs ≡ false
no_more log g [] l all = refl
no_more log g (h ∷ hs) l all = ap (λ (b : Bool). b || has log hs) (log_after log g h l all.0) ∙ no_more log g hs l all.1

-- the stripe at the place tells it
pub has_at : (log : ℕ) (hs : List H) (i : ℕ) (d : H) → Rising hs → Place hs (key_of (record { 0 = log }) 0) i → i < length hs → ((get_or hs i d).log.0 == log) ≡ has log hs
has_at log [] i d r p l = absurd (omega arith)
has_at log (g ∷ gs) zero d r p l = elim (cases_Bool (g.log.0 == log)) as (λ _. (g.log.0 == log) ≡ ((g.log.0 == log) || has log gs)) [
  | inl t ↦ t ∙ sym (ap (λ (b : Bool). b || has log gs) t)
  | inr f ↦ f ∙ sym (ap (λ (b : Bool). b || has log gs) f ∙ no_more log g gs (log_behind log g (p.behind 0 d (omega arith) (omega arith)) f) r.0)
]
has_at log (g ∷ gs) (suc i) d r p l =
    has_at log gs i d r.1 (place_rest g gs (key_of (record { 0 = log }) 0) i p) (omega arith)
    ∙ sym (ap (λ (b : Bool). b || has log gs) (log_before log g (p.before 0 d (omega arith))))

-- no stripe at the place: the log has none
pub has_none : (log : ℕ) (hs : List H) (i : ℕ) → Place hs (key_of (record { 0 = log }) 0) i → length hs ≤ i → has log hs ≡ false
has_none log [] i p l = refl
has_none log (g ∷ gs) zero p l = absurd (omega arith)
has_none log (g ∷ gs) (suc i) p l =
    ap (λ (b : Bool). b || has log gs) (log_before log g (p.before 0 g (omega arith)))
    ∙ has_none log gs i (place_rest g gs (key_of (record { 0 = log }) 0) i p) (omega arith)
