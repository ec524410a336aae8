-- Held stripes stay in order.
use Rattle.std.proofs.Common.{◌≡◌, ℕ, Bool, true, false, List, [], ◌∷◌, inl, inr, arith}
use Rattle.std.specs.Prelude.{filter, if◌then◌else◌}
use Rattle.std.specs.List.{AllByRecursion}
use Rattle.std.specs.List.Sorted.{IsStrictlySortedBy}
use Rattle.std.specs.declared.cmp.Ordering.TheVariants.{Less}
use Rattle.std.proofs.lemmas.Bool.{cases_order, cond_both}
use Rattle.std.proofs.lemmas.Bool.Decides.{nat_tests}
use Rattle.zb_types.specs.declared.ids.LogId.{LogId}
use Rattle.zb_types.specs.declared.ids.Piece.{Piece}
use Rattle.zb_types.specs.declared.tables.HeldUse.{HeldUse}
use Rattle.zb_tables.specs.Tables.{is_of}
use Rattle.zb_tables.specs.Fold.{is_before, put_held, held_with, held_with_all}
use Rattle.zb_tables.specs.Checkpoint.{held_cmp}

abbrev H : Type 0
H = HeldUse

-- this one stands before each of them
abbrev pub AllAfter : H → List H → Type 0
AllAfter h hs = AllByRecursion (λ g. is_before h g ≡ true) hs

-- each stands before the later ones
abbrev pub Rising : List H → Type 0
Rising [] = Unit {0}
Rising (h ∷ hs) = AllAfter h hs × Rising hs

less_before : (h g : H) → held_cmp h g ≡ Less → is_before h g ≡ true
less_before h g e = elim (cases_order h.log.0 g.log.0) [
  | inl here ↦ grind (arith, nat_tests)
  | inr (inl low) ↦ grind (arith, nat_tests)
  | inr (inr high) ↦ grind (arith, nat_tests)
]

before_less : (h g : H) → is_before h g ≡ true → held_cmp h g ≡ Less
before_less h g e = elim (cases_order h.log.0 g.log.0) [
  | inl here ↦ grind (arith, nat_tests)
  | inr (inl low) ↦ grind (arith, nat_tests)
  | inr (inr high) ↦ grind (arith, nat_tests)
]

all_less : (h : H) (hs : List H) → AllByRecursion (λ g. held_cmp h g ≡ Less) hs → AllAfter h hs
all_less h [] all = tt
all_less h (g ∷ gs) all = (less_before h g all.0, all_less h gs all.1)

less_all : (h : H) (hs : List H) → AllAfter h hs → AllByRecursion (λ g. held_cmp h g ≡ Less) hs
less_all h [] all = tt
less_all h (g ∷ gs) all = (before_less h g all.0, less_all h gs all.1)

pub rising_from : (hs : List H) → IsStrictlySortedBy held_cmp hs → Rising hs
unfolding IsStrictlySortedBy
rising_from [] order = tt
rising_from (h ∷ hs) order = (all_less h hs order.0, rising_from hs order.1)

pub order_from : (hs : List H) → Rising hs → IsStrictlySortedBy held_cmp hs
unfolding IsStrictlySortedBy
order_from [] rising = tt
order_from (h ∷ hs) rising = (less_all h hs rising.0, order_from hs rising.1)

trans : (a b c : H) → is_before a b ≡ true → is_before b c ≡ true → is_before a c ≡ true
trans a b c p q = grind (arith, nat_tests)

after_trans : (a b : H) (hs : List H) → is_before a b ≡ true → AllAfter b hs → AllAfter a hs
after_trans a b [] p all = tt
after_trans a b (g ∷ gs) p all = (trans a b g p all.0, after_trans a b gs p all.1)

-- ---- order kept

after_put : (j h : H) (hs : List H) → AllAfter j hs → is_before j h ≡ true → AllAfter j (put_held h hs)
after_put j h [] all this = (this, tt)
after_put j h (g ∷ gs) all this =
    cond_both (is_of h.log h.stripe g) (h ∷ gs) (if is_before h g then h ∷ g ∷ gs else g ∷ put_held h gs) (AllAfter j) (λ t. (this, all.1))
    (λ f. cond_both (is_before h g) (h ∷ g ∷ gs) (g ∷ put_held h gs) (AllAfter j) (λ t. (this, all)) (λ t. (all.0, after_put j h gs all.1 this)))

same_after : (g h : H) (hs : List H) → is_of h.log h.stripe g ≡ true → AllAfter g hs → AllAfter h hs
same_after g h [] e all = tt
same_after g h (k ∷ ks) e all = (grind (arith, nat_tests, all.0), same_after g h ks e all.1)

not_before_of : (g h : H) → is_of h.log h.stripe g ≡ false → is_before h g ≡ false → is_before g h ≡ true
not_before_of g h p q = grind (arith, nat_tests)

pub rising_put : (h : H) (hs : List H) → Rising hs → Rising (put_held h hs)
rising_put h [] rising = (tt, tt)
rising_put h (g ∷ gs) rising =
    cond_both (is_of h.log h.stripe g) (h ∷ gs) (if is_before h g then h ∷ g ∷ gs else g ∷ put_held h gs) Rising (λ t. (same_after g h gs t rising.0, rising.1))
    (λ f. cond_both (is_before h g) (h ∷ g ∷ gs) (g ∷ put_held h gs) Rising
    (λ t. ((t, after_trans h g gs t rising.0), rising))
    (λ t. (after_put g h gs rising.0 (not_before_of g h f t), rising_put h gs rising.1)))

after_filter : (test : H → Bool) (j : H) (hs : List H) → AllAfter j hs → AllAfter j (filter test hs)
after_filter test j [] all = tt
after_filter test j (g ∷ gs) all = cond_both (test g) (g ∷ filter test gs) (filter test gs) (AllAfter j) (λ t. (all.0, after_filter test j gs all.1)) (λ f. after_filter test j gs all.1)

pub rising_filter : (test : H → Bool) (hs : List H) → Rising hs → Rising (filter test hs)
rising_filter test [] rising = tt
rising_filter test (g ∷ gs) rising =
    cond_both (test g) (g ∷ filter test gs) (filter test gs) Rising (λ t. (after_filter test g gs rising.0, rising_filter test gs rising.1)) (λ f. rising_filter test gs rising.1)

pub with_rising : (log : LogId) (born : ℕ) (ps : List Piece) (hs : List H) → Rising hs → Rising (held_with_all log born ps hs)
with_rising log born [] hs rising = rising
with_rising log born (p ∷ ps) hs rising = with_rising log born ps (held_with log born p hs) (rising_put _ hs rising)
