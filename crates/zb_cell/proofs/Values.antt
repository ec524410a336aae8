-- On which bytes the value of a cell depends.
use Rattle.std.proofs.Common.{◌≡◌, ◌≢◌, ◌⊎◌, inl, inr, ℕ, zero, suc, ◌+◌, ◌<◌, ◌≤◌, ◌==◌, nat_lt, Bool, true, false, ◌&&◌, if◌then◌else◌, List, [], ◌∷◌, length, slice_index, None, Some, refl, sym, ◌∙◌, ap, subst, arith}
use Rattle.std.proofs.lemmas.Bool.Decides.{nat_tests}
use Rattle.zb_cell.specs.Cell.{window, counts, following, pick, value_of}
use Rattle.zb_cell.specs.Work.{alone, IsFree}

pub window_ext : (f g : ℕ → ℕ) (at n : ℕ) → ((i : ℕ) → at ≤ i → i < at + n → f i ≡ g i) → window f at n ≡ window g at n
unfolding window
window_ext f g at zero same = refl
window_ext f g at (suc n) same = λ i. same at (omega arith) (omega arith) i ∷ window_ext f g (at + 1) n (λ k le lt. same k (omega arith) (omega arith)) i

window_from : (f : ℕ → ℕ) (xs : List ℕ) (at : ℕ) → ((i : ℕ) → i < length xs → f (at + i) ≡ slice_index xs i) → (n : ℕ) → n ≡ length xs → window f at n ≡ xs
unfolding window
window_from f [] at same zero is = refl
window_from f [] at same (suc n) is = absurd (omega arith)
window_from f (x ∷ xs) at same zero is = absurd (omega arith)
window_from f (x ∷ xs) at same (suc n) is =
    let first : f at ≡ x = ap f (omega arith) ∙ same 0 (omega arith) in
    let rest : window f (at + 1) n ≡ xs = window_from f xs (at + 1) (λ i lt. ap f (omega arith) ∙ same (suc i) (omega arith)) n (omega arith) in
    λ i. first i ∷ rest i

pub window_is : (f : ℕ → ℕ) (xs : List ℕ) (at n : ℕ) → n ≡ length xs → ((i : ℕ) → i < n → f (at + i) ≡ slice_index xs i) → window f at n ≡ xs
window_is f xs at n is same = window_from f xs at (λ i lt. same i (omega arith)) n is

pub counts_ext : (f g : ℕ → ℕ) (at : ℕ) → f at ≡ g at → f (at + 1) ≡ g (at + 1) → counts f at ≡ counts g at
counts_ext f g at gate turn = λ i. (gate i == 1) && nat_lt (turn i) 3

pub alone_ext : (f g : ℕ → ℕ) (at : ℕ) → ((i : ℕ) → at ≤ i → i < at + 64 → f i ≡ g i) → alone f at ≡ alone g at
alone_ext f g at same =
    let c : counts f at ≡ counts g at = counts_ext f g at (same at (omega arith) (omega arith)) (same (at + 1) (omega arith) (omega arith)) in
    let w : window f (at + 8) 40 ≡ window g (at + 8) 40 = window_ext f g (at + 8) 40 (λ i le lt. same i (omega arith) (omega arith)) in
    λ i. if c i then Some (w i) else None

pub value_ext : (f g : ℕ → ℕ) → ((i : ℕ) → i < 128 → f i ≡ g i) → value_of f ≡ value_of g
value_ext f g same =
    let c0 : counts f 0 ≡ counts g 0 = counts_ext f g 0 (same 0 (omega arith)) (same 1 (omega arith)) in
    let c1 : counts f 64 ≡ counts g 64 = counts_ext f g 64 (same 64 (omega arith)) (same 65 (omega arith)) in
    let w0 : window f 8 40 ≡ window g 8 40 = window_ext f g 8 40 (λ i le lt. same i (omega arith)) in
    let w1 : window f 72 40 ≡ window g 72 40 = window_ext f g 72 40 (λ i le lt. same i (omega arith)) in
    λ i. pick (c0 i) (same 1 (omega arith) i) (w0 i) (c1 i) (same 65 (omega arith) i) (w1 i)

-- the two copies of a cell
abbrev pub AreCopies : ℕ → ℕ → Type 0
AreCopies at other = ((at ≡ 0) × (other ≡ 64)) ⊎ ((at ≡ 64) × (other ≡ 0))

pick_second : (b : Bool) (s : ℕ) (x : List ℕ) (t : ℕ) (y : List ℕ) → pick false s x b t y ≡ (if b then Some y else None)
pick_second true s x t y = refl
pick_second false s x t y = refl

pick_first : (b : Bool) (s : ℕ) (x : List ℕ) (t : ℕ) (y : List ℕ) → pick b s x false t y ≡ (if b then Some x else None)
pick_first true s x t y = refl
pick_first false s x t y = refl

shut_counts : (f : ℕ → ℕ) (at : ℕ) → f at ≢ 1 → counts f at ≡ false
shut_counts f at shut = grind (arith, nat_tests)

pub closed_first : (f : ℕ → ℕ) → f 0 ≢ 1 → value_of f ≡ alone f 64
closed_first f shut = ap (λ (b : Bool). pick b (f 1) (window f 8 40) (counts f 64) (f 65) (window f 72 40)) (shut_counts f 0 shut) ∙ pick_second (counts f 64) (f 1) (window f 8 40) (f 65) (window f 72 40)

pub closed_second : (f : ℕ → ℕ) → f 64 ≢ 1 → value_of f ≡ alone f 0
closed_second f shut = ap (λ (b : Bool). pick (counts f 0) (f 1) (window f 8 40) b (f 65) (window f 72 40)) (shut_counts f 64 shut) ∙ pick_first (counts f 0) (f 1) (window f 8 40) (f 65) (window f 72 40)

pub open_counts : (f : ℕ → ℕ) (at : ℕ) → f at ≡ 1 → f (at + 1) < 3 → counts f at ≡ true
open_counts f at gate turn = grind (arith, nat_tests)

counts_turn : (f : ℕ → ℕ) (at : ℕ) → counts f at ≡ true → f (at + 1) < 3
counts_turn f at c = grind (arith, nat_tests)

pick_newer : (b : Bool) (s : ℕ) (x : List ℕ) (t : ℕ) (y : List ℕ) → (b ≡ true → t ≡ following s) → pick b s x true t y ≡ Some y
pick_newer false s x t y h = refl
pick_newer true s x t y h = let e : t ≡ following s = h refl in grind (arith, nat_tests)

not_both : (s t : ℕ) → s ≡ following t → t < 3 → t ≢ following s
not_both s t e lt = omega arith

pick_older : (b : Bool) (s : ℕ) (x : List ℕ) (t : ℕ) (y : List ℕ) → (b ≡ true → (s ≡ following t) × (t < 3)) → pick true s x b t y ≡ Some x
pick_older false s x t y h = refl
pick_older true s x t y h = let e : t ≢ following s = not_both s t (h refl).0 (h refl).1 in grind (arith, nat_tests)

pub opened_second : (f : ℕ → ℕ) → counts f 64 ≡ true → (counts f 0 ≡ true → f 65 ≡ following (f 1)) → value_of f ≡ Some (window f 72 40)
opened_second f c h = ap (λ (b : Bool). pick (counts f 0) (f 1) (window f 8 40) b (f 65) (window f 72 40)) c ∙ pick_newer (counts f 0) (f 1) (window f 8 40) (f 65) (window f 72 40) h

pub opened_first : (f : ℕ → ℕ) → counts f 0 ≡ true → (counts f 64 ≡ true → f 1 ≡ following (f 65)) → value_of f ≡ Some (window f 8 40)
opened_first f c h = ap (λ (b : Bool). pick b (f 1) (window f 8 40) (counts f 64) (f 65) (window f 72 40)) c ∙ pick_older (counts f 64) (f 1) (window f 8 40) (f 65) (window f 72 40) (λ d. (h d, counts_turn f 64 d))

-- where the free copy is shut, the value is that of the other
pub closed : (f : ℕ → ℕ) (at other : ℕ) → AreCopies at other → f at ≢ 1 → value_of f ≡ alone f other
closed f at other (inl is) shut = subst (λ (o : ℕ). value_of f ≡ alone f o) (sym is.1) (closed_first f (subst (λ (o : ℕ). f o ≢ 1) is.0 shut))
closed f at other (inr is) shut = subst (λ (o : ℕ). value_of f ≡ alone f o) (sym is.1) (closed_second f (subst (λ (o : ℕ). f o ≢ 1) is.0 shut))

pub opened : (f : ℕ → ℕ) (at other : ℕ) → AreCopies at other → counts f at ≡ true → (counts f other ≡ true → f (at + 1) ≡ following (f (other + 1))) → value_of f ≡ Some (window f (at + 8) 40)
opened f at other (inl is) c h = subst (λ (o : ℕ). value_of f ≡ Some (window f (o + 8) 40)) (sym is.0) (opened_first f (subst (λ (o : ℕ). counts f o ≡ true) is.0 c)
    (λ d. sym (ap (λ (o : ℕ). f (o + 1)) is.0) ∙ h (subst (λ (o : ℕ). counts f o ≡ true) (sym is.1) d) ∙ ap (λ (o : ℕ). following (f (o + 1))) is.1))
opened f at other (inr is) c h = subst (λ (o : ℕ). value_of f ≡ Some (window f (o + 8) 40)) (sym is.0) (opened_second f (subst (λ (o : ℕ). counts f o ≡ true) is.0 c)
    (λ d. sym (ap (λ (o : ℕ). f (o + 1)) is.0) ∙ h (subst (λ (o : ℕ). counts f o ≡ true) (sym is.1) d) ∙ ap (λ (o : ℕ). following (f (o + 1))) is.1))

-- where the two stand
pub record Apart (at other : ℕ) : Type 0 where
  pub low : at ≤ 64
  pub other_low : other ≤ 64
  pub apart : (at + 64 ≤ other) ⊎ (other + 64 ≤ at)

pub copies_apart : (at other : ℕ) → AreCopies at other → Apart at other
copies_apart at other (inl is) = record { low = omega (arith, is.0); other_low = omega (arith, is.1); apart = inl (omega (arith, is.0, is.1)) }
copies_apart at other (inr is) = record { low = omega (arith, is.0); other_low = omega (arith, is.1); apart = inr (omega (arith, is.0, is.1)) }

pub free_ext : (f g : ℕ → ℕ) (at other turn : ℕ) → AreCopies at other → ((i : ℕ) → i < 128 → f i ≡ g i) → IsFree f at other turn → IsFree g at other turn
free_ext f g at other turn two same free =
    let a = copies_apart at other two in
    let same_other : (i : ℕ) → other ≤ i → i < other + 64 → g i ≡ f i = λ i le lt. sym (same i (omega (arith, a.other_low))) in
    record {
      value = sym (value_ext f g same) ∙ free.value ∙ sym (alone_ext g f other same_other);
      follows = λ c. free.follows (sym (counts_ext g f other (same_other other (omega arith) (omega arith)) (same_other (other + 1) (omega arith) (omega arith))) ∙ c) ∙ ap following (sym (same_other (other + 1) (omega arith) (omega arith)));
      small = free.small;
    }
