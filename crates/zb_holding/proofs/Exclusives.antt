-- The exclusive or of lists of bytes.
use Rattle.std.proofs.Common.{◌≡◌, ◌≢◌, ℕ, zero, suc, ◌+◌, ◌<◌, ◌≤◌, max, Bool, cond, eqb, List, [], ◌∷◌, ◌++◌, length, get_or, add-one, refl, sym, ap, ◌∙◌, inl, inr, bit_xor, arith}
use Rattle.std.proofs.lemmas.Bool.{cases_eq, eq-eqb, ne_eqb}
use Rattle.std.specs.Int.Bits.{xor_self, xor_zero_l, xor_zero_r, xor_assoc}
use Rattle.std.proofs.lemmas.Nat.{xor_comm}
use Rattle.std.proofs.lemmas.List.{get_or_past}
use Rattle.zb_holding.specs.Exclusive.{xored, xor_at, list_at, greatest}

pub xor_twice : (a b : ℕ) → bit_xor a (bit_xor a b) ≡ b
xor_twice a b = sym (xor_assoc a a b) ∙ ap (λ z. bit_xor z b) (xor_self a) ∙ xor_zero_l b

pub xor_cancel_left : (a b c : ℕ) → bit_xor a b ≡ bit_xor a c → b ≡ c
xor_cancel_left a b c e = sym (xor_twice a b) ∙ ap (bit_xor a) e ∙ xor_twice a c

pub xor_cancel_right : (a b c : ℕ) → bit_xor b a ≡ bit_xor c a → b ≡ c
xor_cancel_right a b c e = xor_cancel_left a b c (xor_comm a b ∙ e ∙ xor_comm c a)

-- equal columns have one exclusive or
pub xor_same : (f g : ℕ → List ℕ) (n y : ℕ) → ((k : ℕ) → k < n → get_or (f k) y 0 ≡ get_or (g k) y 0) → xor_at f n y ≡ xor_at g n y
xor_same f g zero y h = refl
xor_same f g (suc n) y h =
    let a = xor_same f g n y (λ k l. h k (omega arith)) in
    let b = h n (omega arith) in
    ap (λ z. bit_xor z (get_or (f n) y 0)) a ∙ ap (bit_xor (xor_at g n y)) b

-- columns with one exclusive or that agree but at one place agree there too
pub xor_other : (f g : ℕ → List ℕ) (n j y : ℕ) → j < n → ((k : ℕ) → k < n → k ≢ j → get_or (f k) y 0 ≡ get_or (g k) y 0) → xor_at f n y ≡ xor_at g n y → get_or (f j) y 0 ≡ get_or (g j) y 0
xor_other f g zero j y l h e = absurd (omega arith)
xor_other f g (suc n) j y l h e =
    elim (cases_eq j n) [
      | inl is ↦
          let same : xor_at f n y ≡ xor_at g n y = xor_same f g n y (λ k m. h k (omega arith) (λ q. omega arith)) in
          let last : get_or (f n) y 0 ≡ get_or (g n) y 0 = xor_cancel_left (xor_at f n y) _ _ (e ∙ ap (λ z. bit_xor z (get_or (g n) y 0)) (sym same)) in
          ap (λ k. get_or (f k) y 0) is ∙ last ∙ ap (λ k. get_or (g k) y 0) (sym is)
      | inr isnt ↦
          let last : get_or (f n) y 0 ≡ get_or (g n) y 0 = h n (omega arith) (λ q. isnt (sym q)) in
          let rest : xor_at f n y ≡ xor_at g n y = xor_cancel_right (get_or (f n) y 0) _ _ (e ∙ ap (bit_xor (xor_at g n y)) (sym last)) in
          xor_other f g n j y (omega arith) (λ k m. h k (omega arith)) rest
    ]

pub xor_more : (f : ℕ → List ℕ) (n y : ℕ) → xor_at f (n + 1) y ≡ bit_xor (xor_at f n y) (get_or (f n) y 0)
xor_more f n y = ap (λ m. xor_at f m y) (add-one n)

-- past all lists there is nothing
pub xor_past : (f : ℕ → List ℕ) (n y : ℕ) → ((k : ℕ) → k < n → length (f k) ≤ y) → xor_at f n y ≡ 0
xor_past f zero y h = refl
xor_past f (suc n) y h =
    ap (λ z. bit_xor z (get_or (f n) y 0)) (xor_past f n y (λ k l. h k (omega arith)))
    ∙ xor_zero_l (get_or (f n) y 0) ∙ get_or_past (f n) y 0 (h n (omega arith))

pub greatest_push : (ns : List ℕ) (n : ℕ) → greatest (ns ++ n ∷ []) ≡ max (greatest ns) n
greatest_push [] n = omega arith
greatest_push (m ∷ ns) n = omega (arith, greatest_push ns n)

pub le_greatest : (ns : List ℕ) (k : ℕ) → get_or ns k 0 ≤ greatest ns
le_greatest [] k = omega arith
le_greatest (n ∷ ns) zero = omega arith
le_greatest (n ∷ ns) (suc k) = omega (arith, le_greatest ns k)

-- a bound of all is one of the greatest
pub greatest_le : (ns : List ℕ) (top : ℕ) → ((k : ℕ) → k < length ns → get_or ns k 0 ≤ top) → greatest ns ≤ top
greatest_le [] top h = omega arith
greatest_le (n ∷ ns) top h = omega (arith, h 0 (omega arith), greatest_le ns top (λ k l. h (suc k) (omega arith)))

-- one more list, put in
pub xor_step : (lists : ℕ → List ℕ) (k y a b c : ℕ) → b ≡ bit_xor a (xor_at lists k y) → c ≡ bit_xor b (get_or (lists k) y 0) → c ≡ bit_xor a (xor_at lists (k + 1) y)
xor_step lists k y a b c p q =
    q ∙ ap (λ z. bit_xor z (get_or (lists k) y 0)) p ∙ xor_assoc a (xor_at lists k y) (get_or (lists k) y 0) ∙ ap (bit_xor a) (sym (xor_more lists k y))

-- a number that is put in twice
turned : (a b c : ℕ) → bit_xor (bit_xor a b) (bit_xor c b) ≡ bit_xor a c
turned a b c =
    ap (bit_xor (bit_xor a b)) (xor_comm c b) ∙ xor_assoc a b (bit_xor b c) ∙ ap (bit_xor a) (xor_twice b c)

-- but one of some lists
abbrev pub without : (ℕ → List ℕ) → ℕ → ℕ → List ℕ
without lists j k = cond (eqb k j) [] (lists k)

without_past : (f : ℕ → List ℕ) (j n y : ℕ) → n ≤ j → xor_at (without f j) n y ≡ xor_at f n y
without_past f j zero y l = refl
without_past f j (suc n) y l =
    ap (λ z. bit_xor z (get_or (without f j n) y 0)) (without_past f j n y (omega arith))
    ∙ ap (λ (b : Bool). bit_xor (xor_at f n y) (get_or (cond b [] (f n)) y 0)) (ne_eqb n j (λ e. omega arith))

-- the exclusive or of all lists and of all but one is that one
pub xor_without : (f : ℕ → List ℕ) (j n y : ℕ) → j < n → bit_xor (xor_at f n y) (xor_at (without f j) n y) ≡ get_or (f j) y 0
xor_without f j zero y l = absurd (omega arith)
xor_without f j (suc n) y l =
    elim (cases_eq n j) [
      | inl is ↦
          ap (λ (b : Bool). bit_xor (bit_xor (xor_at f n y) (get_or (f n) y 0)) (bit_xor (xor_at (without f j) n y) (get_or (cond b [] (f n)) y 0))) (eq-eqb n j is)
          ∙ ap (λ z. bit_xor (bit_xor (xor_at f n y) (get_or (f n) y 0)) z) (xor_zero_r (xor_at (without f j) n y) ∙ without_past f j n y (omega arith))
          ∙ xor_comm (bit_xor (xor_at f n y) (get_or (f n) y 0)) (xor_at f n y)
          ∙ xor_twice (xor_at f n y) (get_or (f n) y 0)
          ∙ ap (λ (k : ℕ). get_or (f k) y 0) is
      | inr isnt ↦
          ap (λ (b : Bool). bit_xor (bit_xor (xor_at f n y) (get_or (f n) y 0)) (bit_xor (xor_at (without f j) n y) (get_or (cond b [] (f n)) y 0))) (ne_eqb n j isnt)
          ∙ turned (xor_at f n y) (get_or (f n) y 0) (xor_at (without f j) n y)
          ∙ xor_without f j n y (omega arith)
    ]

-- a number that was put in is taken out by putting it in once more
pub xor_back : (a b : ℕ) → bit_xor (bit_xor a b) b ≡ a
xor_back a b = xor_assoc a b b ∙ ap (bit_xor a) (xor_self b) ∙ xor_zero_r a

-- the first list, apart from those behind it
pub xor_first : (f : ℕ → List ℕ) (n y : ℕ) → xor_at f (suc n) y ≡ bit_xor (get_or (f 0) y 0) (xor_at (λ k. f (suc k)) n y)
xor_first f zero y = xor_comm 0 (get_or (f 0) y 0)
xor_first f (suc n) y =
    ap (λ z. bit_xor z (get_or (f (suc n)) y 0)) (xor_first f n y)
    ∙ xor_assoc (get_or (f 0) y 0) (xor_at (λ k. f (suc k)) n y) (get_or (f (suc n)) y 0)

-- the exclusive or of byte y of all lists
abbrev pub xor_all : List (List ℕ) → ℕ → ℕ
xor_all lists y = xor_at (list_at lists) (length lists) y

pub xor_all-append : (xs ys : List (List ℕ)) (y : ℕ) → xor_all (xs ++ ys) y ≡ bit_xor (xor_all xs y) (xor_all ys y)
xor_all-append [] ys y = sym (xor_zero_l (xor_all ys y))
xor_all-append (x ∷ xs) ys y =
    xor_first (list_at (x ∷ (xs ++ ys))) (length (xs ++ ys)) y
    ∙ ap (bit_xor (get_or x y 0)) (xor_all-append xs ys y)
    ∙ sym (xor_assoc (get_or x y 0) (xor_all xs y) (xor_all ys y))
    ∙ ap (λ z. bit_xor z (xor_all ys y)) (sym (xor_first (list_at (x ∷ xs)) (length xs) y))

-- one list is the exclusive or of all and of the others, wherever it stands among them
pub xor_others : (before after : List (List ℕ)) (lost : List ℕ) (y : ℕ)
    → bit_xor (xor_all (before ++ lost ∷ after) y) (xor_all (before ++ after) y) ≡ get_or lost y 0
xor_others before after lost y =
    let b = xor_all before y in
    let a = xor_all after y in
    let l = get_or lost y 0 in
    ap (λ z. bit_xor z (xor_all (before ++ after) y)) (xor_all-append before (lost ∷ after) y ∙ ap (bit_xor b) (xor_first (list_at (lost ∷ after)) (length after) y) ∙ xor_comm b (bit_xor l a) ∙ xor_assoc l a b)
    ∙ ap (bit_xor (bit_xor l (bit_xor a b))) (xor_all-append before after y ∙ xor_comm b a)
    ∙ xor_back l (bit_xor a b)

-- One list put into another.

pub length-xored : (xs ys : List ℕ) → length (xored xs ys) ≡ length xs
length-xored [] ys = refl
length-xored (x ∷ xs) [] = refl
length-xored (x ∷ xs) (y ∷ ys) = omega (arith, length-xored xs ys)

pub xored-nil : (xs : List ℕ) → xored xs [] ≡ xs
xored-nil [] = refl
xored-nil (x ∷ xs) = refl

-- a byte, within the list that the other is put into
pub get_or-xored : (xs ys : List ℕ) (k : ℕ) → k < length xs → get_or (xored xs ys) k 0 ≡ bit_xor (get_or xs k 0) (get_or ys k 0)
get_or-xored [] ys k l = absurd (omega arith)
get_or-xored (x ∷ xs) [] k l = sym (xor_zero_r (get_or (x ∷ xs) k 0))
get_or-xored (x ∷ xs) (y ∷ ys) zero l = refl
get_or-xored (x ∷ xs) (y ∷ ys) (suc k) l = get_or-xored xs ys k (omega arith)

-- any byte, where the list that is put in is no longer
pub get_or-xored_shorter : (xs ys : List ℕ) (k : ℕ) → length ys ≤ length xs → get_or (xored xs ys) k 0 ≡ bit_xor (get_or xs k 0) (get_or ys k 0)
get_or-xored_shorter [] [] k le = refl
get_or-xored_shorter [] (y ∷ ys) k le = absurd (omega arith)
get_or-xored_shorter (x ∷ xs) [] k le = sym (xor_zero_r (get_or (x ∷ xs) k 0))
get_or-xored_shorter (x ∷ xs) (y ∷ ys) zero le = refl
get_or-xored_shorter (x ∷ xs) (y ∷ ys) (suc k) le = get_or-xored_shorter xs ys k (omega arith)
