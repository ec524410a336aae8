-- The exclusive or of shares.
use Rattle.std.proofs.Common.{◌≡◌, ℕ, ◌+◌, ◌<◌, min, max, List, [], ◌++◌, length, map, take, get_or, sym, ap, ◌∙◌, inl, inr, bit_xor, arith}
use Rattle.std.specs.Prelude.{replicate}
use Rattle.std.specs.Int.Bits.{xor_zero_l, xor_assoc}
use Rattle.std.proofs.lemmas.Bool.{cases_lt}
use Rattle.std.proofs.lemmas.List.{map_more, get_or-map, get_or_read, get_or-take, get_or_past, get_or-replicate, length-replicate, length-take}
use Rattle.zb_holding.specs.Exclusive.{xor_at, list_at, greatest}
use Rattle.zb_holding.proofs.Exclusives.{xor_more, xor_past, xor_all, xor_others, greatest_push, le_greatest}
use Rattle.zb_parity.specs.Rebuilding.{Rebuilds, Restores}

-- one more length
pub greatest-take_more : (xs : List (List ℕ)) (i : ℕ) (x : List ℕ) → i < length xs → x ≡ get_or xs i x → greatest (map length (take (i + 1) xs)) ≡ max (greatest (map length (take i xs))) (length x)
greatest-take_more xs i x l e =
    ap greatest (map_more length xs i x l) ∙ greatest_push (map length (take i xs)) (length (get_or xs i x))
    ∙ ap (λ (z : List ℕ). max (greatest (map length (take i xs))) (length z)) (sym e)

-- one more share, cut at the end of what it is put into
pub xor_at-put_more : (xs : List (List ℕ)) (i : ℕ) (x old mid new : List ℕ) (n y : ℕ) → i < length xs → x ≡ get_or xs i x → y < n
    → get_or mid y 0 ≡ bit_xor (get_or old y 0) (xor_at (list_at xs) i y) → get_or new y 0 ≡ bit_xor (get_or mid y 0) (get_or (take (min (length x) n) x) y 0)
    → get_or new y 0 ≡ bit_xor (get_or old y 0) (xor_at (list_at xs) (i + 1) y)
xor_at-put_more xs i x old mid new n y l e below p q =
    let x_is : x ≡ list_at xs i = get_or_read xs i x l e [] in
    let cut : get_or (take (min (length x) n) x) y 0 ≡ get_or (list_at xs i) y 0 = elim (cases_lt y (length x)) [
      | inl here ↦ get_or-take (min (length x) n) x y 0 (omega arith) ∙ ap (λ z. get_or z y 0) x_is
      | inr past ↦ get_or_past (take (min (length x) n) x) y 0 (omega (arith, length-take (min (length x) n) x)) ∙ sym (get_or_past x y 0 past) ∙ ap (λ z. get_or z y 0) x_is
    ] in
    q ∙ ap (λ z. bit_xor z (get_or (take (min (length x) n) x) y 0)) p
    ∙ ap (bit_xor (bit_xor (get_or old y 0) (xor_at (list_at xs) i y))) cut
    ∙ xor_assoc (get_or old y 0) (xor_at (list_at xs) i y) (get_or (list_at xs i) y 0)
    ∙ ap (bit_xor (get_or old y 0)) (sym (xor_more (list_at xs) i y))

-- all shares, put into zeros
pub parity_at : (xs : List (List ℕ)) (old new : List ℕ) → old ≡ replicate (greatest (map length xs)) 0 → length new ≡ length old
    → ((y : ℕ) → y < length old → get_or new y 0 ≡ bit_xor (get_or old y 0) (xor_at (list_at xs) (length xs) y))
    → (y : ℕ) → get_or new y 0 ≡ xor_at (list_at xs) (length xs) y
parity_at xs old new zeros len h y =
    let n : length old ≡ greatest (map length xs) = ap length zeros ∙ length-replicate (greatest (map length xs)) 0 in
    elim (cases_lt y (length old)) [
      | inl here ↦
          h y here
          ∙ ap (λ z. bit_xor z (xor_at (list_at xs) (length xs) y)) (ap (λ z. get_or z y 0) zeros ∙ get_or-replicate (greatest (map length xs)) y 0 0 (omega arith))
          ∙ xor_zero_l (xor_at (list_at xs) (length xs) y)
      | inr past ↦
          get_or_past new y 0 (omega arith)
          ∙ sym (xor_past (list_at xs) (length xs) y (λ k l.
          omega (arith, get_or-map length xs k [] 0 l, le_greatest (map length xs) k)))
    ]

-- what is rebuilt is what was lost
pub restores : (parity : List ℕ) (others : List (List ℕ)) (share : List ℕ) → Rebuilds parity others share → Restores parity others share
restores parity others share rebuilds before after lost split made y l =
    rebuilds y l
    ∙ ap (λ (xs : List (List ℕ)). bit_xor (get_or parity y 0) (xor_all xs y)) split
    ∙ ap (λ z. bit_xor z (xor_all (before ++ after) y)) (made y)
    ∙ xor_others before after lost y
