-- Shares of a stripe's bytes, and ranges of them.
use Rattle.std.proofs.Common.{◌≡◌, ℕ, ◌+◌, ◌-◌, ◌*◌, ◌<◌, ◌≤◌, min, List, ◌++◌, length, take, drop, get_or, sym, ap, ◌∙◌, arith}
use Rattle.std.proofs.lemmas.List.{length-take, length-drop, get_or-take, get_or-drop, ext_get_or, take-take, take-append-drop, drop-take, drop-drop, take_min, drop_min}
use Rattle.zb_holding.specs.Placing.{share_length, share_of}

pub length-share_of : (f : ℕ) (bytes : List ℕ) (k : ℕ) → length (share_of f bytes k) ≡ share_length f (length bytes) k
length-share_of f bytes k = length-take f (drop (k * f) bytes) ∙ ap (min f) (length-drop (k * f) bytes)

-- byte y of share k
pub get_or-share_of : (f : ℕ) (bytes : List ℕ) (k y : ℕ) → y < f → get_or (share_of f bytes k) y 0 ≡ get_or bytes (k * f + y) 0
get_or-share_of f bytes k y l = get_or-take f (drop (k * f) bytes) y 0 l ∙ get_or-drop (k * f) bytes y 0

-- a share of the first m bytes is the beginning of the share of all
pub share_of-take : (f : ℕ) (bytes : List ℕ) (m k : ℕ) → share_of f (take m bytes) k ≡ take (share_length f m k) (share_of f bytes k)
share_of-take f bytes m k =
    let p = k * f in
    let l1 = length-share_of f (take m bytes) k in
    let l2 = length-take m bytes in
    let l3 = length-take (share_length f m k) (share_of f bytes k) in
    let l4 = length-share_of f bytes k in
    ext_get_or 0 (share_of f (take m bytes) k) (take (share_length f m k) (share_of f bytes k)) (omega arith) (λ i l.
    get_or-share_of f (take m bytes) k i (omega arith)
    ∙ get_or-take m bytes (p + i) 0 (omega arith)
    ∙ sym (get_or-take (share_length f m k) (share_of f bytes k) i 0 (omega arith)
    ∙ get_or-share_of f bytes k i (omega arith)))

-- a share as a slice of the stripe's bytes
pub share_slice : (f : ℕ) (bytes : List ℕ) (k : ℕ) → take (share_length f (length bytes) k) (drop (min (k * f) (length bytes)) bytes) ≡ share_of f bytes k
share_slice f bytes k =
    ap (take (share_length f (length bytes) k)) (drop_min (k * f) bytes)
    ∙ ap (λ m. take (min f m) (drop (k * f) bytes)) (sym (length-drop (k * f) bytes))
    ∙ take_min f (drop (k * f) bytes)

-- a range of a share is that range of the stripe
pub share_range : (f : ℕ) (bytes : List ℕ) (k place len : ℕ) → place + len ≤ f → take len (drop place (share_of f bytes k)) ≡ take len (drop (k * f + place) bytes)
share_range f bytes k place len le =
    let d = drop (k * f) bytes in
    let fits : f ≡ place + (f - place) = omega arith in
    ap (take len) (ap (λ (j : ℕ). drop place (take j d)) fits ∙ drop-take place (f - place) d)
    ∙ take-take len (f - place) (drop place d) (omega arith)
    ∙ ap (take len) (drop-drop place (k * f) bytes)

-- a range and the one right behind it
pub range_join : (xs : List ℕ) (o a b : ℕ) → take a (drop o xs) ++ take b (drop (o + a) xs) ≡ take (a + b) (drop o xs)
range_join xs o a b =
    let d = drop o xs in
    ap (λ (z : List ℕ). z ++ take b (drop (o + a) xs)) (sym (take-take a (a + b) d (omega arith)))
    ∙ ap (λ (z : List ℕ). take a (take (a + b) d) ++ z) (ap (take b) (sym (drop-drop a o xs)) ∙ sym (drop-take a b d))
    ∙ take-append-drop a (take (a + b) d)
