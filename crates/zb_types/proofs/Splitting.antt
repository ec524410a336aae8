-- Going on from one byte to the next in a text of names.
use Rattle.std.proofs.Common.{◌≡◌, ℕ, ◌+◌, ◌-◌, ◌<◌, ◌≤◌, Bool, true, false, cond, ◌&&◌, eqb, List, [], ◌∷◌, ◌++◌, length, get_or, take, drop, refl, sym, ap, ◌∙◌, arith}
use Rattle.std.proofs.lemmas.List.{take_more, drop_more, get_or-drop, length-drop}
use Rattle.std.proofs.lemmas.Bool.Decides.{nat_tests}
use Rattle.zb_types.specs.Paths.{is_name, are_names}

-- the name that stands before byte i, from byte `start` on
abbrev part : List ℕ → ℕ → ℕ → List ℕ
part text start i = take (i - start) (drop start text)

and_true : (b c : Bool) → b ≡ true → (b && c) ≡ c
and_true true c h = refl
and_true false c h = absurd cc

-- behind a slash a new name begins
pub at_slash : (text : List ℕ) (start i : ℕ) → i < length text → get_or text i 0 ≡ 47 → is_name (part text start i) ≡ true
    → are_names (part text (i + 1) (i + 1)) (drop (i + 1) text) ≡ are_names (part text start i) (drop i text)
at_slash text start i within slash name =
    let none : i + 1 - (i + 1) ≡ 0 = omega arith in
    sym (ap (are_names (part text start i)) (drop_more text i 0 within)
    ∙ ap (λ b. are_names (part text start i) (b ∷ drop (i + 1) text)) slash
    ∙ and_true (is_name (part text start i)) (are_names [] (drop (i + 1) text)) name
    ∙ ap (λ n. are_names (take n (drop (i + 1) text)) (drop (i + 1) text)) (sym none))

if_other : (name rest : List ℕ) (b : ℕ) → (b ≡ 47 → ⊥) → are_names name (b ∷ rest) ≡ are_names (name ++ b ∷ []) rest
if_other name rest b other =
    let no : eqb b 47 ≡ false = grind (arith, nat_tests) in
    ap (λ (t : Bool). cond t (is_name name && are_names [] rest) (are_names (name ++ b ∷ []) rest)) no

-- any other byte belongs to the name
pub at_other : (text : List ℕ) (start i : ℕ) → start ≤ i → i < length text → (get_or text i 0 ≡ 47 → ⊥)
    → are_names (part text start (i + 1)) (drop (i + 1) text) ≡ are_names (part text start i) (drop i text)
at_other text start i le within other =
    let n : ℕ = i - start in
    let more : i + 1 - start ≡ (i - start) + 1 = omega arith in
    let at : start + (i - start) ≡ i = omega arith in
    let room : i - start < length (drop start text) = omega (arith, length-drop start text) in
    let byte : get_or (drop start text) (i - start) 0 ≡ get_or text i 0 = get_or-drop start text (i - start) 0 ∙ ap (λ k. get_or text k 0) at in
    let longer : part text start (i + 1) ≡ part text start i ++ get_or text i 0 ∷ [] =
    ap (λ k. take k (drop start text)) more ∙ take_more (drop start text) (i - start) 0 room ∙ ap (λ b. part text start i ++ b ∷ []) byte in
    ap (λ (name : List ℕ). are_names name (drop (i + 1) text)) longer
    ∙ sym (if_other (part text start i) (drop (i + 1) text) (get_or text i 0) other)
    ∙ sym (ap (are_names (part text start i)) (drop_more text i 0 within))
