-- Paths below a path, in the order of bytes: those that begin with a front stand together.
use Rattle.std.proofs.Common.{◌≡◌, ℕ, true, false, eqb, List, [], ◌∷◌, refl, sym, arith, ◌+◌, ◌<◌, Bool, ◌&&◌, length, get_or, take, ◌++◌, ap, ◌∙◌}
use Rattle.std.specs.Ordering.{nat_cmp, is_le, is_eq}
use Rattle.std.specs.declared.cmp.Ordering.TheVariants.{Less}
use Rattle.std.specs.Cmp.{unsigned_ties}
use Rattle.std.specs.Cmp.Lexicographic.{slice_cmp, lists_ties}
use Rattle.std.specs.Str.{bytes_eq}
use Rattle.std.proofs.lemmas.Bool.{and_parts, false≢true}
use Rattle.std.proofs.lemmas.List.{take_more, length-take-le}
use Rattle.std.proofs.lemmas.Bool.Decides.{nat_tests}
use Rattle.std.specs.List.{list_any}
use Rattle.std.proofs.lemmas.List.{length-append}
use Rattle.zb_types.specs.Names.{Entry, is_below}
use Rattle.zb_names.specs.Shown.{begins_with}

pub bytes_eq-cmp : (p q : List ℕ) → bytes_eq p q ≡ is_eq (slice_cmp nat_cmp p q)
bytes_eq-cmp p q = lists_ties nat_cmp unsigned_ties p q

-- what begins with a front is not before it
pub front_le : (front path : List ℕ) → begins_with front path ≡ true → is_le (slice_cmp nat_cmp front path) ≡ true
front_le [] [] begins = refl
front_le [] (b ∷ path) begins = refl
front_le (f ∷ front) [] begins = absurd (false≢true begins)
front_le (f ∷ front) (b ∷ path) begins =
    let parts = and_parts (eqb b f) (begins_with front path) begins in
    let rest : is_le (slice_cmp nat_cmp front path) ≡ true = front_le front path parts.1 in
    grind (arith, nat_tests, parts.0, rest)

-- what stands behind a path that stands behind the front and doesn't begin with it doesn't either
pub past_front : (front path later : List ℕ) → is_le (slice_cmp nat_cmp front path) ≡ true → begins_with front path ≡ false → slice_cmp nat_cmp path later ≡ Less → begins_with front later ≡ false
past_front [] path later le other less = absurd (false≢true (sym other))
past_front (f ∷ front) [] later le other less = absurd (false≢true le)
past_front (f ∷ front) (c ∷ path) [] le other less = refl
past_front (f ∷ front) (c ∷ path) (b ∷ later) le other less =
    let step : is_le (slice_cmp nat_cmp front path) ≡ true → begins_with front path ≡ false → slice_cmp nat_cmp path later ≡ Less → begins_with front later ≡ false = past_front front path later in
    grind (arith, nat_tests, step)

-- ---- one byte more

bytes_eq-push : (xs ys : List ℕ) (x y : ℕ) → length xs ≡ length ys → bytes_eq (xs ++ x ∷ []) (ys ++ y ∷ []) ≡ (bytes_eq xs ys && eqb x y)
bytes_eq-push [] [] x y long = last (eqb x y)
  where
    last : (b : Bool) → (b && true) ≡ b
    last true = refl
    last false = refl
bytes_eq-push [] (b ∷ ys) x y long = absurd (omega arith)
bytes_eq-push (a ∷ xs) [] x y long = absurd (omega arith)
bytes_eq-push (a ∷ xs) (b ∷ ys) x y long = ap (λ t. eqb a b && t) (bytes_eq-push xs ys x y (omega arith)) ∙ group (eqb a b) (bytes_eq xs ys) (eqb x y)
  where
    group : (a b c : Bool) → (a && (b && c)) ≡ ((a && b) && c)
    group true b c = refl
    group false b c = refl

-- a path is below another where it begins with it and a slash stands behind
pub is_below-at : (path other : List ℕ) (b : ℕ) → length path < length other → b ≡ get_or other (length path) b → is_below path other ≡ (begins_with path other && eqb b 47)
is_below-at path other b within here =
    let n : ℕ = length path in
    let more : take (length path + 1) other ≡ take (length path) other ++ b ∷ [] = take_more other (length path) b within ∙ ap (λ k. take (length path) other ++ k ∷ []) (sym here) in
    ap (λ head. bytes_eq head (path ++ 47 ∷ [])) more ∙ bytes_eq-push (take (length path) other) path b 47 (length-take-le (length path) other (omega arith))

pub and_true : (b : Bool) → (b && true) ≡ b
and_true true = refl
and_true false = refl

-- ---- fronts

-- a path begins with the front of another where it is below it
pub begins-below : (path other : List ℕ) → begins_with (path ++ 47 ∷ []) other ≡ is_below path other
begins-below path other = ap (λ n. bytes_eq (take n other) (path ++ 47 ∷ [])) (length-append path (47 ∷ []))

pub any_begins-below : (front path : List ℕ) (entries : List (List ℕ × Entry)) → front ≡ path ++ 47 ∷ [] → list_any (λ e. begins_with front e.0) entries ≡ list_any (λ e. is_below path e.0) entries
any_begins-below front path entries same = ap (λ f. list_any (λ e. begins_with f e.0) entries) same ∙ (λ i. list_any (λ e. begins-below path e.0 i) entries)
