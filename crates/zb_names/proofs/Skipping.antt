-- What is left out where a listing goes on behind a child.
use Rattle.std.proofs.Common.{◌≡◌, ℕ, zero, suc, ◌+◌, ◌-◌, ◌<◌, ◌≤◌, Bool, true, false, not, ◌&&◌, ◌||◌, eqb, List, [], ◌∷◌, ◌++◌, length, get_or, take, drop, refl, sym, ap, subst, ◌∙◌, inl, inr, arith}
use Rattle.std.specs.List.{AllByRecursion}
use Rattle.std.specs.List.Sorted.{IsStrictlySortedBy}
use Rattle.std.specs.declared.cmp.Ordering.TheVariants.{Less}
use Rattle.std.specs.Ordering.{nat_cmp, is_le}
use Rattle.std.specs.Cmp.Lexicographic.{slice_cmp}
use Rattle.std.specs.Map.{keys_of}
use Rattle.std.proofs.lemmas.Bool.{cases_Bool, and_parts, and_from, and_right, eq-eqb, ne_eqb, false≢true}
use Rattle.std.proofs.lemmas.Bool.Decides.{nat_tests}
use Rattle.std.proofs.lemmas.List.{length-drop, length-take-le}
use Rattle.std.proofs.lemmas.Map.Keys.{sorted_head, sorted_tail}
use Rattle.zb_types.specs.Paths.{is_path}
use Rattle.zb_types.specs.Names.{Entry}
use Rattle.zb_names.specs.Shown.{begins_with}
use Rattle.zb_names.specs.Listing.{IsFront, IsStartBehind, has_slash, name_of, names_behind}
use Rattle.zb_names.specs.Placing.{from_start}
use Rattle.zb_names.proofs.Behind.{from_start-kept, from_start-left, none_behind}
use Rattle.zb_names.proofs.Below.{front_le}
use Rattle.zb_names.proofs.Children.{names_behind-cons, names_behind-none, names_behind-from, le-from, rising-from}
use Rattle.zb_names.proofs.NameParts.{slash_no_name}
use Rattle.zb_names.proofs.Finding.{less_back}

-- ---- the order of paths

pub le_refl : (a : List ℕ) → is_le (slice_cmp nat_cmp a a) ≡ true
le_refl [] = refl
le_refl (x ∷ a) = let step = le_refl a in grind (arith, nat_tests, step)

pub le_less : (a b c : List ℕ) → is_le (slice_cmp nat_cmp a b) ≡ true → slice_cmp nat_cmp b c ≡ Less → slice_cmp nat_cmp a c ≡ Less
le_less [] [] c le less = less
le_less [] (y ∷ b) [] le less = cc
le_less [] (y ∷ b) (z ∷ c) le less = refl
le_less (x ∷ a) [] c le less = absurd (false≢true le)
le_less (x ∷ a) (y ∷ b) [] le less = cc
le_less (x ∷ a) (y ∷ b) (z ∷ c) le less =
    let step : is_le (slice_cmp nat_cmp a b) ≡ true → slice_cmp nat_cmp b c ≡ Less → slice_cmp nat_cmp a c ≡ Less = le_less a b c in
    grind (arith, nat_tests, step)

pub le_trans : (a b c : List ℕ) → is_le (slice_cmp nat_cmp a b) ≡ true → is_le (slice_cmp nat_cmp b c) ≡ true → is_le (slice_cmp nat_cmp a c) ≡ true
le_trans [] b [] le more = refl
le_trans [] b (z ∷ c) le more = refl
le_trans (x ∷ a) [] c le more = absurd (false≢true le)
le_trans (x ∷ a) (y ∷ b) [] le more = absurd (false≢true more)
le_trans (x ∷ a) (y ∷ b) (z ∷ c) le more =
    let step : is_le (slice_cmp nat_cmp a b) ≡ true → is_le (slice_cmp nat_cmp b c) ≡ true → is_le (slice_cmp nat_cmp a c) ≡ true = le_trans a b c in
    grind (arith, nat_tests, step)

pub less_push : (p : List ℕ) (b : ℕ) → slice_cmp nat_cmp p (p ++ b ∷ []) ≡ Less
less_push [] b = refl
less_push (x ∷ p) b = let step = less_push p b in grind (arith, nat_tests, step)

-- nothing stands between a path and the path with a byte 0 behind it
pub le_next : (p k : List ℕ) → slice_cmp nat_cmp p k ≡ Less → is_le (slice_cmp nat_cmp (p ++ 0 ∷ []) k) ≡ true
le_next [] [] less = cc
le_next [] (x ∷ []) less = grind (arith, nat_tests)
le_next [] (x ∷ y ∷ k) less = grind (arith, nat_tests)
le_next (y ∷ p) [] less = cc
le_next (y ∷ p) (x ∷ k) less =
    let step : slice_cmp nat_cmp p k ≡ Less → is_le (slice_cmp nat_cmp (p ++ 0 ∷ []) k) ≡ true = le_next p k in
    grind (arith, nat_tests, step)

pub less_slash : (p more : List ℕ) → slice_cmp nat_cmp (p ++ 47 ∷ more) (p ++ 48 ∷ []) ≡ Less
less_slash [] more = refl
less_slash (x ∷ p) more = let step = less_slash p more in grind (arith, nat_tests, step)

-- what stands between a path with a slash and the path with the byte behind a slash begins with the first
pub below_child : (p more k : List ℕ) → is_le (slice_cmp nat_cmp (p ++ 47 ∷ more) k) ≡ true → is_le (slice_cmp nat_cmp (p ++ 48 ∷ []) k) ≡ false → begins_with (p ++ 47 ∷ []) k ≡ true
below_child [] more [] le before = absurd (false≢true le)
below_child [] more (x ∷ k) le before = grind (arith, nat_tests)
below_child (y ∷ p) more [] le before = absurd (false≢true le)
below_child (y ∷ p) more (x ∷ k) le before =
    let step : is_le (slice_cmp nat_cmp (p ++ 47 ∷ more) k) ≡ true → is_le (slice_cmp nat_cmp (p ++ 48 ∷ []) k) ≡ false → begins_with (p ++ 47 ∷ []) k ≡ true = below_child p more k in
    grind (arith, nat_tests, step)

-- so it has a slash behind each front of the path
pub slash_behind : (n : ℕ) (p k : List ℕ) → n ≤ length p → begins_with (p ++ 47 ∷ []) k ≡ true → has_slash (drop n k) ≡ true
slash_behind n p [] le begins = absurd (none p begins)
  where
    none : (p : List ℕ) → begins_with (p ++ 47 ∷ []) [] ≡ true → ⊥
    none [] b = false≢true b
    none (x ∷ p) b = false≢true b
slash_behind zero [] (x ∷ k) le begins = rw (and_parts (eqb x 47) true begins).0 refl
slash_behind (suc n) [] (x ∷ k) le begins = absurd (omega arith)
slash_behind zero (y ∷ p) (x ∷ k) le begins =
    let rest = slash_behind zero p k (omega arith) (and_parts (eqb x y) (begins_with (p ++ 47 ∷ []) k) begins).1 in
    or_true (eqb x 47) (has_slash k) rest
  where
    or_true : (a b : Bool) → b ≡ true → (a || b) ≡ true
    or_true true b e = refl
    or_true false b e = e
slash_behind (suc n) (y ∷ p) (x ∷ k) le begins = slash_behind n p k (omega arith) (and_parts (eqb x y) (begins_with (p ++ 47 ∷ []) k) begins).1

begins_child : (p more : List ℕ) → begins_with (p ++ 47 ∷ []) (p ++ 47 ∷ more) ≡ true
begins_child [] more = refl
begins_child (x ∷ p) more = and_from (eqb x x) (begins_with (p ++ 47 ∷ []) (p ++ 47 ∷ more)) (eq-eqb x x refl) (begins_child p more)

-- ---- the entries from a start on, and from a later one

module _ (start next : List ℕ) (first : List ℕ × Entry) (up : is_le (slice_cmp nat_cmp start next) ≡ true) (less : slice_cmp nat_cmp first.0 next ≡ Less) where
  next_after : is_le (slice_cmp nat_cmp next first.0) ≡ false
  next_after = ap is_le (less_back first.0 next Less less)

  -- what stands before the start stands before the next one
  before_both : (k : List ℕ) → is_le (slice_cmp nat_cmp start k) ≡ false → is_le (slice_cmp nat_cmp next k) ≡ false
  before_both k before = elim (cases_Bool (is_le (slice_cmp nat_cmp next k))) [
    | inl after ↦ absurd (false≢true (sym before ∙ le_trans start next k up after))
    | inr apart ↦ apart
  ]

  fewer : (es : List (List ℕ × Entry)) → length (from_start next es) ≤ length (from_start start es)
  fewer [] = omega arith
  fewer (e ∷ es) = elim (cases_Bool (is_le (slice_cmp nat_cmp next e.0))) [
    | inl after ↦ rw (from_start-kept next e es after, from_start-kept start e es (le_trans start next e.0 up after)) (omega (arith, fewer es))
    | inr before ↦ elim (cases_Bool (is_le (slice_cmp nat_cmp start e.0))) [
      | inl le ↦ rw (from_start-left next e es before, from_start-kept start e es le) (omega (arith, fewer es))
      | inr apart ↦ rw (from_start-left next e es before, from_start-left start e es apart) (fewer es)
    ]
  ]

  -- going on is going further
  pub shorter : (es more : List (List ℕ × Entry)) → from_start start es ≡ first ∷ more → length (from_start next es) < length (from_start start es)
  shorter [] more split = absurd cc
  shorter (e ∷ es) more split = elim (cases_Bool (is_le (slice_cmp nat_cmp start e.0))) [
    | inl le ↦
        let both : e ∷ from_start start es ≡ first ∷ more = sym (from_start-kept start e es le) ∙ split in
        let same : first ≡ e = cc in
        rw (from_start-left next e es (subst (λ (f : List ℕ × Entry). is_le (slice_cmp nat_cmp next f.0) ≡ false) same next_after), from_start-kept start e es le) (omega (arith, fewer es))
    | inr before ↦ rw (from_start-left next e es (before_both e.0 before), from_start-left start e es before) (shorter es more (sym (from_start-left start e es before) ∙ split))
  ]

  -- what comes from the start on comes from the first on
  least : (es more : List (List ℕ × Entry)) → IsStrictlySortedBy (slice_cmp nat_cmp) (keys_of es) → from_start start es ≡ first ∷ more
      → AllByRecursion (λ e. is_le (slice_cmp nat_cmp start e.0) ≡ true → is_le (slice_cmp nat_cmp first.0 e.0) ≡ true) es
  least [] more rising split = absurd cc
  least (e ∷ es) more rising split = elim (cases_Bool (is_le (slice_cmp nat_cmp start e.0))) [
    | inl le ↦
        let both : e ∷ from_start start es ≡ first ∷ more = sym (from_start-kept start e es le) ∙ split in
        let same : e ≡ first = cc in
        subst (λ (f : List ℕ × Entry). AllByRecursion (λ d. is_le (slice_cmp nat_cmp start d.0) ≡ true → is_le (slice_cmp nat_cmp f.0 d.0) ≡ true) (e ∷ es)) same
        ((λ _. le_refl e.0), all_less e.0 es (sorted_head (slice_cmp nat_cmp) e.0 (keys_of es) rising))
    | inr before ↦ ((λ le. absurd (false≢true (sym before ∙ le))), least es more (sorted_tail (slice_cmp nat_cmp) e.0 (keys_of es) rising) (sym (from_start-left start e es before) ∙ split))
  ]
    where
      all_less : (key : List ℕ) (es : List (List ℕ × Entry)) → AllByRecursion (λ k. slice_cmp nat_cmp key k ≡ Less) (keys_of es) → AllByRecursion (λ d. is_le (slice_cmp nat_cmp start d.0) ≡ true → is_le (slice_cmp nat_cmp key d.0) ≡ true) es
      all_less key [] all = tt
      all_less key (d ∷ es) all = ((λ _. ap is_le all.0), all_less key es all.1)

  -- whether an entry has a name right behind the front
  abbrev named : List ℕ → List ℕ → Bool
  named front k = begins_with front k && not (has_slash (drop (length front) k))

  pub skip : (front : List ℕ) → ((k : List ℕ) → is_le (slice_cmp nat_cmp first.0 k) ≡ true → is_le (slice_cmp nat_cmp next k) ≡ false → named front k ≡ false)
      → (es : List (List ℕ × Entry)) → AllByRecursion (λ e. is_le (slice_cmp nat_cmp start e.0) ≡ true → is_le (slice_cmp nat_cmp first.0 e.0) ≡ true) es
      → names_behind front ((from_start start es)) ≡ names_behind front ((from_start next es))
  skip front none [] h = refl
  skip front none (e ∷ es) h = elim (cases_Bool (is_le (slice_cmp nat_cmp next e.0))) [
    | inl after ↦
        rw (from_start-kept next e es after, from_start-kept start e es (le_trans start next e.0 up after))
        (both (e.0, e.1) ((from_start start es)) ((from_start next es)) (skip front none es h.1))
    | inr before ↦ elim (cases_Bool (is_le (slice_cmp nat_cmp start e.0))) [
      | inl le ↦ rw (from_start-left next e es before, from_start-kept start e es le) (rw (none e.0 (h.0 le) before) (skip front none es h.1))
      | inr apart ↦ rw (from_start-left next e es before, from_start-left start e es apart) (skip front none es h.1)
    ]
  ]
    where
      both : (d : List ℕ × Entry) (ds es : List (List ℕ × Entry)) → names_behind front ds ≡ names_behind front es → names_behind front (d ∷ ds) ≡ names_behind front (d ∷ es)
      both d ds es same = elim (cases_Bool (named front d.0)) [
        | inl child ↦ rw child (ap (λ rest. drop (length front) d.0 ∷ rest) same)
        | inr other ↦ rw other same
      ]

  all_from : (b : List ℕ) (es : List (List ℕ × Entry)) → AllByRecursion (λ e. is_le (slice_cmp nat_cmp b e.0) ≡ true) es → from_start b es ≡ es
  all_from b [] all = refl
  all_from b (e ∷ es) all = from_start-kept b e es all.0 ∙ ap (λ (more : List (List ℕ × Entry)). e ∷ more) (all_from b es all.1)

  -- where the next start is right behind the first, the others are left
  pub rest_is : ((k : List ℕ) → slice_cmp nat_cmp first.0 k ≡ Less → is_le (slice_cmp nat_cmp next k) ≡ true) → (es more : List (List ℕ × Entry)) → IsStrictlySortedBy (slice_cmp nat_cmp) (keys_of es) → from_start start es ≡ first ∷ more
      → from_start next es ≡ more
  rest_is right [] more rising split = absurd cc
  rest_is right (e ∷ es) more rising split = elim (cases_Bool (is_le (slice_cmp nat_cmp start e.0))) [
    | inl le ↦
        let both : e ∷ from_start start es ≡ first ∷ more = sym (from_start-kept start e es le) ∙ split in
        let same : first ≡ e = cc in
        let rest : from_start start es ≡ more = cc in
        let head = sorted_head (slice_cmp nat_cmp) e.0 (keys_of es) rising in
        let right_here = subst (λ (f : List ℕ × Entry). (k : List ℕ) → slice_cmp nat_cmp f.0 k ≡ Less → is_le (slice_cmp nat_cmp next k) ≡ true) same right in
        from_start-left next e es (subst (λ (f : List ℕ × Entry). is_le (slice_cmp nat_cmp next f.0) ≡ false) same next_after)
        ∙ all_from next es (each next e.0 es head right_here)
        ∙ sym (all_from start es (each start e.0 es head (λ k lt. ap is_le (le_less start e.0 k le lt)))) ∙ rest
    | inr before ↦ from_start-left next e es (before_both e.0 before) ∙ rest_is right es more (sorted_tail (slice_cmp nat_cmp) e.0 (keys_of es) rising) (sym (from_start-left start e es before) ∙ split)
  ]
    where
      each : (b key : List ℕ) (es : List (List ℕ × Entry)) → AllByRecursion (λ k. slice_cmp nat_cmp key k ≡ Less) (keys_of es) → ((k : List ℕ) → slice_cmp nat_cmp key k ≡ Less → is_le (slice_cmp nat_cmp b k) ≡ true) → AllByRecursion (λ d. is_le (slice_cmp nat_cmp b d.0) ≡ true) es
      each b key [] all f = tt
      each b key (d ∷ es) all f = (f d.0 all.0, each b key es all.1 f)

-- ---- a listing goes on

begins_append : (front path more : List ℕ) → begins_with front path ≡ true → begins_with front (path ++ more) ≡ true
begins_append [] path more b = refl
begins_append (f ∷ front) [] more b = absurd (false≢true b)
begins_append (f ∷ front) (x ∷ path) more b =
    let parts = and_parts (eqb x f) (begins_with front path) b in
    and_from (eqb x f) (begins_with front (path ++ more)) parts.0 (begins_append front path more parts.1)

begins_cut : (front child more : List ℕ) → length front ≤ length child → begins_with front (child ++ more) ≡ true → begins_with front child ≡ true
begins_cut [] child more le b = refl
begins_cut (f ∷ front) [] more le b = absurd (omega arith)
begins_cut (f ∷ front) (x ∷ child) more le b =
    let parts = and_parts (eqb x f) (begins_with front (child ++ more)) b in
    and_from (eqb x f) (begins_with front child) parts.0 (begins_cut front child more (omega (arith, le)) parts.1)

pub begins_long : (front path : List ℕ) → begins_with front path ≡ true → length front ≤ length path
begins_long [] path b = omega arith
begins_long (f ∷ front) [] b = absurd (false≢true b)
begins_long (f ∷ front) (x ∷ path) b = omega (arith, begins_long front path (and_parts (eqb x f) (begins_with front path) b).1)

-- the next part begins with the front too
pub begins_next : (front path next : List ℕ) → begins_with front path ≡ true → IsStartBehind (length front) path next → begins_with front next ≡ true
begins_next front path next b (inl child) = subst (λ (z : List ℕ). begins_with front z ≡ true) (sym child.1) (begins_append front path (0 ∷ []) b)
begins_next front path next b (inr below) =
    subst (λ (z : List ℕ). begins_with front z ≡ true) (sym below.4)
    (begins_append front below.0 (48 ∷ []) (begins_cut front below.0 (47 ∷ below.1) below.2 (subst (λ (z : List ℕ). begins_with front z ≡ true) below.3 b)))

-- the start of the next part is behind the start and behind the path
pub goes_up : (n : ℕ) (path start next : List ℕ) → is_le (slice_cmp nat_cmp start path) ≡ true → IsStartBehind n path next → slice_cmp nat_cmp path next ≡ Less
goes_up n path start next le (inl child) = subst (λ (z : List ℕ). slice_cmp nat_cmp path z ≡ Less) (sym child.1) (less_push path 0)
goes_up n path start next le (inr below) =
    subst (λ (z : List ℕ). slice_cmp nat_cmp z next ≡ Less) (sym below.3) (subst (λ (z : List ℕ). slice_cmp nat_cmp (below.0 ++ 47 ∷ below.1) z ≡ Less) (sym below.4) (less_slash below.0 below.1))

module _ (front start next path : List ℕ) (kept : Entry) (es more : List (List ℕ × Entry)) (is_front : IsFront front) (is : is_path path ≡ true) (begins : begins_with front path ≡ true)
    (rising : IsStrictlySortedBy (slice_cmp nat_cmp) (keys_of es)) (split : from_start start es ≡ (path, kept) ∷ more) (behind : IsStartBehind (length front) path next) where
  first_le : is_le (slice_cmp nat_cmp start path) ≡ true
  first_le = (subst (λ (z : List (List ℕ × Entry)). AllByRecursion (λ e. is_le (slice_cmp nat_cmp start e.0) ≡ true) z) split (le-from start es)).0

  after : slice_cmp nat_cmp path next ≡ Less
  after = goes_up (length front) path start next first_le behind

  up : is_le (slice_cmp nat_cmp start next) ≡ true
  up = ap is_le (le_less start path next first_le after)

  pub further : length (from_start next es) < length (from_start start es)
  further = shorter start next (path, kept) up after es more split

  pub names_on : names_behind front ((from_start start es)) ≡ name_of (drop (length front) path) ++ names_behind front ((from_start next es))
  names_on = elim behind as (λ _. names_behind front ((from_start start es)) ≡ name_of (drop (length front) path) ++ names_behind front ((from_start next es))) [
    | inl child ↦
        let right = λ (k : List ℕ) (lt : slice_cmp nat_cmp path k ≡ Less). subst (λ (z : List ℕ). is_le (slice_cmp nat_cmp z k) ≡ true) (sym child.1) (le_next path k lt) in
        ap (λ (z : List (List ℕ × Entry)). names_behind front z) split
        ∙ names_behind-cons front path (kept) more is_front is begins
        ∙ ap (λ (z : List (List ℕ × Entry)). name_of (drop (length front) path) ++ names_behind front z) (sym (rest_is start next (path, kept) up after right es more rising split))
    | inr below ↦
        let slash : has_slash (drop (length front) path) ≡ true =
        slash_behind (length front) below.0 path below.2 (subst (λ (z : List ℕ). begins_with (below.0 ++ 47 ∷ []) z ≡ true) (sym below.3) (begins_child below.0 below.1)) in
        let no_name : name_of (drop (length front) path) ≡ [] = rw (slash_no_name (drop (length front) path) slash) refl in
        let none = λ (k : List ℕ) (le : is_le (slice_cmp nat_cmp path k) ≡ true) (lt : is_le (slice_cmp nat_cmp next k) ≡ false).
        let under : begins_with (below.0 ++ 47 ∷ []) k ≡ true = below_child below.0 below.1 k (subst (λ (z : List ℕ). is_le (slice_cmp nat_cmp z k) ≡ true) below.3 le) (subst (λ (z : List ℕ). is_le (slice_cmp nat_cmp z k) ≡ false) below.4 lt) in
        and_right (begins_with front k) (not (has_slash (drop (length front) k))) (ap not (slash_behind (length front) below.0 k below.2 under)) in
        skip start next (path, kept) up after front none es (least start next (path, kept) up after es more rising split)
        ∙ ap (λ (z : List (List ℕ)). z ++ names_behind front ((from_start next es))) (sym no_name)
  ]

-- ---- where the next part starts

none_slash : (text : List ℕ) → ((k : ℕ) → k < length text → get_or text k 0 ≡ 47 → ⊥) → has_slash text ≡ false
none_slash [] none = refl
none_slash (x ∷ text) none =
    let here : eqb x 47 ≡ false = ne_eqb x 47 (none 0 (omega arith)) in
    rw here (none_slash text (λ k lt is. none (suc k) (omega (arith, lt)) is))

pub child_start : (n : ℕ) (path text : List ℕ) (at : ℕ) → text ≡ drop n path → at ≡ length text → ((k : ℕ) → k < at → get_or text k 0 ≡ 47 → ⊥) → IsStartBehind n path (path ++ 0 ∷ [])
child_start n path text at is whole before = inl (ap has_slash (sym is) ∙ none_slash text (λ k lt slash. before k (omega (arith, lt, whole)) slash), refl)

split_slash : (path : List ℕ) (i : ℕ) → i < length path → get_or path i 0 ≡ 47 → path ≡ take i path ++ 47 ∷ drop (suc i) path
split_slash [] i lt is = absurd (omega arith)
split_slash (x ∷ path) zero lt is = ap (λ (z : ℕ). z ∷ path) is
split_slash (x ∷ path) (suc i) lt is = ap (λ (z : List ℕ). x ∷ z) (split_slash path i (omega (arith, lt)) is)

get_drop : (n : ℕ) (xs : List ℕ) (i : ℕ) → get_or (drop n xs) i 0 ≡ get_or xs (n + i) 0
get_drop zero xs i = let same : i ≡ 0 + i = omega arith in ap (λ (k : ℕ). get_or xs k 0) same
get_drop (suc n) [] i = refl
get_drop (suc n) (x ∷ xs) i = let same : suc (n + i) ≡ suc n + i = omega arith in get_drop n xs i ∙ ap (λ (k : ℕ). get_or (x ∷ xs) k 0) same

pub below_start : (n : ℕ) (path text : List ℕ) (at : ℕ) → text ≡ drop n path → n ≤ length path → at < length text → get_or text at 0 ≡ 47 → IsStartBehind n path (take (n + at) path ++ 48 ∷ [])
below_start n path text at is le lt slash =
    let long : length text ≡ length path - n = ap length is ∙ length-drop n path in
    let below : n + at < length path = omega arith in
    let here : get_or path (n + at) 0 ≡ 47 = sym (get_drop n path at) ∙ ap (λ (z : List ℕ). get_or z at 0) (sym is) ∙ slash in
    let child : n ≤ length (take (n + at) path) = omega (arith, length-take-le (n + at) path (omega arith)) in
    inr (take (n + at) path, drop (suc (n + at)) path, child, split_slash path (n + at) below here, refl)

-- ---- a listing ends

none_named : (front start path : List ℕ) (kept : Entry) (es more : List (List ℕ × Entry)) → IsStrictlySortedBy (slice_cmp nat_cmp) (keys_of es) → from_start start es ≡ (path, kept) ∷ more
    → begins_with front start ≡ true → begins_with front path ≡ false → AllByRecursion (λ e. begins_with front e.0 ≡ false) (from_start start es)
none_named front start path kept es more rising split begun other =
    let le = (subst (λ (z : List (List ℕ × Entry)). AllByRecursion (λ e. is_le (slice_cmp nat_cmp start e.0) ≡ true) z) split (le-from start es)).0 in
    let from = le_trans front start path (front_le front start begun) le in
    let sorted = subst (λ (z : List (List ℕ × Entry)). IsStrictlySortedBy (slice_cmp nat_cmp) (keys_of z)) split (rising-from start es rising) in
    subst (λ (z : List (List ℕ × Entry)). AllByRecursion (λ e. begins_with front e.0 ≡ false) z) (sym split)
    (other, none_behind front path more from other (sorted_head (slice_cmp nat_cmp) path (keys_of more) sorted))

pub listing_ends : (front start path : List ℕ) (kept : Entry) (es more : List (List ℕ × Entry)) → IsStrictlySortedBy (slice_cmp nat_cmp) (keys_of es) → from_start start es ≡ (path, kept) ∷ more
    → begins_with front start ≡ true → begins_with front path ≡ false → names_behind front ((from_start start es)) ≡ []
listing_ends front start path kept es more rising split begun other = names_behind-none front (from_start start es) (none_named front start path kept es more rising split begun other)

-- a listing begins
pub listing_begins : (front start : List ℕ) (es : List (List ℕ × Entry)) → start ≡ front → names_behind front ((from_start start es)) ≡ names_behind front es
listing_begins front start es same =
    subst (λ (z : List ℕ). names_behind z ((from_start start es)) ≡ names_behind z es) same (names_behind-from start es)

pub begins_self : (front : List ℕ) → begins_with front front ≡ true
begins_self [] = refl
begins_self (x ∷ front) = and_from (eqb x x) (begins_with front front) (eq-eqb x x refl) (begins_self front)
