-- What is below a path stands together: it is taken out and put in as one.
use Rattle.std.proofs.Common.{◌≡◌, ℕ, zero, suc, ◌+◌, ◌<◌, ◌≤◌, Bool, true, false, not, ◌||◌, List, [], ◌∷◌, ◌++◌, length, take, drop, Option, Some, None, is_some, refl, sym, ap, subst, ◌∙◌, inl, inr, arith}
use Rattle.std.specs.Prelude.{Result, Ok, Err, OnErr, is_ok}
use Rattle.std.specs.List.{AllByRecursion, list_any, filter}
use Rattle.std.specs.List.Sorted.{IsStrictlySortedBy}
use Rattle.std.specs.declared.cmp.Ordering.{Ordering}
use Rattle.std.specs.declared.cmp.Ordering.TheVariants.{Less, Equal, Greater}
use Rattle.std.specs.Ordering.{nat_cmp, is_lt, is_eq}
use Rattle.std.specs.Cmp.Lexicographic.{slice_cmp}
use Rattle.std.specs.Str.{bytes_eq}
use Rattle.std.specs.Map.{keys_of}
use Rattle.std.proofs.lemmas.Cmp.{nat_list_cmp_total, nat_cmp_total, tied_itself}
use Rattle.std.proofs.lemmas.Bool.{cases_Bool, false≢true, or_from, or_parts}
use Rattle.std.proofs.lemmas.List.{append-nil}
use Rattle.std.proofs.lemmas.Slice.Eq.{bytes_eq-Decides}
use Rattle.std.proofs.Math.Seq.{drop-append_seam, drop-length}
use Rattle.zb_types.specs.Paths.{is_path}
use Rattle.zb_types.specs.Names.{Entry, Names, find, has, is_below, is_within, others, walk, with_entry, with_entries}
use Rattle.zb_names.specs.Changing.{AreNew, Changed, HasNoneBelow, LieBelow, MayCarry, below, relocated, staying, within}
use Rattle.zb_names.specs.declared.entries.Entry.{Entry as Given}
use Rattle.zb_names.specs.Shown.{listed}
use Rattle.zb_names.specs.Placing.{IsPlace, is_less}
use Rattle.zb_names.proofs.Below.{begins-below, bytes_eq-cmp}
use Rattle.zb_names.proofs.Finding.{has-find, less_back}
use Rattle.zb_names.proofs.Fronts.{hangs_from_walk, split_below, below_split}
use Rattle.zb_names.proofs.Inserting.{has-with_entries}
use Rattle.zb_names.proofs.Lying.{within_below}
use Rattle.zb_names.proofs.Places.{AllLess, NoneLess, not_less-le, less-not_le, is_Less, find-behind, listed-append, listed-take, listed-drop}
use Rattle.zb_names.proofs.Renaming.{dir_there}
use Rattle.zb_names.proofs.Skipping.{below_child, less_slash}
use Rattle.zb_names.proofs.Behind.{before_front}
use Rattle.zb_names.proofs.Trees.{path_has_bytes}
use Rattle.zb_names.proofs.Within.{within-found}
use Rattle.zb_names.specs.Sound.{IsTree}

abbrev Entries : Type 0
Entries = List (List ℕ × Entry)

-- ---- the order of two paths by a third

less_le : (a b c : List ℕ) → slice_cmp nat_cmp a b ≡ Less → is_less c b ≡ false → slice_cmp nat_cmp a c ≡ Less
less_le a b c less not_less = by (slice_cmp nat_cmp b c) refl
  where
    by : (o : Ordering) → slice_cmp nat_cmp b c ≡ o → slice_cmp nat_cmp a c ≡ Less
    by Less o = nat_list_cmp_total.trans a b c less o
    by Equal o = ap (slice_cmp nat_cmp a) (sym ((bytes_eq-Decides b c).0 (bytes_eq-cmp b c ∙ ap is_eq o))) ∙ less
    by Greater o = absurd (false≢true (sym not_less ∙ ap is_lt (less_back b c Greater o)))

less-not_less : (a b : List ℕ) → slice_cmp nat_cmp a b ≡ Less → is_less b a ≡ false
less-not_less a b less = ap is_lt (less_back a b Less less)

module _ (path : List ℕ) where
  -- where what is below the path begins, and where it ends
  abbrev pub start : List ℕ
  start = path ++ 47 ∷ []

  abbrev pub end : List ℕ
  end = path ++ 48 ∷ []

  start_end : slice_cmp nat_cmp start end ≡ Less
  start_end = less_slash path []

  before_outside : (k : List ℕ) → is_less k start ≡ true → is_below path k ≡ false
  before_outside k less = sym (begins-below path k) ∙ before_front start k (less-not_le k start less)

  between_inside : (k : List ℕ) → is_less k start ≡ false → is_less k end ≡ true → is_below path k ≡ true
  between_inside k from less = sym (begins-below path k) ∙ below_child path [] k (not_less-le k start from) (less-not_le k end less)

  -- what is below the path stands before the end
  inside_before : (k : List ℕ) → is_below path k ≡ true → slice_cmp nat_cmp k end ≡ Less
  inside_before k inside = ap (λ p. slice_cmp nat_cmp p end) (split_below path k inside) ∙ less_slash path (drop (length path + 1) k)

  behind_outside : (k : List ℕ) → is_less k end ≡ false → is_below path k ≡ false
  behind_outside k from = elim (cases_Bool (is_below path k)) [
    | inl inside ↦ absurd (false≢true (sym from ∙ ap is_lt (inside_before k inside)))
    | inr outside ↦ outside
  ]

  -- what is before the start is before what is below the path
  before_inside : (k r : List ℕ) → is_less k start ≡ true → is_below path r ≡ true → is_less k r ≡ true
  before_inside k r less inside =
      ap is_lt (less_le k start r (is_Less _ less) (elim (cases_Bool (is_less r start)) [
        | inl outside ↦ absurd (false≢true (sym (before_outside r outside) ∙ inside))
        | inr from ↦ from
      ]))

  -- what is from the start on and not below the path is behind what is below it
  inside_behind : (k r : List ℕ) → is_less k start ≡ false → is_below path k ≡ false → is_below path r ≡ true → is_less k r ≡ false
  inside_behind k r from outside inside =
      less-not_less r k (less_le r end k (inside_before r inside) (elim (cases_Bool (is_less k end)) [
        | inl less ↦ absurd (false≢true (sym outside ∙ between_inside k from less))
        | inr behind ↦ behind
      ]))

  -- ---- taken out

  pub start_le_end : (ks : List (List ℕ)) (i j : ℕ) → i ≤ length ks → j ≤ length ks → AllLess start (take i ks) → NoneLess end (drop j ks) → i ≤ j
  start_le_end ks zero j in_i in_j before behind = omega arith
  start_le_end [] (suc i) j in_i in_j before behind = absurd (omega arith)
  start_le_end (k ∷ ks) (suc i) zero in_i in_j before behind = absurd (false≢true (sym behind.0 ∙ ap is_lt (nat_list_cmp_total.trans k start end (is_Less _ before.0) start_end)))
  start_le_end (k ∷ ks) (suc i) (suc j) in_i in_j before behind = omega (arith, start_le_end ks i j (omega arith) (omega arith) before.1 behind)

  all_outside : (es : Entries) → NoneLess end (keys_of es) → filter (λ e. not (is_below path e.0)) es ≡ es
  all_outside [] behind = refl
  all_outside (e ∷ es) behind = rw (behind_outside e.0 behind.0) (ap (λ (more : Entries). e ∷ more) (all_outside es behind.1))

  -- what stands from the start up to the end is what is below the path
  pub cut_below : (es : Entries) (i j : ℕ) → AllLess start (take i (keys_of es)) → NoneLess start (drop i (keys_of es)) → AllLess end (take j (keys_of es)) → NoneLess end (drop j (keys_of es)) → i ≤ j
      → take i es ++ drop j es ≡ filter (λ e. not (is_below path e.0)) es
  cut_below [] zero zero before from before_end behind le = refl
  cut_below [] zero (suc j) before from before_end behind le = refl
  cut_below [] (suc i) zero before from before_end behind le = refl
  cut_below [] (suc i) (suc j) before from before_end behind le = refl
  cut_below (e ∷ es) zero zero before from before_end behind le = sym (all_outside (e ∷ es) behind)
  cut_below (e ∷ es) zero (suc j) before from before_end behind le = rw (between_inside e.0 from.0 before_end.0) (cut_below es zero j tt from.1 before_end.1 behind (omega arith))
  cut_below (e ∷ es) (suc i) zero before from before_end behind le = absurd (omega arith)
  cut_below (e ∷ es) (suc i) (suc j) before from before_end behind le = rw (before_outside e.0 before.0) (ap (λ (more : Entries). e ∷ more) (cut_below es i j before.1 from before_end.1 behind (omega arith)))

  -- the path itself goes, and then what is below it
  pub others-below : (es : Entries) → filter (λ e. not (is_below path e.0)) (others path es) ≡ filter (λ e. not (is_within path e.0)) es
  others-below [] = refl
  others-below (e ∷ es) = elim (cases_Bool (bytes_eq path e.0)) [
    | inl same ↦ rw same (others-below es)
    | inr apart ↦ elim (cases_Bool (is_below path e.0)) [
      | inl inside ↦ rw (apart, inside) (others-below es)
      | inr outside ↦ rw (apart, outside) (ap (λ (more : Entries). e ∷ more) (others-below es))
    ]
  ]

  -- ---- put in

  -- an entry goes behind what is less and before the others
  with_entry-between : (new : List ℕ) (entry : Entry) (front back : Entries) → AllLess new (keys_of front) → NoneLess new (keys_of back) → with_entry new entry (front ++ back) ≡ front ++ (new, entry) ∷ back
  with_entry-between new entry [] [] before from = refl
  with_entry-between new entry [] (b ∷ back) before from = rw from.0 refl
  with_entry-between new entry (f ∷ front) back before from = rw before.0 (ap (λ (more : Entries). f ∷ more) (with_entry-between new entry front back before.1 from))

  all_before : (r : List ℕ) (ks : List (List ℕ)) → is_below path r ≡ true → AllLess start ks → AllLess r ks
  all_before r [] inside before = tt
  all_before r (k ∷ ks) inside before = (before_inside k r before.0 inside, all_before r ks inside before.1)

  none_before : (r : List ℕ) (row back : Entries) → is_below path r ≡ true → AllByRecursion (λ k. slice_cmp nat_cmp r k ≡ Less) (keys_of row) → NoneLess start (keys_of back) → list_any (λ e. is_below path e.0) back ≡ false → NoneLess r (keys_of (row ++ back))
  none_before r [] [] inside less from none = tt
  none_before r [] (b ∷ back) inside less from none =
      let parts = or_parts (is_below path b.0) (list_any (λ e. is_below path e.0) back) none in
      (inside_behind b.0 r from.0 parts.0 inside, none_before r [] back inside less from.1 parts.1)
  none_before r (m ∷ row) back inside less from none = (less-not_less r m.0 less.0, none_before r row back inside less.1 from none)

  pub with_row : (row front back : Entries) → IsStrictlySortedBy (slice_cmp nat_cmp) (keys_of row) → AllByRecursion (λ e. is_below path e.0 ≡ true) row → AllLess start (keys_of front) → NoneLess start (keys_of back) → list_any (λ e. is_below path e.0) back ≡ false
      → with_entries row (front ++ back) ≡ front ++ (row ++ back)
  unfolding IsStrictlySortedBy
  with_row [] front back rising inside before from none = refl
  with_row (r ∷ row) front back rising inside before from none =
      ap (with_entry r.0 r.1) (with_row row front back rising.1 inside.1 before from none)
      ∙ with_entry-between r.0 r.1 front (row ++ back) (all_before r.0 (keys_of front) inside.0 before) (none_before r.0 row back inside.0 rising.0 from none)

-- such entries are new
module _ (path : List ℕ) where
  has-outside : (r : List ℕ) (es : Entries) → is_below path r ≡ true → list_any (λ e. is_below path e.0) es ≡ false → has r es ≡ false
  has-outside r [] inside none = refl
  has-outside r (e ∷ es) inside none =
      let parts = or_parts (is_below path e.0) (list_any (λ d. is_below path d.0) es) none in
      elim (cases_Bool (bytes_eq r e.0)) [
        | inl same ↦ absurd (false≢true (sym parts.0 ∙ ap (is_below path) (sym ((bytes_eq-Decides r e.0).0 same)) ∙ inside))
        | inr apart ↦ rw apart (has-outside r es inside parts.1)
      ]

  pub row_new : (row es : Entries) → IsStrictlySortedBy (slice_cmp nat_cmp) (keys_of row) → AllByRecursion (λ e. is_below path e.0 ≡ true) row → list_any (λ e. is_below path e.0) es ≡ false → AreNew row es
  unfolding IsStrictlySortedBy
  row_new [] es rising inside none = tt
  row_new (r ∷ row) es rising inside none =
      (has-with_entries r.0 row es ∙ or_from (has r.0 row) (has r.0 es) (has-find r.0 row ∙ ap is_some (find-behind r.0 row rising.0)) (has-outside r.0 es inside.0 none), row_new row es rising.1 inside.1 none)

pub keys-take : (i : ℕ) (es : Entries) → keys_of (take i es) ≡ take i (keys_of es)
keys-take zero es = refl
keys-take (suc i) [] = refl
keys-take (suc i) (e ∷ es) = ap (λ ks. e.0 ∷ ks) (keys-take i es)

pub keys-drop : (i : ℕ) (es : Entries) → keys_of (drop i es) ≡ drop i (keys_of es)
keys-drop zero es = refl
keys-drop (suc i) [] = refl
keys-drop (suc i) (e ∷ es) = keys-drop i es

any-drop : (test : List ℕ × Entry → Bool) (i : ℕ) (es : Entries) → list_any test es ≡ false → list_any test (drop i es) ≡ false
any-drop test zero es none = none
any-drop test (suc i) [] none = refl
any-drop test (suc i) (e ∷ es) none = any-drop test i es (or_parts (test e) (list_any test es) none).1

take_drop : (i : ℕ) (es : Entries) → take i es ++ drop i es ≡ es
take_drop zero es = refl
take_drop (suc i) [] = refl
take_drop (suc i) (e ∷ es) = ap (λ (more : Entries). e ∷ more) (take_drop i es)

-- entries below a path go in at its place, where nothing is below it
pub row-place : (path : List ℕ) (row es : Entries) (i : ℕ) → IsStrictlySortedBy (slice_cmp nat_cmp) (keys_of row) → AllByRecursion (λ e. is_below path e.0 ≡ true) row → list_any (λ e. is_below path e.0) es ≡ false
    → AllLess (path ++ 47 ∷ []) (take i (keys_of es)) → NoneLess (path ++ 47 ∷ []) (drop i (keys_of es)) → take i es ++ (row ++ drop i es) ≡ with_entries row es
row-place path row es i rising inside none before from =
    sym (with_row path row (take i es) (drop i es) rising inside (subst (AllLess (path ++ 47 ∷ [])) (sym (keys-take i es)) before) (subst (NoneLess (path ++ 47 ∷ [])) (sym (keys-drop i es)) from) (any-drop (λ e. is_below path e.0) i es none))
    ∙ ap (with_entries row) (take_drop i es)

-- the same of entries in memory
pub put-row : (path : List ℕ) (items fresh after : List (List ℕ × Given)) (i : ℕ) → IsPlace (path ++ 47 ∷ []) (keys_of (listed items)) i → IsStrictlySortedBy (slice_cmp nat_cmp) (keys_of (listed fresh)) → AllByRecursion (λ e. is_below path e.0 ≡ true) (listed fresh)
    → list_any (λ e. is_below path e.0) (listed items) ≡ false → after ≡ take i items ++ (fresh ++ drop i items) → listed after ≡ with_entries (listed fresh) (listed items)
put-row path items fresh after i place rising inside none is =
    ap listed is ∙ listed-append (take i items) (fresh ++ drop i items)
    ∙ (λ k. listed-take i items k ++ listed-append fresh (drop i items) k)
    ∙ ap (λ rest. take i (listed items) ++ (listed fresh ++ rest)) (listed-drop i items)
    ∙ row-place path (listed fresh) (listed items) i rising inside none place.before place.behind

pub append_ok : {T E : Type 0} (r : Result T E) (n m : ℕ) → OnErr r (n < m) → m ≤ n → is_ok r ≡ true
append_ok (Ok x) n m full le = refl
append_ok (Err e) n m full le = absurd (omega (arith, full))

-- what is below a path is taken out of entries in memory
pub cut-row : (path : List ℕ) (items after : List (List ℕ × Given)) (i j : ℕ) → IsPlace (path ++ 47 ∷ []) (keys_of (listed items)) i → IsPlace (path ++ 48 ∷ []) (keys_of (listed items)) j → after ≡ take i items ++ drop j items
    → listed after ≡ filter (λ e. not (is_below path e.0)) (listed items)
cut-row path items after i j from to is =
    ap listed is ∙ listed-append (take i items) (drop j items) ∙ (λ k. listed-take i items k ++ listed-drop j items k)
    ∙ cut_below path (listed items) i j from.before from.behind to.before to.behind (start_le_end path (keys_of (listed items)) i j from.within to.within from.before to.behind)

-- ---- nothing is below a new path

module _ (first : List ℕ) (entries : Entries) (some : 0 < length first) where
  -- a path below it hangs from it, so that it was there
  was_there : (path : List ℕ) → walk entries path ≡ None → is_below first path ≡ true → has first entries ≡ true
  was_there path hangs inside = dir_there first entries (hangs_from_walk entries path hangs first some inside)

  none_there : (es : Entries) → AllByRecursion (λ e. walk entries e.0 ≡ None) es → has first entries ≡ false → list_any (λ e. is_below first e.0) es ≡ false
  none_there [] hanging absent = refl
  none_there (e ∷ es) hanging absent = elim (cases_Bool (is_below first e.0)) [
    | inl inside ↦ absurd (false≢true (sym absent ∙ was_there e.0 hanging.0 inside))
    | inr outside ↦ rw outside (none_there es hanging.1 absent)
  ]

  -- where it went, so did what was below it
  none_stay : (gone : List ℕ) (es : Entries) → is_within gone first ≡ true → list_any (λ e. is_below first e.0) (filter (λ e. not (is_within gone e.0)) es) ≡ false
  none_stay gone [] inside = refl
  none_stay gone (e ∷ es) inside = elim (cases_Bool (is_within gone e.0)) [
    | inl goes ↦ rw goes (none_stay gone es inside)
    | inr stays ↦ elim (cases_Bool (is_below first e.0)) [
      | inl below ↦ absurd (false≢true (sym stays ∙ within_below gone first e.0 inside below))
      | inr outside ↦ rw (stays, outside) (none_stay gone es inside)
    ]
  ]

  any-filter : (test keep : List ℕ × Entry → Bool) (es : Entries) → list_any test es ≡ false → list_any test (filter keep es) ≡ false
  any-filter test keep [] none = refl
  any-filter test keep (e ∷ es) none =
      let parts = or_parts (test e) (list_any test es) none in
      elim (cases_Bool (keep e)) [
        | inl stays ↦ rw (stays, parts.0) (any-filter test keep es parts.1)
        | inr goes ↦ rw goes (any-filter test keep es parts.1)
      ]

  has-stays : (gone : List ℕ) (es : Entries) → is_within gone first ≡ false → has first (filter (λ e. not (is_within gone e.0)) es) ≡ has first es
  has-stays gone [] outside = refl
  has-stays gone (e ∷ es) outside = elim (cases_Bool (is_within gone e.0)) [
    | inr stays ↦ rw stays (ap (λ b. bytes_eq first e.0 || b) (has-stays gone es outside))
    | inl goes ↦ elim (cases_Bool (bytes_eq first e.0)) [
      | inl same ↦ absurd (false≢true (sym outside ∙ ap (is_within gone) ((bytes_eq-Decides first e.0).0 same) ∙ goes))
      | inr apart ↦ rw (goes, apart) (has-stays gone es outside)
    ]
  ]

  pub none_below_new : (gone : Option (List ℕ)) → AllByRecursion (λ e. walk entries e.0 ≡ None) entries → has first (staying gone entries) ≡ false → list_any (λ e. is_below first e.0) (staying gone entries) ≡ false
  none_below_new None hanging absent = none_there entries hanging absent
  none_below_new (Some path) hanging absent = elim (cases_Bool (is_within path first)) [
    | inl inside ↦ none_stay path entries inside
    | inr outside ↦ any-filter (λ e. is_below first e.0) (λ e. not (is_within path e.0)) entries (none_there entries hanging (sym (has-stays path entries outside) ∙ absent))
  ]

all_with-entry : (P : List ℕ × Entry → Type 0) (new : List ℕ) (entry : Entry) (es : Entries) → AllByRecursion P (with_entry new entry es) → P (new, entry)
all_with-entry P new entry [] all = all.0
all_with-entry P new entry (e ∷ es) all = elim (cases_Bool (is_less e.0 new)) [
  | inl less ↦ all_with-entry P new entry es (rw less at all).1
  | inr here ↦ (rw here at all).0
]

-- ---- what is moved

cmp-front : (front a b : List ℕ) → slice_cmp nat_cmp (front ++ a) (front ++ b) ≡ slice_cmp nat_cmp a b
cmp-front [] a b = refl
cmp-front (x ∷ front) a b = rw (tied_itself nat_cmp_total x) (cmp-front front a b)

module _ (from to : List ℕ) where
  -- a path that was moved
  abbrev there : List ℕ → List ℕ
  there path = to ++ drop (length from) path

  moved_rest : (path : List ℕ) → is_below from path ≡ true → drop (length from) path ≡ 47 ∷ drop (length from + 1) path
  moved_rest path inside = ap (drop (length from)) (split_below from path inside) ∙ drop-append_seam from (47 ∷ drop (length from + 1) path)

  cmp-moved : (a b : List ℕ) → is_below from a ≡ true → is_below from b ≡ true → slice_cmp nat_cmp (there a) (there b) ≡ slice_cmp nat_cmp a b
  cmp-moved a b in_a in_b =
      cmp-front to (drop (length from) a) (drop (length from) b) ∙ sym (cmp-front from (drop (length from) a) (drop (length from) b))
      ∙ (λ i. slice_cmp nat_cmp (whole a in_a i) (whole b in_b i))
    where
      whole : (path : List ℕ) → is_below from path ≡ true → from ++ drop (length from) path ≡ path
      whole path inside = ap (λ rest. from ++ rest) (moved_rest path inside) ∙ sym (split_below from path inside)

  moved_less : (a : List ℕ) (es : Entries) → is_below from a ≡ true → AllByRecursion (λ k. slice_cmp nat_cmp a k ≡ Less) (keys_of es) → AllByRecursion (λ k. slice_cmp nat_cmp (there a) k ≡ Less) (keys_of (relocated (length from) to (below from es)))
  moved_less a [] inside all = tt
  moved_less a (e ∷ es) inside all = elim (cases_Bool (is_below from e.0)) as (λ _. AllByRecursion (λ k. slice_cmp nat_cmp (there a) k ≡ Less) (keys_of (relocated (length from) to (below from (e ∷ es))))) [
    | inl also ↦ rw also (cmp-moved a e.0 inside also ∙ all.0, moved_less a es inside all.1)
    | inr outside ↦ rw outside (moved_less a es inside all.1)
  ]

  pub moved_rise : (es : Entries) → IsStrictlySortedBy (slice_cmp nat_cmp) (keys_of es) → IsStrictlySortedBy (slice_cmp nat_cmp) (keys_of (relocated (length from) to (below from es)))
  unfolding IsStrictlySortedBy
  moved_rise [] rising = tt
  moved_rise (e ∷ es) rising = elim (cases_Bool (is_below from e.0)) as (λ _. IsStrictlySortedBy (slice_cmp nat_cmp) (keys_of (relocated (length from) to (below from (e ∷ es))))) [
    | inl inside ↦ rw inside (moved_less e.0 es inside rising.0, moved_rise es rising.1)
    | inr outside ↦ rw outside (moved_rise es rising.1)
  ]

  pub moved_below : (es : Entries) → AllByRecursion (λ e. is_below to e.0 ≡ true) (relocated (length from) to (below from es))
  moved_below [] = tt
  moved_below (e ∷ es) = elim (cases_Bool (is_below from e.0)) as (λ _. AllByRecursion (λ d. is_below to d.0 ≡ true) (relocated (length from) to (below from (e ∷ es)))) [
    | inl inside ↦ rw inside (ap (λ rest. is_below to (to ++ rest)) (moved_rest e.0 inside) ∙ below_split to (drop (length from + 1) e.0), moved_below es)
    | inr outside ↦ rw outside (moved_below es)
  ]

-- an entry with none below it
pub lie_alone : (first : List ℕ × Entry) → LieBelow (first ∷ [])
unfolding IsStrictlySortedBy
lie_alone first = (tt, tt)

-- what is moved, with its path first
pub moved-within : (from to : List ℕ) (entry : Entry) (es : Entries) → IsStrictlySortedBy (slice_cmp nat_cmp) (keys_of es) → find from es ≡ Some entry → (to, entry) ∷ relocated (length from) to (below from es) ≡ relocated (length from) to (within from es)
moved-within from to entry es rising found =
    ap (λ path. (path, entry) ∷ relocated (length from) to (below from es)) (sym (ap (λ rest. to ++ rest) (drop-length from) ∙ append-nil to))
    ∙ ap (relocated (length from) to) (sym (within-found from entry es rising found))

-- nothing is below what a prepared change puts in
pub none_below_fresh : (change : Changed) (names : Names) → IsTree names.next names.entries → MayCarry change names → HasNoneBelow change.fresh (staying change.gone names.entries)
none_below_fresh change names tree may = by change.fresh may.new may.tree.paths
  where
    by : (fresh : Entries) → AreNew fresh (staying change.gone names.entries) → AllByRecursion (λ e. is_path e.0 ≡ true) (with_entries fresh (staying change.gone names.entries)) → HasNoneBelow fresh (staying change.gone names.entries)
    by [] new paths = tt
    by (first ∷ more) new paths =
        let base = staying change.gone names.entries in
        let absent = or_parts (has first.0 more) (has first.0 base) (sym (has-with_entries first.0 more base) ∙ new.0) in
        let is = all_with-entry (λ e. is_path e.0 ≡ true) first.0 first.1 (with_entries more base) paths in
        none_below_new first.0 names.entries (path_has_bytes first.0 is) change.gone tree.hanging absent.1
