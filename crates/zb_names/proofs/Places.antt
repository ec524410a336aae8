-- Where a path stands among others that rise: what is found there, put in and taken out.
use Rattle.std.proofs.Common.{◌≡◌, ℕ, zero, suc, ◌+◌, ◌<◌, ◌≤◌, true, false, cond, List, [], ◌∷◌, ◌++◌, length, get_or, take, drop, Some, None, refl, sym, ap, ◌∙◌, inl, inr, arith}
use Rattle.std.specs.List.{AllByRecursion, insert, remove}
use Rattle.std.specs.Prelude.{Result, Ok, Err, OnErr, is_ok, slice_get}
use Rattle.std.specs.List.Sorted.{IsStrictlySortedBy, IsPartitionedBy, IsPartitionPoint}
use Rattle.std.specs.declared.cmp.Ordering.{Ordering}
use Rattle.std.specs.declared.cmp.Ordering.TheVariants.{Less, Equal, Greater}
use Rattle.std.specs.Ordering.{nat_cmp, is_lt, is_le, is_eq}
use Rattle.std.specs.Cmp.Lexicographic.{slice_cmp}
use Rattle.std.specs.Str.{bytes_eq}
use Rattle.std.specs.Map.{keys_of}
use Rattle.std.proofs.lemmas.Cmp.{nat_list_cmp_total, tied_itself}
use Rattle.std.proofs.lemmas.Bool.{cases_Bool, false≢true}
use Rattle.std.proofs.lemmas.Slice.Eq.{bytes_eq-Decides}
use Rattle.zb_types.specs.Names.{Entry, find, others, with_entry}
use Rattle.zb_names.specs.declared.entries.Entry.{Entry as Given}
use Rattle.zb_names.specs.Shown.{listed, seen}
use Rattle.zb_names.specs.Placing.{IsPlace, is_less, from_start}
use Rattle.std.proofs.lemmas.List.{drop_more}
use Rattle.std.proofs.lemmas.Option.{same_Some}
use Rattle.zb_names.proofs.Below.{bytes_eq-cmp}
use Rattle.zb_names.proofs.Finding.{less_back}

abbrev Paths : Type 0
Paths = List (List ℕ)

abbrev Entries : Type 0
Entries = List (List ℕ × Entry)

-- each of these is less than the path
abbrev pub AllLess : List ℕ → Paths → Type 0
AllLess path ps = AllByRecursion (λ p. is_less p path ≡ true) ps

-- none of them is
abbrev pub NoneLess : List ℕ → Paths → Type 0
NoneLess path ps = AllByRecursion (λ p. is_less p path ≡ false) ps

pub is_Less : (o : Ordering) → is_lt o ≡ true → o ≡ Less
is_Less Less h = refl
is_Less Equal h = absurd (false≢true h)
is_Less Greater h = absurd (false≢true h)

less_trans : (a b c : List ℕ) → slice_cmp nat_cmp a b ≡ Less → is_less b c ≡ true → is_less a c ≡ true
less_trans a b c less more = ap is_lt (nat_list_cmp_total.trans a b c less (is_Less _ more))

-- ---- entries with their paths

pub key_at : (items : List (List ℕ × Given)) (i : ℕ) (x : List ℕ × Given) → i < length items → x ≡ get_or items i x → get_or (keys_of (listed items)) i x.0 ≡ x.0
key_at [] i x lt is = absurd (omega arith)
key_at (e ∷ items) zero x lt is = ap (λ d. d.0) (sym is)
key_at (e ∷ items) (suc i) x lt is = key_at items i x (omega arith) is

pub length-listed : (items : List (List ℕ × Given)) → length (listed items) ≡ length items
length-listed [] = refl
length-listed (e ∷ items) = ap suc (length-listed items)

pub length-keys : (es : Entries) → length (keys_of es) ≡ length es
length-keys [] = refl
length-keys (e ∷ es) = ap suc (length-keys es)

pub listed-append : (xs ys : List (List ℕ × Given)) → listed (xs ++ ys) ≡ listed xs ++ listed ys
listed-append [] ys = refl
listed-append (x ∷ xs) ys = ap (λ more. (x.0, seen x.1) ∷ more) (listed-append xs ys)

pub listed-drop : (i : ℕ) (items : List (List ℕ × Given)) → listed (drop i items) ≡ drop i (listed items)
listed-drop zero items = refl
listed-drop (suc i) [] = refl
listed-drop (suc i) (e ∷ items) = listed-drop i items

-- the first of those that are left
pub listed-drop_more : (items : List (List ℕ × Given)) (i : ℕ) (x : List ℕ × Given) → i < length items → x ≡ get_or items i x → listed (drop i items) ≡ (x.0, seen x.1) ∷ listed (drop (i + 1) items)
listed-drop_more items i x lt is = ap listed (drop_more items i x lt) ∙ ap (λ (y : List ℕ × Given). (y.0, seen y.1) ∷ listed (drop (i + 1) items)) (sym is)

pub listed-take : (i : ℕ) (items : List (List ℕ × Given)) → listed (take i items) ≡ take i (listed items)
listed-take zero items = refl
listed-take (suc i) [] = refl
listed-take (suc i) (e ∷ items) = ap (λ more. (e.0, seen e.1) ∷ more) (listed-take i items)

-- ---- where a search ends

-- each path is one of which this holds
key_of : (P : List ℕ → Type 0) (items : List (List ℕ × Given)) (i : ℕ) (d : List ℕ × Given) → AllByRecursion P (keys_of (listed items)) → i < length items → P (get_or items i d).0
key_of P [] i d all lt = absurd (omega arith)
key_of P (e ∷ items) zero d all lt = all.0
key_of P (e ∷ items) (suc i) d all lt = key_of P items i d all.1 (omega arith)

-- where a path is less, so are those before it
pub parted : (path : List ℕ) (items : List (List ℕ × Given)) → IsStrictlySortedBy (slice_cmp nat_cmp) (keys_of (listed items)) → IsPartitionedBy (λ e. is_less e.0 path) items
unfolding IsStrictlySortedBy
parted path [] sorted i j d le lt less = absurd (omega (arith, lt))
parted path (e ∷ items) sorted zero zero d le lt less = less
parted path (e ∷ items) sorted (suc i) zero d le lt less = absurd (omega (arith, le))
parted path (e ∷ items) sorted zero (suc j) d le lt less = less_trans e.0 (get_or items j d).0 path (key_of (λ p. slice_cmp nat_cmp e.0 p ≡ Less) items j d sorted.0 (omega (arith, lt))) less
parted path (e ∷ items) sorted (suc i) (suc j) d le lt less = parted path items sorted.1 i j d (omega (arith, le)) (omega (arith, lt)) less

before_from : (path : List ℕ) (items : List (List ℕ × Given)) (i : ℕ) → i ≤ length items → ((k : ℕ) (d : List ℕ × Given) → k < i → is_less (get_or items k d).0 path ≡ true) → AllLess path (take i (keys_of (listed items)))
before_from path items zero le all = tt
before_from path [] (suc i) le all = absurd (omega arith)
before_from path (e ∷ items) (suc i) le all = (all 0 e (omega arith), before_from path items i (omega arith) (λ k d lt. all (suc k) d (omega (arith, lt))))

none_from : (path : List ℕ) (items : List (List ℕ × Given)) (i : ℕ) → ((k : ℕ) (d : List ℕ × Given) → i ≤ k → k < length items → is_less (get_or items k d).0 path ≡ false) → NoneLess path (drop i (keys_of (listed items)))
none_from path [] zero all = tt
none_from path [] (suc i) all = tt
none_from path (e ∷ items) zero all = (all 0 e (omega arith) (omega arith), none_from path items zero (λ k d le lt. all (suc k) d (omega arith) (omega (arith, lt))))
none_from path (e ∷ items) (suc i) all = none_from path items i (λ k d le lt. all (suc k) d (omega (arith, le)) (omega (arith, lt)))

pub found_place : (path : List ℕ) (items : List (List ℕ × Given)) (i : ℕ) → i ≤ length items → IsPartitionPoint (λ e. is_less e.0 path ≡ true) (λ e. is_less e.0 path ≡ false) items i → IsPlace path (keys_of (listed items)) i
found_place path items i le point = record {
  within = omega (arith, length-keys (listed items), length-listed items);
  before = before_from path items i le (λ k d lt. point.0 k d (omega arith) lt);
  behind = none_from path items i point.1;
}

-- ---- from a start on

pub not_less-le : (p start : List ℕ) → is_less p start ≡ false → is_le (slice_cmp nat_cmp start p) ≡ true
not_less-le p start h = by (slice_cmp nat_cmp start p) refl
  where
    by : (o : Ordering) → slice_cmp nat_cmp start p ≡ o → is_le (slice_cmp nat_cmp start p) ≡ true
    by Less o = ap is_le o
    by Equal o = ap is_le o
    by Greater o = absurd (false≢true (sym h ∙ ap is_lt (less_back start p Greater o)))

pub less-not_le : (p start : List ℕ) → is_less p start ≡ true → is_le (slice_cmp nat_cmp start p) ≡ false
less-not_le p start h = ap is_le (less_back p start Less (is_Less _ h))

all_from : (start : List ℕ) (es : Entries) → NoneLess start (keys_of es) → from_start start es ≡ es
all_from start [] none = refl
all_from start (e ∷ es) none = rw (not_less-le e.0 start none.0) (ap (λ more. e ∷ more) (all_from start es none.1))

-- behind the place are the entries from the path on
pub drop-place : (start : List ℕ) (es : Entries) (i : ℕ) → AllLess start (take i (keys_of es)) → NoneLess start (drop i (keys_of es)) → drop i es ≡ from_start start es
drop-place start es zero before behind = sym (all_from start es behind)
drop-place start [] (suc i) before behind = refl
drop-place start (e ∷ es) (suc i) before behind = rw (less-not_le e.0 start before.0) (drop-place start es i before.1 behind)

-- an entry goes to its path's place
pub insert-place : (path : List ℕ) (entry : Entry) (es : Entries) (i : ℕ) → AllLess path (take i (keys_of es)) → NoneLess path (drop i (keys_of es)) → take i es ++ (path, entry) ∷ drop i es ≡ with_entry path entry es
insert-place path entry [] zero before behind = refl
insert-place path entry [] (suc i) before behind = refl
insert-place path entry (e ∷ es) zero before behind = rw behind.0 refl
insert-place path entry (e ∷ es) (suc i) before behind = rw before.0 (ap (λ more. e ∷ more) (insert-place path entry es i before.1 behind))

-- ---- what is found

apart : (path p : List ℕ) (o : Ordering) → slice_cmp nat_cmp path p ≡ o → is_eq o ≡ false → bytes_eq path p ≡ false
apart path p o is other = bytes_eq-cmp path p ∙ ap is_eq is ∙ other

not_le-apart : (path p : List ℕ) → is_le (slice_cmp nat_cmp path p) ≡ false → bytes_eq path p ≡ false
not_le-apart path p h = by (slice_cmp nat_cmp path p) refl
  where
    by : (o : Ordering) → slice_cmp nat_cmp path p ≡ o → bytes_eq path p ≡ false
    by Less o = absurd (false≢true (sym h ∙ ap is_le o))
    by Equal o = absurd (false≢true (sym h ∙ ap is_le o))
    by Greater o = apart path p Greater o refl

pub find-none : (path : List ℕ) (es : Entries) → from_start path es ≡ [] → find path es ≡ None
find-none path [] none = refl
find-none path (e ∷ es) none = elim (cases_Bool (is_le (slice_cmp nat_cmp path e.0))) [
  | inl le ↦ let some : e ∷ from_start path es ≡ [] = rw le at none in absurd cc
  | inr before ↦ rw (not_le-apart path e.0 before) (find-none path es (rw before at none))
]

-- nothing is found where all is behind
pub find-behind : (path : List ℕ) (es : Entries) → AllByRecursion (λ p. slice_cmp nat_cmp path p ≡ Less) (keys_of es) → find path es ≡ None
find-behind path [] all = refl
find-behind path (e ∷ es) all = rw (apart path e.0 Less all.0 refl) (find-behind path es all.1)

-- a path that is equal stands before all that another stands before
pub less_all : (path first : List ℕ) (ps : Paths) → is_le (slice_cmp nat_cmp path first) ≡ true → AllByRecursion (λ p. slice_cmp nat_cmp first p ≡ Less) ps → AllByRecursion (λ p. slice_cmp nat_cmp path p ≡ Less) ps
less_all path first [] le all = tt
less_all path first (p ∷ ps) le all = (by (slice_cmp nat_cmp path first) refl, less_all path first ps le all.1)
  where
    by : (o : Ordering) → slice_cmp nat_cmp path first ≡ o → slice_cmp nat_cmp path p ≡ Less
    by Less o = nat_list_cmp_total.trans path first p o all.0
    by Equal o = nat_list_cmp_total.congr path first p o ∙ all.0
    by Greater o = absurd (false≢true (sym (ap is_le o) ∙ le))

pub find-first : (path : List ℕ) (es : Entries) (first : List ℕ × Entry) (more : Entries) → IsStrictlySortedBy (slice_cmp nat_cmp) (keys_of es) → from_start path es ≡ first ∷ more → find path es ≡ cond (bytes_eq path first.0) (Some first.1) None
unfolding IsStrictlySortedBy
find-first path [] first more sorted split = absurd cc
find-first path (e ∷ es) first more sorted split = elim (cases_Bool (is_le (slice_cmp nat_cmp path e.0))) [
  | inl le ↦
      let both : e ∷ from_start path es ≡ first ∷ more = rw le at split in
      let same : e ≡ first = cc in
      ap (cond (bytes_eq path e.0) (Some e.1)) (find-behind path es (less_all path e.0 (keys_of es) le sorted.0)) ∙ ap (λ (f : List ℕ × Entry). cond (bytes_eq path f.0) (Some f.1) None) same
  | inr before ↦ rw (not_le-apart path e.0 before) (find-first path es first more sorted.1 (rw before at split))
]

-- ---- the first of what is lent

-- what comes first from a start on
pub first-split : (start : List ℕ) (es : Entries) (rest : List (List ℕ × Given)) (x : List ℕ × Given) → listed rest ≡ from_start start es → Some x ≡ slice_get rest 0 → from_start start es ≡ (x.0, seen x.1) ∷ listed (drop 1 rest)
first-split start es [] x is first = absurd cc
first-split start es (y ∷ rest) x is first = sym is ∙ ap (λ (z : List ℕ × Given). (z.0, seen z.1) ∷ listed rest) (sym (same_Some x y first))

pub first-none : (start : List ℕ) (es : Entries) (rest : List (List ℕ × Given)) → listed rest ≡ from_start start es → None ≡ slice_get rest 0 → from_start start es ≡ []
first-none start es [] is none = sym is
first-none start es (y ∷ rest) is none = absurd cc

-- ---- what is taken out

others_behind : (path : List ℕ) (es : Entries) → AllByRecursion (λ p. slice_cmp nat_cmp path p ≡ Less) (keys_of es) → others path es ≡ es
others_behind path [] behind = refl
others_behind path (e ∷ es) behind = rw (apart path e.0 Less behind.0 refl) (ap (λ more. e ∷ more) (others_behind path es behind.1))

less-apart : (path p : List ℕ) → is_less p path ≡ true → bytes_eq path p ≡ false
less-apart path p h = apart path p Greater (less_back p path Less (is_Less _ h)) refl

-- the entry at its path's place is taken out
pub remove-place : (path : List ℕ) (es : Entries) (i : ℕ) → IsStrictlySortedBy (slice_cmp nat_cmp) (keys_of es) → AllLess path (take i (keys_of es)) → i < length es → get_or (keys_of es) i path ≡ path → take i es ++ drop (suc i) es ≡ others path es
unfolding IsStrictlySortedBy
remove-place path [] i sorted before lt here = absurd (omega arith)
remove-place path (e ∷ es) zero sorted before lt here =
    let tied : slice_cmp nat_cmp path e.0 ≡ Equal = ap (slice_cmp nat_cmp path) here ∙ tied_itself nat_list_cmp_total path in
    let same : bytes_eq path e.0 ≡ true = (bytes_eq-Decides path e.0).1 (sym here) in
    rw same (sym (others_behind path es (less_all path e.0 (keys_of es) (ap is_le tied) sorted.0)))
remove-place path (e ∷ es) (suc i) sorted before lt here = rw (less-apart path e.0 before.0) (ap (λ more. e ∷ more) (remove-place path es i sorted.1 before.1 (omega arith) here))

apart-less : (path p : List ℕ) → is_less p path ≡ false → bytes_eq path p ≡ false → slice_cmp nat_cmp path p ≡ Less
apart-less path p not_less other = by (slice_cmp nat_cmp path p) refl
  where
    by : (o : Ordering) → slice_cmp nat_cmp path p ≡ o → slice_cmp nat_cmp path p ≡ Less
    by Less o = o
    by Equal o = absurd (false≢true (sym other ∙ bytes_eq-cmp path p ∙ ap is_eq o))
    by Greater o = absurd (false≢true (sym not_less ∙ ap is_lt (less_back path p Greater o)))

-- nothing is taken out where another path stands at the place, or none
pub others-apart : (path : List ℕ) (es : Entries) (i : ℕ) → IsStrictlySortedBy (slice_cmp nat_cmp) (keys_of es) → AllLess path (take i (keys_of es)) → NoneLess path (drop i (keys_of es)) → (i < length es → bytes_eq path (get_or (keys_of es) i path) ≡ false) → others path es ≡ es
unfolding IsStrictlySortedBy
others-apart path [] i sorted before behind other = refl
others-apart path (e ∷ es) zero sorted before behind other =
    let differs = other (omega arith) in
    let less = apart-less path e.0 behind.0 differs in
    rw differs (ap (λ more. e ∷ more) (others_behind path es (less_all path e.0 (keys_of es) (ap is_le less) sorted.0)))
others-apart path (e ∷ es) (suc i) sorted before behind other =
    rw (less-apart path e.0 before.0) (ap (λ more. e ∷ more) (others-apart path es i sorted.1 before.1 behind (λ lt. other (omega (arith, lt)))))

-- ---- what a change in memory leaves

pub listed-insert : (items : List (List ℕ × Given)) (i : ℕ) (path : List ℕ) (entry : Given) → listed (insert items i (path, entry)) ≡ take i (listed items) ++ (path, seen entry) ∷ drop i (listed items)
listed-insert items i path entry =
    listed-append (take i items) ((path, entry) ∷ drop i items)
    ∙ (λ k. listed-take i items k ++ (path, seen entry) ∷ listed-drop i items k)

pub listed-remove : (items : List (List ℕ × Given)) (i : ℕ) → listed (remove items i) ≡ take i (listed items) ++ drop (suc i) (listed items)
listed-remove items i =
    listed-append (take i items) (drop (suc i) items)
    ∙ (λ k. listed-take i items k ++ listed-drop (suc i) items k)

pub insert_ok : {T E : Type 0} (r : Result T E) (n m : ℕ) → OnErr r (n ≤ m) → m < n → is_ok r ≡ true
insert_ok (Ok x) n m full lt = refl
insert_ok (Err e) n m full lt = absurd (omega (arith, full))
