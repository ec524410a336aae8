-- What is kept under numbers: the files and the room that are found there, also once one of these has changed.
use Rattle.std.proofs.Common.{◌≡◌, ℕ, ◌+◌, ◌<◌, ◌≤◌, List, [], ◌∷◌, length, Option, Some, None, refl, sym, ap, ◌∙◌, subst, inl, inr, arith}
use Rattle.std.specs.Prelude.{option_map, is_some, true, false, ◌==◌, if◌then◌else◌, IsSomeAnd}
use Rattle.std.specs.Prelude.{Result, Ok, Err, OnErr, IsOk, IsSome}
use Rattle.std.specs.Map.{lookup}
use Rattle.std.specs.BTreeMap.{is_at}
use Rattle.std.specs.Ordering.{nat_cmp}
use Rattle.std.proofs.lemmas.Bool.{cases_eq, false≢true}
use Rattle.std.proofs.lemmas.Bool.Decides.{nat_tests}
use Rattle.std.proofs.lemmas.Option.{none-some, same_Some}
use Rattle.zb_types.specs.declared.ids.Ptr.{Ptr}
use Rattle.zb_types.specs.Keyed.{look, put, replaced, without}
use Rattle.zb_types.proofs.KeyedLists.{KeysAbove, IsRising, look-below, look-put_same, look-put_other, look-replaced_same, look-replaced_other, look-without_same, look-without_other, over, look-changed, same_keyed, lookup-numbers, IsRising-put, IsRising-replaced, IsRising-without}
use Rattle.zb_tables.specs.Tables.{FileState}
use Rattle.zb_tables.specs.Fold.{Files}
use Rattle.zb_pointers.specs.declared.head.FileHead.{FileHead}
use Rattle.zb_pointers.specs.declared.kept.Kept.{Kept}
use Rattle.zb_pointers.specs.Seen.{file_in, and_file, files_in, rooms_in, change_in, changed_at, seen_head, blocks_of, file_with}

abbrev pub KeptFiles : Type 0
KeptFiles = List (ℕ × Kept)

abbrev pub file_at : Option Kept → Option FileState
file_at None = None
file_at (Some kept) = file_in kept

-- ---- order

above_and : (k j : ℕ) (o : Option FileState) (files : Files) → k < j → KeysAbove k files → KeysAbove k (and_file j o files)
above_and k j None files lt above = above
above_and k j (Some file) files lt above = (lt, above)

above_files : (k : ℕ) (es : KeptFiles) → KeysAbove k es → KeysAbove k (files_in es)
above_files k [] above = tt
above_files k (e ∷ es) above = above_and k e.0 (file_in e.1) (files_in es) above.0 (above_files k es above.1)

rising_and : (j : ℕ) (o : Option FileState) (files : Files) → KeysAbove j files → IsRising files → IsRising (and_file j o files)
rising_and j None files above rising = rising
rising_and j (Some file) files above rising = (above, rising)

rising_files : (es : KeptFiles) → IsRising es → IsRising (files_in es)
rising_files [] rising = tt
rising_files (e ∷ es) rising = rising_and e.0 (file_in e.1) (files_in es) (above_files e.0 es rising.0) (rising_files es rising.1)

-- ---- how many

few_and : (k n : ℕ) (o : Option FileState) (files : Files) → length files ≤ n → length (and_file k o files) ≤ n + 1
few_and k n None files few = omega arith
few_and k n (Some file) files few = omega arith

-- there are at most as many files as numbers under which something is kept
pub few_files : (es : KeptFiles) → length (files_in es) ≤ length es
few_files [] = omega arith
few_files (e ∷ es) = let few = few_and e.0 (length es) (file_in e.1) (files_in es) (few_files es) in omega arith

-- ---- what is found

look_and : (q j : ℕ) (o : Option FileState) (files : Files) → KeysAbove j files → look q (and_file j o files) ≡ (if j == q then o else look q files)
look_and q j None files above = elim (cases_eq j q) [
  | inl here ↦ let none = look-below q j files (omega arith) above in grind (arith, nat_tests)
  | inr other ↦ grind (arith, nat_tests)
]
look_and q j (Some file) files above = refl

if_file : (j q : ℕ) (kept : Kept) (o : Option Kept) → (if j == q then file_in kept else file_at o) ≡ file_at (if j == q then Some kept else o)
if_file j q kept o = elim (cases_eq j q) [
  | inl here ↦ grind (arith, nat_tests)
  | inr other ↦ grind (arith, nat_tests)
]

look-files : (q : ℕ) (es : KeptFiles) → IsRising es → look q (files_in es) ≡ file_at (look q es)
look-files q [] rising = refl
look-files q (e ∷ es) rising =
    look_and q e.0 (file_in e.1) (files_in es) (above_files e.0 es rising.0)
    ∙ ap (λ (o : Option FileState). if e.0 == q then file_in e.1 else o) (look-files q es rising.1)
    ∙ if_file e.0 q e.1 (look q es)

found_some : (k : ℕ) (es : KeptFiles) (kept : Kept) → look k es ≡ Some kept → is_some (look k es) ≡ true
found_some k es kept found = ap is_some found

-- ---- another file under a number

module _ (es : KeptFiles) (rising : IsRising es) (k : ℕ) (old new : Kept) (found : look k es ≡ Some old) where
  look_here : look k (files_in (replaced k new es)) ≡ file_in new
  look_here = look-files k (replaced k new es) (IsRising-replaced k new es rising) ∙ ap file_at (look-replaced_same k new es (found_some k es old found))

  look_there : (q : ℕ) → (k ≡ q → ⊥) → look q (files_in (replaced k new es)) ≡ look q (files_in es)
  look_there q other = look-files q (replaced k new es) (IsRising-replaced k new es rising) ∙ ap file_at (look-replaced_other q k new es other) ∙ sym (look-files q es rising)

  was_here : look k (files_in es) ≡ file_in old
  was_here = look-files k es rising ∙ ap file_at found

  new_rising : IsRising (files_in (replaced k new es))
  new_rising = rising_files (replaced k new es) (IsRising-replaced k new es rising)

  pub files_same : file_in new ≡ file_in old → files_in (replaced k new es) ≡ files_in es
  files_same same = same_keyed (files_in (replaced k new es)) (files_in es) new_rising (rising_files es rising) (λ q. elim (cases_eq k q) [
    | inl here ↦ subst (λ j. look j (files_in (replaced k new es)) ≡ look j (files_in es)) here (look_here ∙ same ∙ sym was_here)
    | inr other ↦ look_there q other
  ])

  pub files_put : (file : FileState) → file_in new ≡ Some file → files_in (replaced k new es) ≡ put k file (files_in es)
  files_put file is = same_keyed (files_in (replaced k new es)) (put k file (files_in es)) new_rising (IsRising-put k file (files_in es) (rising_files es rising)) (λ q. elim (cases_eq k q) [
    | inl here ↦ subst (λ j. look j (files_in (replaced k new es)) ≡ look j (put k file (files_in es))) here (look_here ∙ is ∙ sym (look-put_same k file (files_in es)))
    | inr other ↦ look_there q other ∙ sym (look-put_other q k file (files_in es) other)
  ])

  rising_in : (f : FileState → FileState) (files : Files) (o : Option FileState) → IsRising files → IsRising (change_in k f files o)
  rising_in f files None r = r
  rising_in f files (Some file) r = IsRising-replaced k (f file) files r

  look_in_here : (f : FileState → FileState) (files : Files) (o : Option FileState) → look k files ≡ o → look k (change_in k f files o) ≡ option_map f o
  look_in_here f files None e = e
  look_in_here f files (Some file) e = look-replaced_same k (f file) files (ap is_some e)

  look_in_there : (f : FileState → FileState) (files : Files) (o : Option FileState) (q : ℕ) → (k ≡ q → ⊥) → look q (change_in k f files o) ≡ look q files
  look_in_there f files None q other = refl
  look_in_there f files (Some file) q other = look-replaced_other q k (f file) files other

  pub files_changed : (f : FileState → FileState) → file_in new ≡ option_map f (file_in old) → files_in (replaced k new es) ≡ changed_at k f (files_in es)
  files_changed f is = same_keyed (files_in (replaced k new es)) (changed_at k f (files_in es)) new_rising (rising_in f (files_in es) (look k (files_in es)) (rising_files es rising)) (λ q. elim (cases_eq k q) [
    | inl here ↦ subst (λ j. look j (files_in (replaced k new es)) ≡ look j (changed_at k f (files_in es))) here
        (look_here ∙ is ∙ sym (look_in_here f (files_in es) (look k (files_in es)) refl ∙ ap (option_map f) was_here))
    | inr other ↦ look_there q other ∙ sym (look_in_there f (files_in es) (look k (files_in es)) q other)
  ])

-- no file is changed where there is none
pub unchanged_at : (es : KeptFiles) (rising : IsRising es) (k : ℕ) (f : FileState → FileState) → look k es ≡ None → files_in es ≡ changed_at k f (files_in es)
unchanged_at es rising k f none = sym (ap (change_in k f (files_in es)) (look-files k es rising ∙ ap file_at none))

-- room under a new number is no file
pub files_more : (es : KeptFiles) (rising : IsRising es) (k : ℕ) (kept : Kept) → look k es ≡ None → file_in kept ≡ None → files_in (put k kept es) ≡ files_in es
files_more es rising k kept none bare = same_keyed (files_in (put k kept es)) (files_in es) (rising_files (put k kept es) (IsRising-put k kept es rising)) (rising_files es rising) (λ q.
    look-files q (put k kept es) (IsRising-put k kept es rising) ∙ elim (cases_eq k q) [
      | inl here ↦ subst (λ j. file_at (look j (put k kept es)) ≡ look j (files_in es)) here
          (ap file_at (look-put_same k kept es) ∙ bare ∙ sym (look-files k es rising ∙ ap file_at none))
      | inr other ↦ ap file_at (look-put_other q k kept es other) ∙ sym (look-files q es rising)
    ])

-- a file under a number, whatever was kept there
pub files_kept : (es : KeptFiles) (rising : IsRising es) (k : ℕ) (kept : Kept) (file : FileState) → file_in kept ≡ Some file → files_in (put k kept es) ≡ put k file (files_in es)
files_kept es rising k kept file is = same_keyed (files_in (put k kept es)) (put k file (files_in es)) (rising_files (put k kept es) (IsRising-put k kept es rising)) (IsRising-put k file (files_in es) (rising_files es rising)) (λ q.
    look-files q (put k kept es) (IsRising-put k kept es rising) ∙ elim (cases_eq k q) [
      | inl here ↦ subst (λ j. file_at (look j (put k kept es)) ≡ look j (put k file (files_in es))) here
          (ap file_at (look-put_same k kept es) ∙ is ∙ sym (look-put_same k file (files_in es)))
      | inr other ↦ ap file_at (look-put_other q k kept es other) ∙ sym (look-files q es rising) ∙ sym (look-put_other q k file (files_in es) other)
    ])

pub files_less : (es : KeptFiles) (rising : IsRising es) (k : ℕ) → files_in (without k es) ≡ without k (files_in es)
files_less es rising k = same_keyed (files_in (without k es)) (without k (files_in es)) (rising_files (without k es) (IsRising-without k es rising)) (IsRising-without k (files_in es) (rising_files es rising)) (λ q.
    look-files q (without k es) (IsRising-without k es rising) ∙ elim (cases_eq k q) [
      | inl here ↦ subst (λ j. file_at (look j (without k es)) ≡ look j (without k (files_in es))) here
          (ap file_at (look-without_same k es) ∙ sym (look-without_same k (files_in es)))
      | inr other ↦ ap file_at (look-without_other q k es other) ∙ sym (look-without_other q k (files_in es) other ∙ look-files q es rising)
    ])

-- ---- rooms

abbrev pub room : Kept → ℕ
room kept = kept.blocks.room

look-rooms : (q : ℕ) (es : KeptFiles) → look q (rooms_in es) ≡ over room (look q es)
look-rooms q es = look-changed room q es

-- a file has at least this room
abbrev pub RoomIn : KeptFiles → ℕ → ℕ → Type 0
RoomIn es k n = IsSomeAnd (look k (rooms_in es)) (λ r. n ≤ r)

room_by : (o : Option ℕ) (r n : ℕ) → o ≡ Some r → n ≤ r → IsSomeAnd o (λ m. n ≤ m)
room_by None r n e le = absurd (none-some r e)
room_by (Some m) r n e le = let same = same_Some m r e in omega arith

room_of_all : (o : Option ℕ) (r n : ℕ) → o ≡ Some r → IsSomeAnd o (λ m. n ≤ m) → n ≤ r
room_of_all None r n e all = absurd (none-some r e)
room_of_all (Some m) r n e all = let same = same_Some m r e in omega arith

pub has_room : (es : KeptFiles) (k : ℕ) (kept : Kept) (n : ℕ) → look k es ≡ Some kept → n ≤ room kept → RoomIn es k n
has_room es k kept n found le = room_by (look k (rooms_in es)) (room kept) n (look-rooms k es ∙ ap (over room) found) le

pub room_had : (es : KeptFiles) (k : ℕ) (kept : Kept) (n : ℕ) → look k es ≡ Some kept → RoomIn es k n → n ≤ room kept
room_had es k kept n found has = room_of_all (look k (rooms_in es)) (room kept) n (look-rooms k es ∙ ap (over room) found) has

not_some_and : (o : Option ℕ) (n : ℕ) → o ≡ None → IsSomeAnd o (λ m. n ≤ m) → ⊥
not_some_and None n e has = has
not_some_and (Some m) n e has = none-some m (sym e)

pub no_room : (es : KeptFiles) (k n : ℕ) → look k es ≡ None → RoomIn es k n → ⊥
no_room es k n none has = not_some_and (look k (rooms_in es)) n (look-rooms k es ∙ ap (over room) none) has

pub rooms_other : (es : KeptFiles) (k q : ℕ) (new : Kept) → (q ≡ k → ⊥) → look q (rooms_in (replaced k new es)) ≡ look q (rooms_in es)
rooms_other es k q new other = look-rooms q (replaced k new es) ∙ ap (over room) (look-replaced_other q k new es (λ same. other (sym same))) ∙ sym (look-rooms q es)

pub rooms_put_other : (es : KeptFiles) (k q : ℕ) (new : Kept) → (q ≡ k → ⊥) → look q (rooms_in (put k new es)) ≡ look q (rooms_in es)
rooms_put_other es k q new other = look-rooms q (put k new es) ∙ ap (over room) (look-put_other q k new es (λ same. other (sym same))) ∙ sym (look-rooms q es)

pub rooms_without_other : (es : KeptFiles) (k q : ℕ) → (q ≡ k → ⊥) → look q (rooms_in (without k es)) ≡ look q (rooms_in es)
rooms_without_other es k q other = look-rooms q (without k es) ∙ ap (over room) (look-without_other q k es (λ same. other (sym same))) ∙ sym (look-rooms q es)

-- the room that is kept with another file
pub room_kept : (es : KeptFiles) (rising : IsRising es) (k : ℕ) (old new : Kept) (n m : ℕ) → look k es ≡ Some old → (n ≤ room old → m ≤ room new) → RoomIn es k n → RoomIn (replaced k new es) k m
room_kept es rising k old new n m found keeps has =
    has_room (replaced k new es) k new m (look-replaced_same k new es (found_some k es old found)) (keeps (room_had es k old n found has))

-- ---- what the map answers

pub look_one : (es : KeptFiles) (k : ℕ) (o : Option Kept) → o ≡ lookup (is_at (nat_cmp k)) es → look k es ≡ o
look_one es k o e = sym (lookup-numbers k es) ∙ sym e

pub file_found : (es : KeptFiles) (rising : IsRising es) (k : ℕ) (o : Option Kept) → o ≡ lookup (is_at (nat_cmp k)) es → look k (files_in es) ≡ file_at o
file_found es rising k o e = look-files k es rising ∙ ap file_at (look_one es k o e)

pub head_in : (blocks : List (ℕ × Ptr)) (head : Option FileHead) → seen_head (file_with blocks head) ≡ head
head_in blocks None = refl
head_in blocks (Some head) = refl

pub ok_unless : {T E : Type 0} (r : Result T E) (n : ℕ) → OnErr r (n ≡ 0) → 1 ≤ n → IsOk r
ok_unless (Ok x) n full le = refl
ok_unless (Err e) n full le = absurd (omega (arith, full))

pub absent_look : (o : Option Kept) → is_some o ≡ false → o ≡ None
absent_look None e = refl
absent_look (Some kept) e = absurd cc

pub present_room : (es : KeptFiles) (k : ℕ) (o : Option Kept) → look k es ≡ o → is_some o ≡ true → RoomIn es k 0
present_room es k None e some = absurd cc
present_room es k (Some kept) e some = has_room es k kept 0 e (omega arith)

pub on_err_always : {T E : Type 0} {P : Type 0} (r : Result T E) → P → OnErr r P
on_err_always (Ok x) p = tt
on_err_always (Err e) p = p

pub ok_where : {T E A : Type 0} (r : Result T E) (o : Option A) → OnErr r (o ≡ None) → IsSome o → IsOk r
ok_where (Ok x) o none some = refl
ok_where (Err e) None none some = absurd (false≢true some)
ok_where (Err e) (Some a) none some = absurd (none-some a (sym none))

pub blocks_there : (head : Option FileHead) (blocks : List (ℕ × Ptr)) (number : ℕ) → IsSome (look number (blocks_of (file_with blocks head))) → IsSome (look number blocks)
blocks_there None blocks number some = absurd (false≢true some)
blocks_there (Some head) blocks number some = some

pub not_there : {A : Type 0} (o : Option A) → o ≡ None → IsSome o → ⊥
not_there None none some = false≢true some
not_there (Some a) none some = none-some a (sym none)
