-- Renaming a path with what lies below it leaves a tree.
use Rattle.std.proofs.Common.{◌≡◌, ℕ, ◌+◌, ◌<◌, ◌≤◌, Bool, true, false, cond, not, ◌&&◌, List, [], ◌∷◌, ◌++◌, length, drop, Option, Some, None, is_some, refl, sym, ap, subst, ◌∙◌, inl, inr, arith}
use Rattle.std.specs.Prelude.{nat_lt}
use Rattle.std.specs.List.{AllByRecursion, list_any, filter}
use Rattle.std.specs.List.Sorted.{IsStrictlySortedBy}
use Rattle.std.specs.declared.cmp.Ordering.TheVariants.{Less, Equal}
use Rattle.std.specs.Ordering.{nat_cmp}
use Rattle.std.specs.Cmp.Lexicographic.{slice_cmp}
use Rattle.std.specs.Str.{bytes_eq}
use Rattle.std.specs.Map.{keys_of}
use Rattle.std.proofs.lemmas.Cmp.{tied_itself, nat_list_cmp_total}
use Rattle.std.proofs.lemmas.List.{append-nil, append_assoc, append_cancel_left, length-append}
use Rattle.std.proofs.lemmas.Bool.{cases_Bool, or_parts, or_from, false≢true, ltb-false}
use Rattle.std.proofs.lemmas.Slice.Eq.{bytes_eq-Decides}
use Rattle.std.proofs.Math.Seq.{drop-append_seam, drop-length}
use Rattle.zb_types.specs.Paths.{is_path}
use Rattle.zb_types.specs.Names.{Entry, find, has, is_dir, is_below, is_within, walk, moved, max_path, with_entries, renamed}
use Rattle.zb_names.specs.Sound.{IsTree, has_number}
use Rattle.zb_names.specs.Changing.{AreNew, within, relocated}
use Rattle.zb_names.proofs.Fronts.{hangs_from_walk, walk_from_hanging, split_below, below_split}
use Rattle.zb_names.proofs.Inserting.{or_else, has-with_entries, find-with_entries}
use Rattle.zb_names.proofs.Finding.{has-find}
use Rattle.zb_names.proofs.Lying.{lies_within, within_itself, within_longer, within_below, fronts_compare}
use Rattle.zb_names.proofs.NameParts.{is_path-longer}
use Rattle.zb_names.proofs.Trees.{all-with_entry}

-- ---- what holds of each entry

all_has : (P : List ℕ → Type 0) (path : List ℕ) (es : List (List ℕ × Entry)) → AllByRecursion (λ e. P e.0) es → has path es ≡ true → P path
all_has P path [] all there = absurd (false≢true there)
all_has P path (e ∷ es) all there = elim (cases_Bool (bytes_eq path e.0)) [
  | inl same ↦ subst P (sym ((bytes_eq-Decides path e.0).0 same)) all.0
  | inr apart ↦ all_has P path es all.1 (rw apart at there)
]

all_filter : (P : List ℕ × Entry → Type 0) (test : List ℕ × Entry → Bool) (es : List (List ℕ × Entry)) → AllByRecursion P es → AllByRecursion P (filter test es)
all_filter P test [] all = tt
all_filter P test (e ∷ es) all = elim (test e) as (λ b. AllByRecursion P (cond b (e ∷ filter test es) (filter test es))) [ true ↦ (all.0, all_filter P test es all.1) | false ↦ all_filter P test es all.1 ]

has-filter : (path : List ℕ) (test : List ℕ × Entry → Bool) (es : List (List ℕ × Entry)) → has path es ≡ false → has path (filter test es) ≡ false
has-filter path test [] absent = refl
has-filter path test (e ∷ es) absent =
    let parts = or_parts (bytes_eq path e.0) (has path es) absent in
    elim (test e) as (λ b. has path (cond b (e ∷ filter test es) (filter test es)) ≡ false) [ true ↦ or_from (bytes_eq path e.0) (has path (filter test es)) parts.0 (has-filter path test es parts.1) | false ↦ has-filter path test es parts.1 ]

-- what a filter by paths keeps is found
find-filter : (path : List ℕ) (test : List ℕ → Bool) (es : List (List ℕ × Entry)) → test path ≡ true → find path (filter (λ e. test e.0) es) ≡ find path es
find-filter path test [] kept = refl
find-filter path test (e ∷ es) kept = elim (cases_Bool (test e.0)) as (λ _. find path (filter (λ d. test d.0) (e ∷ es)) ≡ find path (e ∷ es)) [
  | inl stays ↦ rw stays (ap (cond (bytes_eq path e.0) (Some e.1)) (find-filter path test es kept))
  | inr goes ↦
      let apart : bytes_eq path e.0 ≡ false = elim (cases_Bool (bytes_eq path e.0)) [
        | inl same ↦ absurd (false≢true (sym goes ∙ ap test (sym ((bytes_eq-Decides path e.0).0 same)) ∙ kept))
        | inr other ↦ other
      ] in
      rw (goes, apart) (find-filter path test es kept)
]

pub dir_there : (path : List ℕ) (es : List (List ℕ × Entry)) → is_dir (find path es) ≡ true → has path es ≡ true
dir_there path es dir = has-find path es ∙ by (find path es) dir
  where
    by : (o : Option Entry) → is_dir o ≡ true → is_some o ≡ true
    by None h = absurd (false≢true h)
    by (Some entry) h = refl

-- ---- a path that may be renamed

pub record CanMove (from to : List ℕ) (entries : List (List ℕ × Entry)) : Type 0 where
  pub rising : IsStrictlySortedBy (slice_cmp nat_cmp) (keys_of entries)
  pub paths : AllByRecursion (λ e. is_path e.0 ≡ true) entries
  pub hanging : AllByRecursion (λ e. walk entries e.0 ≡ None) entries
  pub found : has from entries ≡ true
  pub absent : has to entries ≡ false
  pub walked : walk entries to ≡ None
  pub outside : is_below from to ≡ false
  pub is_to : is_path to ≡ true
  pub short : list_any (λ e. is_within from e.0 && nat_lt max_path (length (moved from to e.0))) entries ≡ false

path_length : (path : List ℕ) → is_path path ≡ true → 0 < length path
path_length [] is = absurd (false≢true is)
path_length (b ∷ rest) is = omega arith

module _ (from to : List ℕ) (entries : List (List ℕ × Entry)) (can : CanMove from to entries) where
  -- a path with its first bytes replaced
  abbrev there : List ℕ → List ℕ
  there path = to ++ drop (length from) path

  abbrev fresh : List (List ℕ × Entry)
  fresh = relocated (length from) to (within from entries)

  abbrev rest : List (List ℕ × Entry)
  rest = filter (λ e. not (is_within from e.0)) entries

  -- no entry lies at the new path or below it
  none_at_new : (es : List (List ℕ × Entry)) → has to es ≡ false → AllByRecursion (λ e. walk entries e.0 ≡ None) es → AllByRecursion (λ e. is_within to e.0 ≡ false) es
  none_at_new [] absent hanging = tt
  none_at_new (e ∷ es) absent hanging =
      let parts = or_parts (bytes_eq to e.0) (has to es) absent in
      let outside : is_below to e.0 ≡ false = elim (cases_Bool (is_below to e.0)) [
        | inl below ↦
            let dir : is_dir (find to entries) ≡ true = hangs_from_walk entries e.0 hanging.0 to (path_length to can.is_to) below in
            absurd (false≢true (sym can.absent ∙ dir_there to entries dir))
        | inr other ↦ other
      ] in
      (or_from (bytes_eq to e.0) (is_below to e.0) parts.0 outside, none_at_new es parts.1 hanging.1)

  pub entries_apart : AllByRecursion (λ e. is_within to e.0 ≡ false) entries
  entries_apart = none_at_new entries can.absent can.hanging

  -- what is there doesn't lie at the new path
  there_apart : (path : List ℕ) → has path entries ≡ true → is_within to path ≡ false
  there_apart path present = all_has (λ p. is_within to p ≡ false) path entries entries_apart present

  absent_at_new : (path : List ℕ) → is_within to path ≡ true → has path entries ≡ false
  absent_at_new path inside = elim (cases_Bool (has path entries)) [
    | inl present ↦ absurd (false≢true (sym (there_apart path present) ∙ inside))
    | inr absent ↦ absent
  ]

  -- the old path doesn't lie at the new one, nor the new one at the old
  old_apart : is_within to from ≡ false
  old_apart = there_apart from can.found

  new_apart : is_within from to ≡ false
  new_apart = elim (cases_Bool (bytes_eq from to)) [
    | inl same ↦ absurd (false≢true (sym old_apart ∙ ap (is_within to) ((bytes_eq-Decides from to).0 same) ∙ within_itself to))
    | inr apart ↦ or_from (bytes_eq from to) (is_below from to) apart can.outside
  ]

  -- a moved path lies at the new path
  pub there_within : (path : List ℕ) → is_within from path ≡ true → is_within to (there path) ≡ true
  there_within path inside = elim (lies_within from path inside).rest [
    | inl none ↦ ap (λ r. is_within to (to ++ r)) none ∙ ap (is_within to) (append-nil to) ∙ within_itself to
    | inr more ↦ ap (λ r. is_within to (to ++ r)) more.1 ∙ within_longer to more.0
  ]

  -- paths that are moved to the same path are the same
  there_same : (p q : List ℕ) → is_within from p ≡ true → is_within from q ≡ true → there p ≡ there q → p ≡ q
  there_same p q in_p in_q same =
      let rests : drop (length from) p ≡ drop (length from) q = append_cancel_left to (drop (length from) p) (drop (length from) q) same in
      (lies_within from p in_p).split ∙ ap (λ r. from ++ r) rests ∙ sym (lies_within from q in_q).split

  -- ---- the fresh entries

  absent_later : (path : List ℕ) (es : List (List ℕ × Entry)) → is_within from path ≡ true → AllByRecursion (λ k. slice_cmp nat_cmp path k ≡ Less) (keys_of es) → has (there path) (relocated (length from) to (within from es)) ≡ false
  absent_later path [] inside all = refl
  absent_later path (e ∷ es) inside all = elim (cases_Bool (is_within from e.0)) as (λ _. has (there path) (relocated (length from) to (within from (e ∷ es))) ≡ false) [
    | inr outside ↦ rw outside (absent_later path es inside all.1)
    | inl also ↦
        let apart : bytes_eq (there path) (there e.0) ≡ false = elim (cases_Bool (bytes_eq (there path) (there e.0))) [
          | inl same ↦
              let key : path ≡ e.0 = there_same path e.0 inside also ((bytes_eq-Decides (there path) (there e.0)).0 same) in
              let both : Less ≡ Equal = sym all.0 ∙ ap (slice_cmp nat_cmp path) (sym key) ∙ tied_itself nat_list_cmp_total path in
              absurd cc
          | inr other ↦ other
        ] in
        rw also (or_from (bytes_eq (there path) (there e.0)) (has (there path) (relocated (length from) to (within from es))) apart (absent_later path es inside all.1))
  ]

  pub are_new : (base es : List (List ℕ × Entry)) → ((path : List ℕ) → is_within to path ≡ true → has path base ≡ false) → IsStrictlySortedBy (slice_cmp nat_cmp) (keys_of es)
      → AreNew (relocated (length from) to (within from es)) base
  unfolding IsStrictlySortedBy
  are_new base [] none sorted = tt
  are_new base (e ∷ es) none sorted = elim (cases_Bool (is_within from e.0)) as (λ _. AreNew (relocated (length from) to (within from (e ∷ es))) base) [
    | inr outside ↦ rw outside (are_new base es none sorted.1)
    | inl inside ↦
        let absent : has (there e.0) (with_entries (relocated (length from) to (within from es)) base) ≡ false =
        has-with_entries (there e.0) (relocated (length from) to (within from es)) base ∙ or_from (has (there e.0) (relocated (length from) to (within from es))) (has (there e.0) base) (absent_later e.0 es inside sorted.0) (none (there e.0) (there_within e.0 inside)) in
        rw inside (absent, are_new base es none sorted.1)
  ]

  pub fresh_new_rest : AreNew fresh rest
  fresh_new_rest = are_new rest entries (λ path inside. has-filter path (λ e. not (is_within from e.0)) entries (absent_at_new path inside)) can.rising

  -- ---- the renamed entries

  abbrev result : List (List ℕ × Entry)
  result = renamed from to entries

  find_result : (path : List ℕ) → find path result ≡ or_else (find path fresh) (find path rest)
  find_result path = find-with_entries path fresh rest fresh_new_rest

  find_fresh_none : (path : List ℕ) (es : List (List ℕ × Entry)) → is_within to path ≡ false → find path (relocated (length from) to (within from es)) ≡ None
  find_fresh_none path [] outside = refl
  find_fresh_none path (e ∷ es) outside = elim (cases_Bool (is_within from e.0)) as (λ _. find path (relocated (length from) to (within from (e ∷ es))) ≡ None) [
    | inr other ↦ rw other (find_fresh_none path es outside)
    | inl inside ↦
        let apart : bytes_eq path (there e.0) ≡ false = elim (cases_Bool (bytes_eq path (there e.0))) [
          | inl same ↦ absurd (false≢true (sym outside ∙ ap (is_within to) ((bytes_eq-Decides path (there e.0)).0 same) ∙ there_within e.0 inside))
          | inr different ↦ different
        ] in
        rw (inside, apart) (find_fresh_none path es outside)
  ]

  find_fresh : (path : List ℕ) (es : List (List ℕ × Entry)) → is_within from path ≡ true → find (there path) (relocated (length from) to (within from es)) ≡ find path es
  find_fresh path [] inside = refl
  find_fresh path (e ∷ es) inside = elim (cases_Bool (bytes_eq path e.0)) as (λ _. find (there path) (relocated (length from) to (within from (e ∷ es))) ≡ find path (e ∷ es)) [
    | inl same ↦
        let key : path ≡ e.0 = (bytes_eq-Decides path e.0).0 same in
        let also : is_within from e.0 ≡ true = sym (ap (is_within from) key) ∙ inside in
        let moved_same : bytes_eq (there path) (there e.0) ≡ true = (bytes_eq-Decides (there path) (there e.0)).1 (ap there key) in
        rw (also, moved_same, same) refl
    | inr apart ↦ elim (cases_Bool (is_within from e.0)) as (λ _. find (there path) (relocated (length from) to (within from (e ∷ es))) ≡ find path (e ∷ es)) [
      | inr outside ↦ rw (outside, apart) (find_fresh path es inside)
      | inl also ↦
          let moved_apart : bytes_eq (there path) (there e.0) ≡ false = elim (cases_Bool (bytes_eq (there path) (there e.0))) [
            | inl same ↦ absurd (false≢true (sym apart ∙ (bytes_eq-Decides path e.0).1 (there_same path e.0 inside also ((bytes_eq-Decides (there path) (there e.0)).0 same))))
            | inr different ↦ different
          ] in
          rw (also, moved_apart, apart) (find_fresh path es inside)
    ]
  ]

  -- a directory that isn't moved stays
  dir_stays : (path : List ℕ) → is_dir (find path entries) ≡ true → is_within from path ≡ false → is_dir (find path result) ≡ true
  dir_stays path dir outside =
      let at_new = there_apart path (dir_there path entries dir) in
      ap is_dir (find_result path ∙ ap (λ o. or_else o (find path rest)) (find_fresh_none path entries at_new) ∙ find-filter path (λ p. not (is_within from p)) entries (ap not outside)) ∙ dir

  or_else_dir : (a b : Option Entry) → is_dir a ≡ true → is_dir (or_else a b) ≡ true
  or_else_dir None b dir = absurd (false≢true dir)
  or_else_dir (Some entry) b dir = dir

  -- one that is moved is a directory at its new path
  dir_moves : (path : List ℕ) → is_dir (find path entries) ≡ true → is_within from path ≡ true → is_dir (find (there path) result) ≡ true
  dir_moves path dir inside =
      ap is_dir (find_result (there path)) ∙ or_else_dir (find (there path) fresh) (find (there path) rest) (ap is_dir (find_fresh path entries inside) ∙ dir)

  -- a proper front of the new path
  front_of_new : (path : List ℕ) → 0 < length path → is_below path to ≡ true → is_dir (find path result) ≡ true
  front_of_new path some below =
      let dir : is_dir (find path entries) ≡ true = hangs_from_walk entries to can.walked path some below in
      let outside : is_within from path ≡ false = elim (cases_Bool (is_within from path)) [
        | inl inside ↦ absurd (false≢true (sym new_apart ∙ within_below from path to inside below))
        | inr other ↦ other
      ] in
      dir_stays path dir outside

  -- ---- each of them hangs

  stays_hanging : (path : List ℕ) → walk entries path ≡ None → is_within from path ≡ false → walk result path ≡ None
  stays_hanging path hangs outside = walk_from_hanging result path (λ front some below.
      let dir : is_dir (find front entries) ≡ true = hangs_from_walk entries path hangs front some below in
      let apart : is_within from front ≡ false = elim (cases_Bool (is_within from front)) [
        | inl inside ↦ absurd (false≢true (sym outside ∙ within_below from front path inside below))
        | inr other ↦ other
      ] in
      dir_stays front dir apart)

  moves_hanging : (path : List ℕ) → walk entries path ≡ None → is_within from path ≡ true → 0 < length from → walk result (there path) ≡ None
  moves_hanging path hangs inside long = walk_from_hanging result (there path) (λ front some below.
      let at = lies_within from path inside in
      let after = drop (length front + 1) (there path) in
      let whole : there path ≡ front ++ 47 ∷ after = split_below front (there path) below in
      elim at.rest [
        | inl none ↦
            let same : there path ≡ to = ap (λ r. to ++ r) none ∙ append-nil to in
            front_of_new front some (sym (ap (is_below front) same) ∙ below)
        | inr more ↦
            let old : path ≡ from ++ 47 ∷ more.0 = at.split ∙ ap (λ r. from ++ r) more.1 in
            let split : to ++ 47 ∷ more.0 ≡ front ++ 47 ∷ after = ap (λ r. to ++ r) (sym more.1) ∙ whole in
            elim (fronts_compare to front more.0 after split) [
              | inl equal ↦
                  let dir : is_dir (find from entries) ≡ true = hangs_from_walk entries path hangs from long (ap (is_below from) old ∙ below_split from more.0) in
                  let here : there from ≡ front = ap (λ r. to ++ r) (drop-length from) ∙ append-nil to ∙ equal in
                  ap (λ p. is_dir (find p result)) (sym here) ∙ dir_moves from dir (within_itself from)
              | inr apart ↦ elim apart [
                | inl longer ↦
                    let mid = from ++ 47 ∷ longer.0 in
                    let below_mid : is_below mid path ≡ true =
                    ap (is_below mid) (old ∙ ap (λ s. from ++ 47 ∷ s) longer.2 ∙ sym (append_assoc from (47 ∷ longer.0) (47 ∷ after))) ∙ below_split mid after in
                    let some_mid : 0 < length mid = omega (arith, length-append from (47 ∷ longer.0), long) in
                    let dir : is_dir (find mid entries) ≡ true = hangs_from_walk entries path hangs mid some_mid below_mid in
                    let here : there mid ≡ front = ap (λ r. to ++ r) (drop-append_seam from (47 ∷ longer.0)) ∙ sym longer.1 in
                    ap (λ p. is_dir (find p result)) (sym here) ∙ dir_moves mid dir (within_longer from longer.0)
                | inr shorter ↦ front_of_new front some (ap (is_below front) shorter.1 ∙ below_split front shorter.0)
              ]
            ]
      ])

  all_with_entries : (P : List ℕ × Entry → Type 0) (new es : List (List ℕ × Entry)) → AllByRecursion P new → AllByRecursion P es → AllByRecursion P (with_entries new es)
  all_with_entries P [] es fresh_all all = all
  all_with_entries P (n ∷ new) es fresh_all all = all-with_entry P n.0 n.1 (with_entries new es) fresh_all.0 (all_with_entries P new es fresh_all.1 all)

  rest_hanging : (es : List (List ℕ × Entry)) → AllByRecursion (λ e. walk entries e.0 ≡ None) es → AllByRecursion (λ e. walk result e.0 ≡ None) (filter (λ e. not (is_within from e.0)) es)
  rest_hanging [] all = tt
  rest_hanging (e ∷ es) all = elim (cases_Bool (is_within from e.0)) as (λ _. AllByRecursion (λ d. walk result d.0 ≡ None) (filter (λ d. not (is_within from d.0)) (e ∷ es))) [
    | inl inside ↦ rw inside (rest_hanging es all.1)
    | inr outside ↦ rw outside (stays_hanging e.0 all.0 outside, rest_hanging es all.1)
  ]

  fresh_hanging : (es : List (List ℕ × Entry)) → 0 < length from → AllByRecursion (λ e. walk entries e.0 ≡ None) es → AllByRecursion (λ e. walk result e.0 ≡ None) (relocated (length from) to (within from es))
  fresh_hanging [] long all = tt
  fresh_hanging (e ∷ es) long all = elim (cases_Bool (is_within from e.0)) as (λ _. AllByRecursion (λ d. walk result d.0 ≡ None) (relocated (length from) to (within from (e ∷ es)))) [
    | inr outside ↦ rw outside (fresh_hanging es long all.1)
    | inl inside ↦ rw inside (moves_hanging e.0 all.0 inside long, fresh_hanging es long all.1)
  ]

  -- ---- each of them is a path

  moved_path : (path : List ℕ) → is_path path ≡ true → is_within from path ≡ true → length (there path) ≤ 1024 → is_path (there path) ≡ true
  moved_path path is inside short =
      let at = lies_within from path inside in
      elim at.rest [
        | inl none ↦ ap (λ r. is_path (to ++ r)) none ∙ ap is_path (append-nil to) ∙ can.is_to
        | inr more ↦
            let old : path ≡ from ++ 47 ∷ more.0 = at.split ∙ ap (λ r. from ++ r) more.1 in
            let room : length (to ++ 47 ∷ more.0) ≤ 1024 = subst (λ r. length (to ++ r) ≤ 1024) more.1 short in
            ap (λ r. is_path (to ++ r)) more.1 ∙ is_path-longer to from more.0 can.is_to (sym (ap is_path old) ∙ is) room
      ]

  pub fresh_paths : (es : List (List ℕ × Entry)) → AllByRecursion (λ e. is_path e.0 ≡ true) es → list_any (λ e. is_within from e.0 && nat_lt max_path (length (moved from to e.0))) es ≡ false
      → AllByRecursion (λ e. is_path e.0 ≡ true) (relocated (length from) to (within from es))
  fresh_paths [] all short = tt
  fresh_paths (e ∷ es) all short =
      let parts = or_parts (is_within from e.0 && nat_lt max_path (length (there e.0))) (list_any (λ d. is_within from d.0 && nat_lt max_path (length (there d.0))) es) short in
      elim (cases_Bool (is_within from e.0)) as (λ _. AllByRecursion (λ d. is_path d.0 ≡ true) (relocated (length from) to (within from (e ∷ es)))) [
        | inr outside ↦ rw outside (fresh_paths es all.1 parts.1)
        | inl inside ↦
            let fits : nat_lt max_path (length (there e.0)) ≡ false = sym (ap (λ b. b && nat_lt max_path (length (there e.0))) inside) ∙ parts.0 in
            rw inside (moved_path e.0 all.0 inside (ltb-false max_path (length (there e.0)) fits), fresh_paths es all.1 parts.1)
      ]

  -- each file keeps its number
  fresh_numbers : (next : ℕ) (es : List (List ℕ × Entry)) → AllByRecursion (λ e. has_number next e.1 ≡ true) es → AllByRecursion (λ e. has_number next e.1 ≡ true) (relocated (length from) to (within from es))
  fresh_numbers next [] all = tt
  fresh_numbers next (e ∷ es) all = elim (cases_Bool (is_within from e.0)) as (λ _. AllByRecursion (λ d. has_number next d.1 ≡ true) (relocated (length from) to (within from (e ∷ es)))) [
    | inl inside ↦ rw inside (all.0, fresh_numbers next es all.1)
    | inr outside ↦ rw outside (fresh_numbers next es all.1)
  ]

  -- so they are a tree
  pub IsTree-renamed : (next : ℕ) → IsTree next entries → is_path from ≡ true → IsStrictlySortedBy (slice_cmp nat_cmp) (keys_of result) → IsTree next result
  IsTree-renamed next tree is_from rising = record {
    numbered = tree.numbered;
    files = all_with_entries (λ e. has_number next e.1 ≡ true) fresh rest (fresh_numbers next entries tree.files) (all_filter (λ e. has_number next e.1 ≡ true) (λ e. not (is_within from e.0)) entries tree.files);
    rising = rising;
    paths = all_with_entries (λ e. is_path e.0 ≡ true) fresh rest (fresh_paths entries can.paths can.short) (all_filter (λ e. is_path e.0 ≡ true) (λ e. not (is_within from e.0)) entries can.paths);
    hanging = all_with_entries (λ e. walk result e.0 ≡ None) fresh rest (fresh_hanging entries (path_length from is_from) can.hanging) (rest_hanging entries can.hanging);
  }
