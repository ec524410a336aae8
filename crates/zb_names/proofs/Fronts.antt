-- Going along the proper fronts of a path: each of them is that of a directory.
use Rattle.std.proofs.Common.{◌≡◌, ℕ, ◌+◌, ◌<◌, true, ◌&&◌, eqb, ltb, List, ◌++◌, ◌∷◌, [], length, take, drop, map, Option, Some, None, refl, sym, ap, ◌∙◌, inl, inr}
use Rattle.std.proofs.lemmas.List.{append-nil, append_assoc, take-append-drop}
use Rattle.std.proofs.Math.Seq.{take-append-add}
use Rattle.std.proofs.lemmas.Bool.{cases_Bool, and_parts, false≢true, eqb-true, ltb-true, lt-ltb}
use Rattle.std.proofs.lemmas.Slice.Eq.{bytes_eq-Decides}
use Rattle.zb_types.specs.declared.calls.Refusal.{Refusal}
use Rattle.zb_types.specs.Names.{Entry, directory, numbered, find, fronts, first, not_dir, is_dir, is_below, walk}

-- the refusal of the shortest proper front of the path with at least i bytes that isn't a directory
abbrev pub walk_from : List (List ℕ × Entry) → List ℕ → ℕ → Option Refusal
walk_from entries path i = first (map (λ front. not_dir (find front entries)) (fronts (take i path) (drop i path)))

-- each proper front of the path is that of a directory
abbrev pub Hangs : List (List ℕ × Entry) → List ℕ → Type 0
Hangs entries path = (front : List ℕ) → 0 < length front → is_below front path ≡ true → is_dir (find front entries) ≡ true

is_dir-not_dir : (o : Option Entry) → not_dir o ≡ None → is_dir o ≡ true
is_dir-not_dir None h = absurd cc
is_dir-not_dir (Some directory) h = refl
is_dir-not_dir (Some (numbered n)) h = absurd cc

not_dir-is_dir : (o : Option Entry) → is_dir o ≡ true → not_dir o ≡ None
not_dir-is_dir None h = absurd (false≢true h)
not_dir-is_dir (Some directory) h = refl
not_dir-is_dir (Some (numbered n)) h = absurd (false≢true h)

-- the first of two refuses nothing, and so do the others
pub first_parts : (o : Option Refusal) (rest : List (Option Refusal)) → first (o ∷ rest) ≡ None → (o ≡ None) × (first rest ≡ None)
first_parts None rest h = (refl, h)
first_parts (Some why) rest h = absurd cc

-- what stands behind a front, where a path is below it
pub split_below : (front path : List ℕ) → is_below front path ≡ true → path ≡ front ++ 47 ∷ drop (length front + 1) path
split_below front path below =
    let same : take (length front + 1) path ≡ front ++ 47 ∷ [] = (bytes_eq-Decides (take (length front + 1) path) (front ++ 47 ∷ [])).0 below in
    sym (take-append-drop (length front + 1) path) ∙ ap (λ head. head ++ drop (length front + 1) path) same ∙ append_assoc front (47 ∷ []) (drop (length front + 1) path)

-- and the way back
pub below_split : (front rest : List ℕ) → is_below front (front ++ 47 ∷ rest) ≡ true
below_split front rest = (bytes_eq-Decides (take (length front + 1) (front ++ 47 ∷ rest)) (front ++ 47 ∷ [])).1 (take-append-add front (47 ∷ rest) 1)

module _ (entries : List (List ℕ × Entry)) where
  -- what is refused along the fronts that come later
  abbrev walk_on : List ℕ → List ℕ → Option Refusal
  walk_on before rest = first (map (λ front. not_dir (find front entries)) (fronts before rest))

  -- where a slash ends a front, that front is a directory's, and the walk goes on
  at_slash : (before rest : List ℕ) → 0 < length before → walk_on before (47 ∷ rest) ≡ None → (is_dir (find before entries) ≡ true) × (walk_on (before ++ 47 ∷ []) rest ≡ None)
  at_slash before rest some none =
      let here : ltb 0 (length before) ≡ true = lt-ltb 0 (length before) some in
      let parts = first_parts (not_dir (find before entries)) _ (rw here at none) in
      (is_dir-not_dir (find before entries) parts.0, parts.1)

  -- whatever the next byte is, the walk goes on
  goes_on : (before rest : List ℕ) (b : ℕ) → walk_on before (b ∷ rest) ≡ None → walk_on (before ++ b ∷ []) rest ≡ None
  goes_on before rest b none = elim (cases_Bool (eqb b 47 && ltb 0 (length before))) [
    | inl ends ↦ (first_parts (not_dir (find before entries)) _ (rw ends at none)).1
    | inr inside ↦ rw inside at none
  ]

  hangs_from : (before rest front after : List ℕ) → walk_on before rest ≡ None → 0 < length (before ++ front) → rest ≡ front ++ 47 ∷ after → is_dir (find (before ++ front) entries) ≡ true
  hangs_from before [] [] after none some split = absurd cc
  hangs_from before [] (c ∷ front) after none some split = absurd cc
  hangs_from before (b ∷ rest) [] after none some split =
      let slash : b ≡ 47 = cc in
      let long : 0 < length before = rw append-nil at some in
      rw append-nil ((at_slash before rest long (rw slash at none)).0)
  hangs_from before (b ∷ rest) (c ∷ front) after none some split =
      let byte : b ≡ c = cc in
      let others : rest ≡ front ++ 47 ∷ after = cc in
      let deeper : is_dir (find ((before ++ c ∷ []) ++ front) entries) ≡ true = hangs_from (before ++ c ∷ []) rest front after (rw byte at (goes_on before rest b none)) (rw append_assoc some) others in
      rw append_assoc at deeper

  -- a path whose walk refuses nothing hangs from directories
  pub hangs_from_walk : (path : List ℕ) → walk entries path ≡ None → Hangs entries path
  hangs_from_walk path none front some below = hangs_from [] path front (drop (length front + 1) path) none some (split_below front path below)

  walk_from_hangs : (before rest path : List ℕ) → path ≡ before ++ rest → Hangs entries path → walk_on before rest ≡ None
  walk_from_hangs before [] path split hangs = refl
  walk_from_hangs before (b ∷ rest) path split hangs =
      let on : walk_on (before ++ b ∷ []) rest ≡ None = walk_from_hangs (before ++ b ∷ []) rest path (split ∙ sym (append_assoc before (b ∷ []) rest)) hangs in
      elim (cases_Bool (eqb b 47 && ltb 0 (length before))) [
        | inl ends ↦
            let parts = and_parts (eqb b 47) (ltb 0 (length before)) ends in
            let slash : b ≡ 47 = eqb-true b 47 parts.0 in
            let below : is_below before path ≡ true = ap (is_below before) (split ∙ ap (λ k. before ++ k ∷ rest) slash) ∙ below_split before rest in
            let here : not_dir (find before entries) ≡ None = not_dir-is_dir (find before entries) (hangs before (ltb-true 0 (length before) parts.1) below) in
            rw (ends, here) on
        | inr inside ↦ rw inside on
      ]

  -- and the way back
  pub walk_from_hanging : (path : List ℕ) → Hangs entries path → walk entries path ≡ None
  walk_from_hanging path hangs = walk_from_hangs [] path path refl hangs
