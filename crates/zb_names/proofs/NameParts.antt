-- What stands behind a slash of a path: names and slashes.
use Rattle.std.proofs.Common.{◌≡◌, ℕ, ◌≤◌, Bool, true, false, not, ◌&&◌, eqb, leb, List, [], ◌∷◌, ◌++◌, length, take, drop, refl, sym, ap, ◌∙◌, inl, inr, arith}
use Rattle.std.specs.List.{list_all}
use Rattle.std.proofs.lemmas.List.{append-nil, append_assoc, take-append-drop}
use Rattle.std.proofs.lemmas.Bool.{cases_Bool, and_parts, or_parts, or_cases, and_right, false≢true, eqb-true, and_from, le-leb}
use Rattle.std.proofs.lemmas.Slice.Eq.{bytes_eq-Decides}
use Rattle.zb_types.specs.Paths.{is_name_byte, is_name, are_names, is_path}
use Rattle.zb_names.specs.Shown.{begins_with}
use Rattle.zb_names.specs.Listing.{IsFront, has_slash}

are_names_past : (name before after : List ℕ) → are_names name (before ++ 47 ∷ after) ≡ true → are_names [] after ≡ true
are_names_past name [] after names = (and_parts (is_name name) (are_names [] after) names).1
are_names_past name (b ∷ before) after names = elim (cases_Bool (eqb b 47)) [
  | inl slash ↦ are_names_past [] before after (and_parts (is_name name) (are_names [] (before ++ 47 ∷ after)) (rw slash at names)).1
  | inr other ↦ are_names_past (name ++ b ∷ []) before after (rw other at names)
]

one_name : (name text : List ℕ) → has_slash text ≡ false → are_names name text ≡ is_name (name ++ text)
one_name name [] none = ap is_name (sym (append-nil name))
one_name name (b ∷ text) none =
    let parts = or_parts (eqb b 47) (has_slash text) none in
    rw parts.0 (one_name (name ++ b ∷ []) text parts.1 ∙ ap is_name (append_assoc name (b ∷ []) text))

slash_no_name_bytes : (text : List ℕ) → has_slash text ≡ true → list_all is_name_byte text ≡ false
slash_no_name_bytes [] some = absurd (false≢true some)
slash_no_name_bytes (b ∷ text) some = elim (or_cases (eqb b 47) (has_slash text) some) [
  | inl slash ↦ rw (eqb-true b 47 slash) refl
  | inr later ↦ and_right (is_name_byte b) (list_all is_name_byte text) (slash_no_name_bytes text later)
]

pub slash_no_name : (text : List ℕ) → has_slash text ≡ true → is_name text ≡ false
slash_no_name text some = and_right _ (list_all is_name_byte text) (slash_no_name_bytes text some)

-- among names, one is a name where it has no slash
name_by_slash : (text : List ℕ) → are_names [] text ≡ true → is_name text ≡ not (has_slash text)
name_by_slash text names = elim (cases_Bool (has_slash text)) [
  | inl some ↦ slash_no_name text some ∙ sym (ap not some)
  | inr none ↦ sym (one_name [] text none) ∙ names ∙ sym (ap not none)
]

names_behind_slash : (before after : List ℕ) → is_path (before ++ 47 ∷ after) ≡ true → are_names [] after ≡ true
names_behind_slash [] after path = (and_parts true (are_names [] after) (and_parts (true && are_names [] after) (leb (length after) 1023) path).0).1
names_behind_slash (c ∷ before) after path =
    let rest = before ++ 47 ∷ after in
    are_names_past [] before after (and_parts (eqb c 47) (are_names [] rest) (and_parts (eqb c 47 && are_names [] rest) (leb (length rest) 1023) path).0).1

pub split_front : (front path : List ℕ) → begins_with front path ≡ true → path ≡ front ++ drop (length front) path
split_front front path begins = sym (take-append-drop (length front) path) ∙ ap (λ head. head ++ drop (length front) path) ((bytes_eq-Decides (take (length front) path) front).0 begins)

-- what stands behind the front is a name where it has no slash
pub name_behind : (front path : List ℕ) → IsFront front → begins_with front path ≡ true → is_path path ≡ true → is_name (drop (length front) path) ≡ not (has_slash (drop (length front) path))
name_behind front path is_front begins is =
    let rest = drop (length front) path in
    let split : path ≡ is_front.0 ++ 47 ∷ rest = split_front front path begins ∙ ap (λ f. f ++ rest) is_front.1 ∙ append_assoc is_front.0 (47 ∷ []) rest in
    name_by_slash rest (names_behind_slash is_front.0 rest (sym (ap is_path split) ∙ is))

-- ---- a path behind another

are_names-slash : (name before after : List ℕ) → are_names name (before ++ 47 ∷ after) ≡ (are_names name before && are_names [] after)
are_names-slash name [] after = refl
are_names-slash name (b ∷ before) after = elim (cases_Bool (eqb b 47)) as (λ _. are_names name ((b ∷ before) ++ 47 ∷ after) ≡ (are_names name (b ∷ before) && are_names [] after)) [
  | inl slash ↦ rw slash (ap (λ t. is_name name && t) (are_names-slash [] before after) ∙ group (is_name name) (are_names [] before) (are_names [] after))
  | inr other ↦ rw other (are_names-slash (name ++ b ∷ []) before after)
]
  where
    group : (a b c : Bool) → (a && (b && c)) ≡ ((a && b) && c)
    group true b c = refl
    group false b c = refl

-- a path goes on behind another, if it isn't too long
pub is_path-longer : (path before after : List ℕ) → is_path path ≡ true → is_path (before ++ 47 ∷ after) ≡ true → length (path ++ 47 ∷ after) ≤ 1024 → is_path (path ++ 47 ∷ after) ≡ true
is_path-longer [] before after is other short = absurd (false≢true is)
is_path-longer (c ∷ path) before after is other short =
    let own = and_parts (eqb c 47 && are_names [] path) (leb (length path) 1023) is in
    let first = and_parts (eqb c 47) (are_names [] path) own.0 in
    let names : are_names [] (path ++ 47 ∷ after) ≡ true = are_names-slash [] path after ∙ and_from (are_names [] path) (are_names [] after) first.1 (names_behind_slash before after other) in
    let room : leb (length (path ++ 47 ∷ after)) 1023 ≡ true = le-leb (length (path ++ 47 ∷ after)) 1023 (omega (arith, short)) in
    and_from (eqb c 47 && are_names [] (path ++ 47 ∷ after)) (leb (length (path ++ 47 ∷ after)) 1023) (and_from (eqb c 47) (are_names [] (path ++ 47 ∷ after)) first.0 names) room
