-- Paths that lie at or below others.
use Rattle.std.proofs.Common.{◌≡◌, ℕ, ◌+◌, true, ◌⊎◌, List, [], ◌∷◌, ◌++◌, length, drop, refl, sym, ap, ◌∙◌, inl, inr}
use Rattle.std.specs.Str.{bytes_eq}
use Rattle.std.proofs.lemmas.List.{append-nil, append_assoc}
use Rattle.std.proofs.lemmas.Bool.{or_cases, or_left, or_right}
use Rattle.std.proofs.lemmas.Slice.Eq.{bytes_eq-Decides}
use Rattle.std.proofs.Math.Seq.{drop-append_seam, drop-length}
use Rattle.zb_types.specs.Names.{is_below, is_within}
use Rattle.zb_names.proofs.Fronts.{split_below, below_split}
use Rattle.zb_names.proofs.Inserting.{bytes_eq_self}

-- what stands behind a path of which another is at or below
pub record LiesAt (path other : List ℕ) : Type 0 where
  pub split : other ≡ path ++ drop (length path) other
  pub rest : (drop (length path) other ≡ []) ⊎ ((after : List ℕ) × (drop (length path) other ≡ 47 ∷ after))

pub lies_within : (path other : List ℕ) → is_within path other ≡ true → LiesAt path other
lies_within path other inside = elim (or_cases (bytes_eq path other) (is_below path other) inside) [
  | inl same ↦
      let key : other ≡ path = sym ((bytes_eq-Decides path other).0 same) in
      let none : drop (length path) other ≡ [] = ap (drop (length path)) key ∙ drop-length path in
      record { split = key ∙ sym (append-nil path) ∙ ap (λ rest. path ++ rest) (sym none); rest = inl none }
  | inr below ↦
      let after = drop (length path + 1) other in
      let whole : other ≡ path ++ 47 ∷ after = split_below path other below in
      let rest : drop (length path) other ≡ 47 ∷ after = ap (drop (length path)) whole ∙ drop-append_seam path (47 ∷ after) in
      record { split = whole ∙ ap (λ r. path ++ r) (sym rest); rest = inr (after, rest) }
]

pub within_itself : (path : List ℕ) → is_within path path ≡ true
within_itself path = or_left (bytes_eq path path) (is_below path path) (bytes_eq_self path)

pub within_longer : (path rest : List ℕ) → is_within path (path ++ 47 ∷ rest) ≡ true
within_longer path rest = or_right (bytes_eq path (path ++ 47 ∷ rest)) (is_below path (path ++ 47 ∷ rest)) (below_split path rest)

-- what is below what lies within a path lies within it
pub within_below : (path front other : List ℕ) → is_within path front ≡ true → is_below front other ≡ true → is_within path other ≡ true
within_below path front other inside below =
    let at = lies_within path front inside in
    let after = drop (length front + 1) other in
    let whole : other ≡ front ++ 47 ∷ after = split_below front other below in
    elim at.rest [
      | inl none ↦
          let same : front ≡ path = at.split ∙ ap (λ r. path ++ r) none ∙ append-nil path in
          ap (is_within path) (whole ∙ ap (λ f. f ++ 47 ∷ after) same) ∙ within_longer path after
      | inr more ↦
          let longer : front ≡ path ++ 47 ∷ more.0 = at.split ∙ ap (λ r. path ++ r) more.1 in
          ap (is_within path) (whole ∙ ap (λ f. f ++ 47 ∷ after) longer ∙ append_assoc path (47 ∷ more.0) (47 ∷ after)) ∙ within_longer path (more.0 ++ 47 ∷ after)
    ]

-- two fronts of one path: they are the same, or one is a front of the other
pub fronts_compare : (a b s t : List ℕ) → a ++ 47 ∷ s ≡ b ++ 47 ∷ t → (a ≡ b) ⊎ (((r : List ℕ) × (b ≡ a ++ 47 ∷ r) × (s ≡ r ++ 47 ∷ t)) ⊎ ((r : List ℕ) × (a ≡ b ++ 47 ∷ r)))
fronts_compare [] [] s t same = inl refl
fronts_compare [] (c ∷ b) s t same =
    let head : c ≡ 47 = cc in
    let rest : s ≡ b ++ 47 ∷ t = cc in
    inr (inl (b, ap (λ k. k ∷ b) head, rest))
fronts_compare (c ∷ a) [] s t same =
    let head : c ≡ 47 = cc in
    inr (inr (a, ap (λ k. k ∷ a) head))
fronts_compare (c ∷ a) (d ∷ b) s t same =
    let head : c ≡ d = cc in
    let rest : a ++ 47 ∷ s ≡ b ++ 47 ∷ t = cc in
    elim (fronts_compare a b s t rest) [
      | inl equal ↦ inl (λ i. head i ∷ equal i)
      | inr apart ↦ elim apart [
        | inl longer ↦ inr (inl (longer.0, (λ i. sym head i ∷ longer.1 i), longer.2))
        | inr shorter ↦ inr (inr (shorter.0, λ i. head i ∷ shorter.1 i))
      ]
    ]
