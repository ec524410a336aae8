-- What refuses a renaming.
use Rattle.std.proofs.Common.{◌≡◌, ℕ, ◌+◌, ◌-◌, ◌≤◌, Bool, true, false, not, ◌||◌, List, [], ◌∷◌, ◌++◌, length, drop, Option, Some, None, refl, sym, ap, subst, ◌∙◌, inl, inr}
use Rattle.std.specs.Prelude.{nat_lt}
use Rattle.std.specs.Str.{bytes_eq}
use Rattle.std.proofs.lemmas.List.{length-append, length-drop, append-nil}
use Rattle.std.proofs.lemmas.Bool.{cases_Bool, le-ltb, not-false}
use Rattle.std.proofs.lemmas.Slice.Eq.{bytes_eq-Decides}
use Rattle.std.proofs.Math.Seq.{drop-length}
use Rattle.zb_types.specs.declared.calls.Refusal.{Refusal}
use Rattle.zb_types.specs.declared.calls.Refusal.TheVariants.{NoEntry, Exists, Inside, TooBig}
use Rattle.zb_types.specs.Paths.{is_path}
use Rattle.zb_types.specs.Names.{Entry, find, has, is_below, walk, first, when, max_path}
use Rattle.zb_names.specs.Answers.{gets_too_long, refusal_of_move}
use Rattle.zb_names.specs.Changing.{any_too_long, below}
use Rattle.zb_names.specs.Sound.{IsTree}
use Rattle.zb_names.proofs.Fronts.{first_parts}
use Rattle.zb_names.proofs.Refusals.{first_some, second_some, second_none, when_true, when_false, refusal_behind}
use Rattle.zb_names.proofs.Renaming.{CanMove}
use Rattle.zb_names.proofs.Within.{not_below_itself}

-- ---- too long a path

-- the path itself doesn't get too long, so only those below do
pub too_long_below : (from to : List ℕ) (es : List (List ℕ × Entry)) → length to ≤ max_path → gets_too_long es from to ≡ any_too_long (length from) (length to) (below from es)
too_long_below from to [] short = refl
too_long_below from to (e ∷ es) short = elim (cases_Bool (bytes_eq from e.0)) [
  | inl same ↦
      let key : from ≡ e.0 = (bytes_eq-Decides from e.0).0 same in
      let here : to ++ drop (length from) e.0 ≡ to = ap (λ p. to ++ drop (length from) p) (sym key) ∙ ap (λ r. to ++ r) (drop-length from) ∙ append-nil to in
      let fits : nat_lt max_path (length (to ++ drop (length from) e.0)) ≡ false = ap (λ p. nat_lt max_path (length p)) here ∙ le-ltb max_path (length to) short in
      let outside : is_below from e.0 ≡ false = subst (λ p. is_below from p ≡ false) key (not_below_itself from) in
      rw (same, fits, outside) (too_long_below from to es short)
  | inr apart ↦
      let long : length (to ++ drop (length from) e.0) ≡ length to + (length e.0 - length from) = length-append to (drop (length from) e.0) ∙ ap (λ n. length to + n) (length-drop (length from) e.0) in
      elim (cases_Bool (is_below from e.0)) [
        | inl inside ↦ rw (apart, inside, long) (ap (λ t. nat_lt max_path (length to + (length e.0 - length from)) || t) (too_long_below from to es short))
        | inr outside ↦ rw (apart, outside) (too_long_below from to es short)
      ]
]

-- ---- refusals

module _ (from to : List ℕ) (entries : List (List ℕ × Entry)) (walked : walk entries from ≡ None) (entry : Entry) (found : find from entries ≡ Some entry) where
  abbrev later : List (Option Refusal)
  later = walk entries to ∷ when (has to entries) Exists ∷ when (is_below from to) Inside ∷ when (gets_too_long entries from to) TooBig ∷ []

  -- where the entry is found, only what comes behind refuses
  behind_found : refusal_of_move entries from to ≡ first later
  behind_found = refusal_behind from entries walked entry later found

  module _ (walked_to : walk entries to ≡ None) where
    pub refused_exists : has to entries ≡ true → refusal_of_move entries from to ≡ Some Exists
    refused_exists present = behind_found ∙ second_some (walk entries to) _ _ Exists walked_to (when_true _ Exists present)

    module _ (absent : has to entries ≡ false) where
      behind_absent : refusal_of_move entries from to ≡ first (when (is_below from to) Inside ∷ when (gets_too_long entries from to) TooBig ∷ [])
      behind_absent = behind_found ∙ second_none (walk entries to) _ _ walked_to (when_false _ Exists absent)

      pub refused_inside : is_below from to ≡ true → refusal_of_move entries from to ≡ Some Inside
      refused_inside inside = behind_absent ∙ first_some _ _ Inside (when_true _ Inside inside)

      pub refused_long : is_below from to ≡ false → gets_too_long entries from to ≡ true → refusal_of_move entries from to ≡ Some TooBig
      refused_long outside long = behind_absent ∙ second_some _ _ [] TooBig (when_false _ Inside outside) (when_true _ TooBig long)

      pub not_refused : is_below from to ≡ false → gets_too_long entries from to ≡ false → refusal_of_move entries from to ≡ None
      not_refused outside short = behind_absent ∙ second_none _ _ [] (when_false _ Inside outside) (when_false _ TooBig short)

-- what isn't refused may move

when_none : (test : Bool) (why : Refusal) → when test why ≡ None → test ≡ false
when_none true why h = absurd cc
when_none false why h = refl

pub can_move : (next : ℕ) (from to : List ℕ) (entries : List (List ℕ × Entry)) → IsTree next entries → is_path to ≡ true → refusal_of_move entries from to ≡ None → CanMove from to entries
can_move next from to entries tree is_to free =
    let a = first_parts (walk entries from) _ free in
    let b = first_parts (when (not (has from entries)) NoEntry) _ a.1 in
    let c = first_parts (walk entries to) _ b.1 in
    let d = first_parts (when (has to entries) Exists) _ c.1 in
    let e = first_parts (when (is_below from to) Inside) _ d.1 in
    let f = first_parts (when (gets_too_long entries from to) TooBig) [] e.1 in
    record {
      rising = tree.rising;
      paths = tree.paths;
      hanging = tree.hanging;
      found = not-false (has from entries) (when_none _ NoEntry b.0);
      absent = when_none _ Exists d.0;
      walked = c.0;
      outside = when_none _ Inside e.0;
      is_to = is_to;
      short = when_none _ TooBig f.0;
    }
