-- The first of several refusals.
use Rattle.std.proofs.Common.{◌≡◌, ℕ, Bool, true, false, not, List, [], ◌∷◌, Option, Some, None, is_some, option_map, refl, sym, ap, ◌∙◌}
use Rattle.std.proofs.lemmas.Bool.{false≢true}
use Rattle.zb_types.specs.declared.calls.Refusal.{Refusal}
use Rattle.zb_types.specs.declared.calls.Refusal.TheVariants.{NoEntry, Exists}
use Rattle.zb_types.specs.Names.{Entry, first, when, walk, find, has}
use Rattle.zb_names.specs.declared.entries.Entry.{Entry as Given}
use Rattle.zb_names.specs.Shown.{seen}
use Rattle.zb_names.specs.Answers.{refusal_at}
use Rattle.zb_names.proofs.Finding.{has-find}

-- the first one refuses
pub first_some : (w : Option Refusal) (rest : List (Option Refusal)) (why : Refusal) → w ≡ Some why → first (w ∷ rest) ≡ Some why
first_some w rest why refused = ap (λ v. first (v ∷ rest)) refused

-- the first one doesn't refuse
pub first_none : (w : Option Refusal) (rest : List (Option Refusal)) → w ≡ None → first (w ∷ rest) ≡ first rest
first_none w rest free = ap (λ v. first (v ∷ rest)) free

pub when_true : (t : Bool) (why : Refusal) → t ≡ true → when t why ≡ Some why
when_true t why h = ap (λ b. when b why) h

pub when_false : (t : Bool) (why : Refusal) → t ≡ false → when t why ≡ None
when_false t why h = ap (λ b. when b why) h

-- the second one refuses
pub second_some : (w v : Option Refusal) (rest : List (Option Refusal)) (why : Refusal) → w ≡ None → v ≡ Some why → first (w ∷ v ∷ rest) ≡ Some why
second_some w v rest why a b = first_none w (v ∷ rest) a ∙ first_some v rest why b

-- neither does
pub second_none : (w v : Option Refusal) (rest : List (Option Refusal)) → w ≡ None → v ≡ None → first (w ∷ v ∷ rest) ≡ first rest
second_none w v rest a b = first_none w (v ∷ rest) a ∙ first_none v rest b

-- ---- refusals of paths

has_found : (path : List ℕ) (entries : List (List ℕ × Entry)) (o : Option Entry) → find path entries ≡ o → has path entries ≡ is_some o
has_found path entries o found = has-find path entries ∙ ap is_some found

module _ (path : List ℕ) (entries : List (List ℕ × Entry)) (walked : walk entries path ≡ None) where
  pub refusal_at-absent : find path entries ≡ None → refusal_at entries path ≡ Some NoEntry
  refusal_at-absent absent = second_some (walk entries path) _ [] NoEntry walked (when_true _ NoEntry (ap not (has_found path entries None absent)))

  pub refusal_at-found : (entry : Entry) → find path entries ≡ Some entry → refusal_at entries path ≡ None
  refusal_at-found entry found = second_none (walk entries path) _ [] walked (when_false _ NoEntry (ap not (has_found path entries (Some entry) found)))

  -- where the entry is found, only what comes behind refuses
  pub refusal_behind : (entry : Entry) (more : List (Option Refusal)) → find path entries ≡ Some entry → first (walk entries path ∷ when (not (has path entries)) NoEntry ∷ more) ≡ first more
  refusal_behind entry more found = second_none (walk entries path) _ more walked (when_false _ NoEntry (ap not (has_found path entries (Some entry) found)))

  pub refusal_exists : (more : List (Option Refusal)) → has path entries ≡ true → first (walk entries path ∷ when (has path entries) Exists ∷ more) ≡ Some Exists
  refusal_exists more present = second_some (walk entries path) _ more Exists walked (when_true _ Exists present)

  pub refusal_free : (more : List (Option Refusal)) → has path entries ≡ false → first (walk entries path ∷ when (has path entries) Exists ∷ more) ≡ first more
  refusal_free more absent = second_none (walk entries path) _ more walked (when_false _ Exists absent)

-- ---- whether there is something

pub none_from_test : {A : Type 0} (o : Option A) → is_some o ≡ false → o ≡ None
none_from_test None h = refl
none_from_test (Some a) h = absurd (false≢true (sym h))

is_some-seen : {A B : Type 0} (f : A → B) (o : Option A) → is_some (option_map f o) ≡ is_some o
is_some-seen f None = refl
is_some-seen f (Some a) = refl

-- whether there is an entry, as a look-up says
pub has_from_find : (path : List ℕ) (entries : List (List ℕ × Entry)) (o : Option Given) → option_map seen o ≡ find path entries → has path entries ≡ is_some o
has_from_find path entries o found = has-find path entries ∙ ap is_some (sym found) ∙ is_some-seen seen o
