-- No owner has two live logs.
use Rattle.std.proofs.Common.{◌≡◌, ℕ, ◌≤◌, Bool, true, false, eqb, [], ◌∷◌, Some, refl, sym, ap, ◌∙◌, subst, inl, inr, arith}
use Rattle.std.specs.Prelude.{◌==◌, ◌||◌, if◌then◌else◌}
use Rattle.std.specs.List.{AllByRecursion}
use Rattle.std.proofs.lemmas.Bool.{and_parts, and_from, cases_Bool, cases_eq, eq-eqb, eqb-true, false≢true}
use Rattle.std.proofs.lemmas.Option.{none-some, same_Some}
use Rattle.zb_types.specs.Keyed.{look}
use Rattle.zb_types.proofs.KeyedLists.{IsRising, KeysAbove, look-below}
use Rattle.zb_tables.specs.Tables.{LogState}
use Rattle.zb_tables.proofs.LogsForm.{Logs, OneLive}
use Rattle.zb_spelling.specs.Limits.{is_live_of, lives_again, EachLivesOnce}

-- a log that lives and is of this owner
pub is_one : (owner : ℕ) (l : LogState) → l.live ≡ true → l.owner ≡ owner → is_live_of owner l ≡ true
is_one owner l live own = and_from l.live (l.owner == owner) live (eq-eqb l.owner owner own)

-- what is looked up in a list with one more before it
look_first : (k : ℕ) (e : ℕ × LogState) (es : Logs) (l : LogState) → k ≡ e.0 → look k (e ∷ es) ≡ Some l → e.1 ≡ l
look_first k e es l same at = same_Some e.1 l (sym (ap (λ (b : Bool). if b then Some e.1 else look k es) (eq-eqb e.0 k (sym same))) ∙ at)

look_later : (k : ℕ) (e : ℕ × LogState) (es : Logs) → (e.0 ≡ k → ⊥) → look k (e ∷ es) ≡ look k es
look_later k e es other = elim (cases_Bool (eqb e.0 k)) as (λ _. look k (e ∷ es) ≡ look k es) [
  | inl t ↦ absurd (other (eqb-true e.0 k t))
  | inr f ↦ ap (λ (b : Bool). if b then Some e.1 else look k es) f
]

again_here : (owner : ℕ) (found : Bool) (e : ℕ × LogState) (es : Logs) → is_live_of owner e.1 ≡ true → lives_again owner found (e ∷ es) ≡ (found || lives_again owner true es)
again_here owner found e es t = ap (λ (b : Bool). if b then found || lives_again owner true es else lives_again owner found es) t

again_later : (owner : ℕ) (found : Bool) (e : ℕ × LogState) (es : Logs) → is_live_of owner e.1 ≡ false → lives_again owner found (e ∷ es) ≡ lives_again owner found es
again_later owner found e es f = ap (λ (b : Bool). if b then found || lives_again owner true es else lives_again owner found es) f

-- where no further one lives, none that is found is live and of this owner
none_later : (owner : ℕ) (es : Logs) → lives_again owner true es ≡ false → (k : ℕ) (l : LogState) → look k es ≡ Some l → is_live_of owner l ≡ true → ⊥
none_later owner [] none k l at is = none-some l at
none_later owner (e ∷ es) none k l at is = elim (cases_Bool (is_live_of owner e.1)) as (λ _. ⊥) [
  | inl t ↦ false≢true (sym none ∙ again_here owner true e es t)
  | inr f ↦ elim (cases_eq e.0 k) as (λ _. ⊥) [
    | inl same ↦ false≢true (sym f ∙ ap (is_live_of owner) (look_first k e es l (sym same) at) ∙ is)
    | inr other ↦ none_later owner es (sym (again_later owner true e es f) ∙ none) k l (sym (look_later k e es other) ∙ at) is
  ]
]

-- where none lives again, two that live are one
one_found : (owner : ℕ) (es : Logs) → lives_again owner false es ≡ false → (k j : ℕ) (l m : LogState) → look k es ≡ Some l → look j es ≡ Some m
    → is_live_of owner l ≡ true → is_live_of owner m ≡ true → k ≡ j
one_found owner [] none k j l m at_k at_j is_l is_m = absurd (none-some l at_k)
one_found owner (e ∷ es) none k j l m at_k at_j is_l is_m = elim (cases_Bool (is_live_of owner e.1)) as (λ _. k ≡ j) [
  | inl t ↦
      let more : lives_again owner true es ≡ false = sym (again_here owner false e es t) ∙ none in
      elim (cases_eq e.0 k) as (λ _. k ≡ j) [
        | inl same_k ↦ elim (cases_eq e.0 j) as (λ _. k ≡ j) [
          | inl same_j ↦ sym same_k ∙ same_j
          | inr other_j ↦ absurd (none_later owner es more j m (sym (look_later j e es other_j) ∙ at_j) is_m)
        ]
        | inr other_k ↦ absurd (none_later owner es more k l (sym (look_later k e es other_k) ∙ at_k) is_l)
      ]
  | inr f ↦
      let other_k : e.0 ≡ k → ⊥ = λ same. false≢true (sym f ∙ ap (is_live_of owner) (look_first k e es l (sym same) at_k) ∙ is_l) in
      let other_j : e.0 ≡ j → ⊥ = λ same. false≢true (sym f ∙ ap (is_live_of owner) (look_first j e es m (sym same) at_j) ∙ is_m) in
      one_found owner es (sym (again_later owner false e es f) ∙ none) k j l m (sym (look_later k e es other_k) ∙ at_k) (sym (look_later j e es other_j) ∙ at_j) is_l is_m
]

-- a log that is found has an owner that there is
pub owned : (clients k : ℕ) (l : LogState) (es : Logs) → AllByRecursion (λ (e : ℕ × LogState). (e.1).owner ≤ clients) es → look k es ≡ Some l → l.owner ≤ clients
owned clients k l [] all at = absurd (none-some l at)
owned clients k l (e ∷ es) all at = elim (cases_eq e.0 k) as (λ _. l.owner ≤ clients) [
  | inl same ↦ subst (λ (m : LogState). m.owner ≤ clients) (look_first k e es l (sym same) at) all.0
  | inr other ↦ owned clients k l es all.1 (sym (look_later k e es other) ∙ at)
]

pub one_live_from : (clients : ℕ) (es : Logs) → AllByRecursion (λ (e : ℕ × LogState). (e.1).owner ≤ clients) es → EachLivesOnce clients es → OneLive es
one_live_from clients es all once k j l m at_k at_j live_l live_m same =
    one_found l.owner es (once l.owner (owned clients k l es all at_k)) k j l m at_k at_j (is_one l.owner l live_l refl) (is_one l.owner m live_m (sym same))

-- a log that lives again is found
record LivesIn (owner : ℕ) (es : Logs) : Type 0 where
  key : ℕ
  log : LogState
  at : look key es ≡ Some log
  is : is_live_of owner log ≡ true

above_other : (k j : ℕ) (l : LogState) (es : Logs) → KeysAbove k es → look j es ≡ Some l → k ≡ j → ⊥
above_other k j l es above at same = none-some l (sym (look-below j k es (omega (arith, same)) above) ∙ at)

later_in : (owner : ℕ) (e : ℕ × LogState) (es : Logs) → KeysAbove e.0 es → LivesIn owner es → LivesIn owner (e ∷ es)
later_in owner e es above found = record { key = found.key; log = found.log; at = look_later found.key e es (above_other e.0 found.key found.log es above found.at) ∙ found.at; is = found.is }

found_again : (owner : ℕ) (es : Logs) → IsRising es → lives_again owner true es ≡ true → LivesIn owner es
found_again owner [] rising again = absurd (false≢true again)
found_again owner (e ∷ es) rising again = elim (cases_Bool (is_live_of owner e.1)) as (λ _. LivesIn owner (e ∷ es)) [
  | inl t ↦ record { key = e.0; log = e.1; at = ap (λ (b : Bool). if b then Some e.1 else look e.0 es) (eq-eqb e.0 e.0 refl); is = t }
  | inr f ↦ later_in owner e es rising.0 (found_again owner es rising.1 (sym (again_later owner true e es f) ∙ again))
]

one_behind : (e : ℕ × LogState) (es : Logs) → KeysAbove e.0 es → OneLive (e ∷ es) → OneLive es
one_behind e es above one k j l m at_k at_j = one k j l m (look_later k e es (above_other e.0 k l es above at_k) ∙ at_k) (look_later j e es (above_other e.0 j m es above at_j) ∙ at_j)

never_again : (owner : ℕ) (es : Logs) → IsRising es → OneLive es → lives_again owner false es ≡ false
never_again owner [] rising one = refl
never_again owner (e ∷ es) rising one = elim (cases_Bool (is_live_of owner e.1)) as (λ _. lives_again owner false (e ∷ es) ≡ false) [
  | inl t ↦ again_here owner false e es t ∙ elim (cases_Bool (lives_again owner true es)) as (λ _. lives_again owner true es ≡ false) [
    | inl again ↦
        let found = found_again owner es rising.1 again in
        let first = and_parts (e.1).live ((e.1).owner == owner) t in
        let other = and_parts (found.log).live ((found.log).owner == owner) found.is in
        absurd (above_other e.0 found.key found.log es rising.0 found.at
        (one e.0 found.key e.1 found.log (ap (λ (b : Bool). if b then Some e.1 else look e.0 es) (eq-eqb e.0 e.0 refl))
        (look_later found.key e es (above_other e.0 found.key found.log es rising.0 found.at) ∙ found.at) first.0 other.0
        (eqb-true (e.1).owner owner first.1 ∙ sym (eqb-true (found.log).owner owner other.1))))
    | inr none ↦ none
  ]
  | inr f ↦ again_later owner false e es f ∙ never_again owner es rising.1 (one_behind e es rising.0 one)
]

pub once_from : (clients : ℕ) (es : Logs) → IsRising es → OneLive es → EachLivesOnce clients es
once_from clients es rising one owner le = never_again owner es rising one
