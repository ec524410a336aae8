-- Where no pointer lives in a stripe.
use Rattle.std.proofs.Common.{◌≡◌, ℕ, Bool, false, List, [], ◌∷◌, ◌++◌, map, None, refl, sym, ap, ◌∙◌, inl, inr}
use Rattle.std.specs.Prelude.{◌==◌, ◌&&◌, filter, if◌then◌else◌}
use Rattle.std.specs.List.{AllByRecursion, flat_map}
use Rattle.std.proofs.lemmas.Bool.{cases_Bool, cases_eq, eq-eqb, ne_eqb, and_left, and_right, false≢true}
use Rattle.zb_types.specs.declared.ids.LogId.{LogId}
use Rattle.zb_types.specs.declared.ids.Ptr.{Ptr}
use Rattle.zb_delta.specs.declared.delta.Body.{Body}
use Rattle.zb_tables.specs.Tables.{FileState, EachFile}
use Rattle.zb_tables.specs.Taking.{IsOther, PointsElsewhere}
use Rattle.zb_tables.specs.Finding.{is_into, live_in}

module _ (log : LogId) (stripe : ℕ) where
  other_of : (p : Ptr) → is_into log stripe p ≡ false → IsOther log stripe p.log p.stripe
  other_of p e = elim (cases_eq p.log.0 log.0) as (λ _. IsOther log stripe p.log p.stripe) [
    | inr ne ↦ inl ne
    | inl same ↦ elim (cases_eq p.stripe stripe) as (λ _. IsOther log stripe p.log p.stripe) [
      | inr ne ↦ inr ne
      | inl here ↦ absurd (false≢true (sym e ∙ ap (λ (b : Bool). b && p.stripe == stripe) (eq-eqb p.log.0 log.0 same) ∙ eq-eqb p.stripe stripe here))
    ]
  ]

  into_of : (p : Ptr) → IsOther log stripe p.log p.stripe → is_into log stripe p ≡ false
  into_of p (inl ne) = and_left (p.log.0 == log.0) (p.stripe == stripe) (ne_eqb p.log.0 log.0 ne)
  into_of p (inr ne) = and_right (p.log.0 == log.0) (p.stripe == stripe) (ne_eqb p.stripe stripe ne)

  abbrev Into : List (ℕ × Ptr) → List (ℕ × Ptr)
  Into blocks = filter (λ k. is_into log stripe k.1) blocks

  no_cons : {A : Type 0} (x : A) (xs : List A) → x ∷ xs ≡ [] → ⊥
  no_cons x xs e = absurd cc

  none_into : (f : ℕ × Ptr → Body) (blocks : List (ℕ × Ptr)) → map f (Into blocks) ≡ [] → AllByRecursion (λ k. IsOther log stripe (k.1).log (k.1).stripe) blocks
  none_into f [] e = tt
  none_into f (k ∷ ks) e = elim (cases_Bool (is_into log stripe k.1)) as (λ _. AllByRecursion (λ k. IsOther log stripe (k.1).log (k.1).stripe) (k ∷ ks)) [
    | inl t ↦ absurd (no_cons (f k) (map f (Into ks)) (sym (ap (λ (b : Bool). map f (if b then k ∷ Into ks else Into ks)) t) ∙ e))
    | inr away ↦ (other_of k.1 away, none_into f ks (sym (ap (λ (b : Bool). map f (if b then k ∷ Into ks else Into ks)) away) ∙ e))
  ]

  into_none : (f : ℕ × Ptr → Body) (blocks : List (ℕ × Ptr)) → AllByRecursion (λ k. IsOther log stripe (k.1).log (k.1).stripe) blocks → map f (Into blocks) ≡ []
  into_none f [] all = refl
  into_none f (k ∷ ks) all = ap (λ (b : Bool). map f (if b then k ∷ Into ks else Into ks)) (into_of k.1 all.0) ∙ into_none f ks all.1

  both_none : {A : Type 0} (xs ys : List A) → xs ++ ys ≡ [] → (xs ≡ []) × (ys ≡ [])
  both_none [] ys e = (refl, e)
  both_none (x ∷ xs) ys e = absurd (no_cons x (xs ++ ys) e)

  -- none lives in it: each points elsewhere
  pub nothing_there : (files : List (ℕ × FileState)) → flat_map (live_in log stripe) files ≡ [] → EachFile (PointsElsewhere log stripe) files
  nothing_there [] e = tt
  nothing_there (f ∷ fs) e =
      let both = both_none (live_in log stripe f) (flat_map (live_in log stripe) fs) e in
      (none_into _ (f.1).blocks both.0, nothing_there fs both.1)

  -- and the other way
  pub there_nothing : (files : List (ℕ × FileState)) → EachFile (PointsElsewhere log stripe) files → flat_map (live_in log stripe) files ≡ []
  there_nothing [] all = refl
  there_nothing (f ∷ fs) all =
      ap (λ (bs : List Body). bs ++ flat_map (live_in log stripe) fs) (into_none (λ k. record { fid = record { 0 = f.0 }; version = (f.1).version; block = k.0; was = None; now = k.1 }) (f.1).blocks all.0)
      ∙ there_nothing fs all.1
