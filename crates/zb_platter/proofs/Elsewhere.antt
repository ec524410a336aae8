-- Entries that name no stripe.
use Rattle.std.proofs.Common.{◌≡◌, ◌≢◌, ◌⊎◌, inl, inr, ℕ, ◌+◌, ◌==◌, ◌&&◌, ◌||◌, if◌then◌else◌, Bool, true, false, List, [], ◌∷◌, Option, Some, None, refl, sym, ◌∙◌}
use Rattle.std.specs.List.{AllByRecursion, list_any}
use Rattle.std.proofs.lemmas.Bool.{eq-eqb, false≢true}
use Rattle.std.proofs.lemmas.Option.{none-some}
use Rattle.zb_types.specs.declared.ids.LogId.{LogId}
use Rattle.zb_types.specs.declared.ids.Piece.{Piece}
use Rattle.zb_entries.specs.declared.entry.Entry.{Entry}
use Rattle.zb_entries.specs.declared.entry.Entry.TheVariants.{Attach, Commit, Mark, Retire}
use Rattle.zb_tables.specs.Taking.{IsElsewhere, IsOther}
use Rattle.zb_platter.specs.Naming.{names_stripe, first_naming}
use Rattle.zb_platter.specs.Laws.{NoneNames}

other_log : (log : LogId) (stripe : ℕ) (l : LogId) → l.0 ≢ log.0 → (pieces : List Piece) → AllByRecursion (λ p. IsOther log stripe l p.stripe) pieces
other_log log stripe l ne [] = tt
other_log log stripe l ne (p ∷ ps) = (inl ne, other_log log stripe l ne ps)

test_other : (log : LogId) (stripe : ℕ) (l : LogId) (p : Piece) (b : Bool) → b ≡ (p.stripe == stripe) → b ≡ false → IsOther log stripe l p.stripe
test_other log stripe l p b is no_match = inr (λ (e : p.stripe ≡ stripe). false≢true (sym no_match ∙ is ∙ eq-eqb p.stripe stripe e))

neither : (a b : Bool) → (a || b) ≡ false → (a ≡ false) × (b ≡ false)
neither false b e = (refl, e)
neither true b e = absurd cc

other_stripes : (log : LogId) (stripe : ℕ) (l : LogId) (pieces : List Piece) → list_any (λ p. p.stripe == stripe) pieces ≡ false → AllByRecursion (λ p. IsOther log stripe l p.stripe) pieces
other_stripes log stripe l [] e = tt
other_stripes log stripe l (p ∷ ps) e =
    let both = neither (p.stripe == stripe) (list_any (λ q. q.stripe == stripe) ps) e in
    (test_other log stripe l p (p.stripe == stripe) refl both.0, other_stripes log stripe l ps both.1)

not_both : (a b : Bool) → (a && b) ≡ false → (a ≡ false) ⊎ (b ≡ false)
not_both false b e = inl refl
not_both true b e = inr e

elsewhere : (log : LogId) (stripe : ℕ) (e : Entry) → names_stripe log stripe e ≡ false → IsElsewhere log stripe e
elsewhere log stripe (Commit l batch generation pieces) e = elim (not_both (l.0 == log.0) (list_any (λ p. p.stripe == stripe) pieces) e) [
  | inl differ ↦ other_log log stripe l (λ (same : l.0 ≡ log.0). false≢true (sym differ ∙ eq-eqb l.0 log.0 same)) pieces
  | inr none ↦ other_stripes log stripe l pieces none
]
elsewhere log stripe (Attach owner l) e = tt
elsewhere log stripe (Mark members) e = tt
elsewhere log stripe (Retire l s) e = tt

passed : (b : Bool) (number : ℕ) (rest : Option ℕ) → (if b then Some number else rest) ≡ None → (b ≡ false) × (rest ≡ None)
passed true number rest e = absurd (none-some number (sym e))
passed false number rest e = (refl, e)

pub none_names : NoneNames
none_names number log stripe [] e = tt
none_names number log stripe (entry ∷ entries) e =
    let both = passed (names_stripe log stripe entry) number (first_naming (number + 1) log stripe entries) e in
    (elsewhere log stripe entry both.0, none_names (number + 1) log stripe entries both.1)
