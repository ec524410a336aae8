-- Shares that a search for covered ones skips.
use Rattle.std.proofs.Common.{◌≡◌, ◌≢◌, ℕ, suc, ◌+◌, ◌-◌, ◌<◌, ◌≤◌, Bool, ◌||◌, cond, eqb, leb, List, get_or, sym, ap, ◌∙◌, arith}
use Rattle.std.proofs.lemmas.Bool.{ne_eqb, eq-eqb, le-leb, lt-leb, or_from}
use Rattle.zb_stripe.specs.declared.progress.Phase.TheVariants.{Others}
use Rattle.zb_stripe.specs.Reading.{Reading, sought, with_phase, index_of, place_of, IsCovered}

module _ (r : Reading) (lengths sum : List ℕ) (j : ℕ) (below : j < r.servers - 1) where
  abbrev test : ℕ → Bool
  test k = eqb k (index_of r) || leb (get_or lengths k 0) (place_of r)

  abbrev asks : ℕ → Reading
  asks k = with_phase r (Others lengths sum k)

  -- one turn of the search
  turn : sought r lengths sum (r.servers - 1 - j) ≡ cond (test j) (sought r lengths sum (r.servers - 1 - (j + 1))) (asks j)
  turn =
      let rest = r.servers - 1 - (j + 1) in
      let more : r.servers - 1 - j ≡ suc rest = omega arith in
      let here : r.servers - 1 - suc rest ≡ j = omega arith in
      ap (sought r lengths sum) more ∙ ap (λ (k : ℕ). cond (test k) (sought r lengths sum rest) (asks k)) here

  pub skips_own : j ≡ index_of r → sought r lengths sum (r.servers - 1 - (j + 1)) ≡ sought r lengths sum (r.servers - 1 - j)
  skips_own e = sym (turn ∙ ap (λ (b : Bool). cond (b || leb (get_or lengths j 0) (place_of r)) (sought r lengths sum (r.servers - 1 - (j + 1))) (asks j)) (eq-eqb j (index_of r) e))

  pub skips_short : j ≢ index_of r → get_or lengths j 0 ≤ place_of r → sought r lengths sum (r.servers - 1 - (j + 1)) ≡ sought r lengths sum (r.servers - 1 - j)
  skips_short ne le =
      sym (turn ∙ ap (λ (b : Bool). cond (b || leb (get_or lengths j 0) (place_of r)) (sought r lengths sum (r.servers - 1 - (j + 1))) (asks j)) (ne_eqb j (index_of r) ne)
      ∙ ap (λ (b : Bool). cond b (sought r lengths sum (r.servers - 1 - (j + 1))) (asks j)) (le-leb (get_or lengths j 0) (place_of r) le))

  pub stops_at : IsCovered r lengths j → sought r lengths sum (r.servers - 1 - j) ≡ asks j
  stops_at c = turn ∙ ap (λ (b : Bool). cond b (sought r lengths sum (r.servers - 1 - (j + 1))) (asks j)) (or_from (eqb j (index_of r)) (leb (get_or lengths j 0) (place_of r)) (ne_eqb j (index_of r) c.other) (lt-leb (get_or lengths j 0) (place_of r) c.reached))
