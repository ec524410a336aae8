-- What a client's log has, against the updates that were given to the client.
use Rattle.std.proofs.Common.{◌≡◌, ℕ, zero, suc, ◌+◌, ◌≤◌, true, false, Bool, List, [], ◌∷◌, ◌++◌, length, take, refl, sym, ap, subst, arith}
use Rattle.std.specs.Prelude.{if◌then◌else◌, map, All}
use Rattle.std.specs.List.{AllByRecursion}
use Rattle.std.proofs.lemmas.Bool.{cond-true}
use Rattle.std.proofs.lemmas.List.Sums.{sum_by-append, sum_by-cons, sum_by-take-drop}
use Rattle.zb_types.specs.declared.geometry.Geometry.{Geometry}
use Rattle.zb_types.specs.Apply.{is_update}
use Rattle.zb_types.specs.Limits.{most_kept}
use Rattle.zb_headline.specs.Need.{weight}
use Rattle.zb_log.specs.declared.places.Place.{Place}
use Rattle.zb_given.specs.Given.{Given, calls_of}
use Rattle.zb_need.specs.Filling.{HalfFull}
use Rattle.zb_need.specs.Weights.{updates_of, weights}
use Rattle.zb_basis.specs.declared.calls.Numbered.{Numbered}
use Rattle.zb_basis.specs.Runs.{company, is_alone, run_of}
use Rattle.zb_basis.proofs.Each.{each-of}
use Rattle.zb_client.specs.Seen.{SeenClient}
use Rattle.zb_ample.specs.Reaching.{IsPaid, ahead, behind_run, load, loads, numbered_loads, reached}

-- ---- a run is the first of the kept calls

company_first : (most : ℕ) (calls : List Numbered) → company most calls ≡ take (length (company most calls)) calls
company_first zero [] = refl
company_first (suc most) [] = refl
company_first zero (call ∷ calls) = refl
company_first (suc most) (call ∷ calls) = by (is_alone call.call) (company_first most calls) where
  by : (alone : Bool) → company most calls ≡ take (length (company most calls)) calls
      → (if alone then [] else call ∷ company most calls) ≡ take (length (if alone then [] else call ∷ company most calls)) (call ∷ calls)
  by true rest = refl
  by false rest = ap (λ (cs : List Numbered). call ∷ cs) rest

pub run_first : (kept : List Numbered) → run_of kept ≡ take (length (run_of kept)) kept
run_first [] = refl
run_first (call ∷ calls) = by (is_alone call.call) where
  by : (alone : Bool) → (if alone then call ∷ [] else company most_kept (call ∷ calls)) ≡ take (length (if alone then call ∷ [] else company most_kept (call ∷ calls))) (call ∷ calls)
  by true = refl
  by false = company_first most_kept (call ∷ calls)

module _ (geo : Geometry) where
  abbrev of_call : Numbered → ℕ
  of_call k = load geo k.call

  -- the kept calls are those of a run and the ones behind
  pub run_and_rest : (kept : List Numbered) → numbered_loads geo (run_of kept) + numbered_loads geo (behind_run kept) ≡ numbered_loads geo kept
  run_and_rest kept =
      let first = ap (numbered_loads geo) (run_first kept) in
      let both = sum_by-take-drop of_call kept (length (run_of kept)) in
      omega (arith, first, both)

  pub loads_both : (xs ys : List Numbered) → numbered_loads geo (xs ++ ys) ≡ numbered_loads geo xs + numbered_loads geo ys
  loads_both xs ys = sum_by-append of_call xs ys

  -- updates weigh what they may add
  pub updates_load : (calls : List Numbered) → AllByRecursion (λ k. is_update k.call ≡ true) calls → weights geo (updates_of calls) ≡ numbered_loads geo calls
  updates_load [] all = refl
  updates_load (k ∷ ks) all =
      let rest = updates_load ks all.1 in
      let here : load geo k.call ≡ weight geo k.call = cond-true (is_update k.call) (weight geo k.call) 0 all.0 in
      omega (arith, rest, here, sum_by-cons (λ (n : ℕ). n) (weight geo k.call) (map (weight geo) (updates_of ks)), sum_by-cons of_call k ks)

  some_first : (P : Numbered → Type 0) (n : ℕ) (ks : List Numbered) → AllByRecursion P ks → AllByRecursion P (take n ks)
  some_first P zero ks all = tt
  some_first P (suc n) [] all = tt
  some_first P (suc n) (k ∷ ks) all = (all.0, some_first P n ks all.1)

  pub run_loads : (kept : List Numbered) → All (λ k. is_update k.call ≡ true) kept → weights geo (updates_of (run_of kept)) ≡ numbered_loads geo (run_of kept)
  run_loads kept all =
      updates_load (run_of kept)
      (subst (AllByRecursion (λ (k : Numbered). is_update k.call ≡ true)) (sym (run_first kept))
      (some_first (λ k. is_update k.call ≡ true) (length (run_of kept)) kept (each-of (λ (k : Numbered). is_update k.call ≡ true) kept all)))

  -- the log is where it was, and no more is ahead
  pub stays_paid : (given : Given) (c d : SeenClient) → d.log.room ≡ c.log.room → reached d ≡ reached c → d.client ≡ c.client
      → numbered_loads geo (ahead d) ≤ numbered_loads geo (ahead c) → IsPaid geo given c → IsPaid geo given d
  stays_paid given c d room place client less p = record {
    bytes = p.bytes;
    half = subst (λ (n : ℕ). HalfFull n (reached d) p.bytes) (sym room) (subst (λ (at : Place). HalfFull c.log.room at p.bytes) (sym place) p.half);
    within = subst (λ (n : ℕ). (reached d).offset ≤ n) (sym room) (subst (λ (at : Place). at.offset ≤ c.log.room) (sym place) p.within);
    paid = subst (λ (n : ℕ). p.bytes + numbered_loads geo (ahead d) ≤ loads geo (calls_of given n)) (sym client) (let paid = p.paid in omega (arith, paid, less));
  }
