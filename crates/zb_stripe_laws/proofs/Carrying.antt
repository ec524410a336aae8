-- What carrying out a request leaves of a stripe.
use Rattle.std.proofs.Common.{◌≡◌, ℕ, ◌+◌, ◌%◌, ◌&&◌, cond, eqb, List, [], ◌∷◌, ◌++◌, Option, refl, sym, ap, ◌∙◌, inl, inr}
use Rattle.std.proofs.lemmas.Bool.{cases_eq, eq-eqb, ne_eqb, and_right}
use Rattle.zb_types.specs.declared.ids.LogId.{LogId}
use Rattle.zb_types.specs.declared.ids.ServerId.{ServerId}
use Rattle.zb_types.specs.declared.ids.FragId.{FragId}
use Rattle.zb_holding.specs.Fragments.{Fragment}
use Rattle.zb_types.specs.declared.requests.Request.{Request}
use Rattle.zb_holding.specs.Placing.{frag_id, server_of}
use Rattle.zb_holding.specs.Holding.{Maps, standing}
use Rattle.zb_holding.specs.Carrying.{stands_after, same_frag, is_about, carried, carried_all}

same_index : (log : LogId) (stripe k j : ℕ) → same_frag (frag_id log stripe k) (frag_id log stripe j) ≡ eqb k j
same_index log stripe k j =
    ap (λ b. b && eqb stripe stripe && eqb k j) (eq-eqb log.0 log.0 refl)
    ∙ ap (λ b. b && eqb k j) (eq-eqb stripe stripe refl)

-- a view of a stripe, with one request carried out at index k
abbrev pub stepped : (ℕ → Option Fragment) → ℕ → Request → ℕ → Option Fragment
stepped view k request j = cond (eqb k j) (stands_after request (view j)) (view j)

pub standing-carried : (n : ℕ) (maps : Maps) (log : LogId) (stripe k : ℕ) (request : Request)
    → ((q : FragId) → is_about request q ≡ same_frag (frag_id log stripe k) q)
    → (j : ℕ) → standing n (carried maps (server_of n (frag_id log stripe k), request)) log stripe j ≡ stepped (standing n maps log stripe) k request j
standing-carried n maps log stripe k request about j =
    let is = about (frag_id log stripe j) ∙ same_index log stripe k j in
    let place = λ (i : ℕ). (log.0 + stripe + i) % n + 1 in
    let test : (eqb (place k) (place j) && is_about request (frag_id log stripe j)) ≡ eqb k j =
    elim (cases_eq k j) [
      | inl e ↦ ap (λ b. b && is_about request (frag_id log stripe j)) (eq-eqb (place k) (place j) (ap place e)) ∙ is
      | inr ne ↦ and_right (eqb (place k) (place j)) (is_about request (frag_id log stripe j)) (is ∙ ne_eqb k j ne) ∙ sym (ne_eqb k j ne)
    ] in
    ap (λ b. cond b (stands_after request (standing n maps log stripe j)) (standing n maps log stripe j)) test

pub stepped_here : (view : ℕ → Option Fragment) (k : ℕ) (request : Request) → stepped view k request k ≡ stands_after request (view k)
stepped_here view k request = ap (λ b. cond b (stands_after request (view k)) (view k)) (eq-eqb k k refl)

pub stepped_other : (view : ℕ → Option Fragment) (k : ℕ) (request : Request) (j : ℕ) → (k ≡ j → ⊥) → stepped view k request j ≡ view j
stepped_other view k request j ne = ap (λ b. cond b (stands_after request (view j)) (view j)) (ne_eqb k j ne)

pub carried-append : (maps : Maps) (xs ys : List (ServerId × Request)) → carried_all maps (xs ++ ys) ≡ carried_all (carried_all maps xs) ys
carried-append maps [] ys = refl
carried-append maps (x ∷ xs) ys = carried-append (carried maps x) xs ys
