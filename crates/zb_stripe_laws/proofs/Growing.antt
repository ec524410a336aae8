-- Shares that grow one behind the other.
use Rattle.std.proofs.Common.{◌≡◌, ℕ, zero, suc, ◌<◌, ◌≤◌, true, false, cond, eqb, List, [], ◌∷◌, ◌++◌, length, take, drop, Option, Some, None, refl, sym, ap, ◌∙◌, subst, inl, inr, arith}
use Rattle.std.proofs.lemmas.Bool.{cases_eq, eq-eqb, ne_eqb, eqb-true, eqb-false, false≢true, cond_both}
use Rattle.std.proofs.lemmas.List.{length-drop, take_all, take-append-drop}
use Rattle.zb_types.specs.declared.ids.LogId.{LogId}
use Rattle.zb_types.specs.declared.ids.ServerId.{ServerId}
use Rattle.zb_types.specs.declared.ids.FragId.{FragId}
use Rattle.zb_holding.specs.Fragments.{Fragment}
use Rattle.zb_holding.specs.Fragments.{share_fragment, parity_fragment}
use Rattle.zb_types.specs.declared.nodes.Class.{Class}
use Rattle.zb_types.specs.declared.requests.Request.{Request}
use Rattle.zb_types.specs.declared.requests.Request.TheVariants as ask
use Rattle.zb_holding.specs.Placing.{share_length, share_of, frag_id, server_of}
use Rattle.zb_holding.specs.Holding.{Maps, Begins, is_away, standing, away_at}
use Rattle.zb_holding.specs.Carrying.{stands_after, same_frag, is_about, carried_all}
use Rattle.zb_stripe.specs.declared.flush.Part.{Part}
use Rattle.zb_stripe.specs.Writing.{grow, unless_out, new_bytes, share_request, share_requests}
use Rattle.zb_stripe_laws.specs.PartAtWork.{IsSpared, HasBytes, IsWhole, StripeAtWork}
use Rattle.zb_stripe_laws.proofs.Carrying.{standing-carried, stepped_here, stepped_other, carried-append}

already_grown : (stands : Option Fragment) (bytes : List ℕ) (had : ℕ) → HasBytes stands had → Begins stands bytes → length (drop had bytes) ≡ 0 → IsWhole stands bytes
already_grown None bytes had h b e = omega (arith, length-drop had bytes)
already_grown (Some (share_fragment old)) bytes had h b e = (b.0, b.1 ∙ take_all (length old) bytes (omega (arith, length-drop had bytes)))
already_grown (Some (parity_fragment lengths parity)) bytes had h b e = h

grows_there : (stands : Option Fragment) (bytes : List ℕ) (had : ℕ) (id : FragId) (class : Class) → 0 < length (drop had bytes) → HasBytes stands had → Begins stands bytes → IsWhole (stands_after (grow id class had (drop had bytes)) stands) bytes
grows_there None bytes zero id class some h b = (some, refl)
grows_there None bytes (suc had) id class some h b = absurd (omega arith)
grows_there (Some (share_fragment old)) bytes zero id class some h b = absurd (omega arith)
grows_there (Some (share_fragment old)) bytes (suc had) id class some h b =
    let rest = drop (suc had) bytes in
    let append : grow id class (suc had) rest ≡ ask.Append id (suc had) rest = ap (λ t. cond t (ask.Store id rest class) (ask.Append id (suc had) rest)) (ne_eqb (suc had) 0 (λ e. omega arith)) in
    let is : cond (eqb (suc had) (length old)) (old ++ rest) old ≡ bytes =
    ap (λ t. cond t (old ++ rest) old) (eq-eqb (suc had) (length old) (sym h.1))
    ∙ ap (λ z. z ++ rest) (b.1 ∙ ap (λ z. take z bytes) h.1)
    ∙ take-append-drop (suc had) bytes in
    subst (λ r. IsWhole (stands_after r (Some (share_fragment old))) bytes) (sym append)
    (omega (arith, ap length is, length-drop (suc had) bytes), is)
grows_there (Some (parity_fragment lengths parity)) bytes had id class some h b = absurd h

pub about_grow : (id : FragId) (class : Class) (had : ℕ) (bytes : List ℕ) (q : FragId) → is_about (grow id class had bytes) q ≡ same_frag id q
about_grow id class had bytes q = cond_both (eqb had 0) (ask.Store id bytes class) (ask.Append id had bytes) (λ r. is_about r q ≡ same_frag id q) (λ e. refl) (λ e. refl)

pub spared_away : (out x : Option ServerId) (server : ServerId) → IsSpared out x → is_away out server ≡ true → is_away x server ≡ true
spared_away None x server s h = absurd (false≢true h)
spared_away (Some a) x server s h = ap (λ z. is_away z server) s ∙ h

module _ (n f : ℕ) (out x : Option ServerId) (class : Class) (log : LogId) (part : Part) (spared : IsSpared out x) (old : ℕ → Option Fragment) where
  abbrev Growth : Maps → ℕ → Type 0
  Growth maps j = StripeAtWork f part.bytes (away_at n x log part.stripe) old (standing n maps log part.stripe) j

  grows_step : (maps : Maps) (k : ℕ) → Growth maps k
      → (away_at n x log part.stripe k ≡ false → HasBytes (old k) (share_length f part.begin k))
      → (away_at n x log part.stripe k ≡ false → Begins (old k) (share_of f part.bytes k))
      → Growth (carried_all maps (share_request n f out class log part k)) (suc k)
  grows_step maps k g has begins =
      let id = frag_id log part.stripe k in
      let had = share_length f part.begin k in
      let request = grow id class had (new_bytes f part k) in
      let away = away_at n x log part.stripe in
      let view = standing n maps log part.stripe in
      let P = λ (rs : List (ServerId × Request)). Growth (carried_all maps rs) (suc k) in
      let same = λ (h : (away k ≡ false) → IsWhole (view k) (share_of f part.bytes k)).
      let r : Growth maps (suc k) = record {
        done = λ j l a. elim (cases_eq j k) [
          | inl e ↦ subst (λ i. away i ≡ false → IsWhole (view i) (share_of f part.bytes i)) (sym e) h a
          | inr ne ↦ g.done j (omega arith) a
        ];
        left = λ j l a. g.left j (omega arith) a;
      } in r in
      cond_both (eqb (length (new_bytes f part k)) 0) [] (unless_out n out id request) P
      (λ empty. same (λ a. subst (λ o. IsWhole o (share_of f part.bytes k)) (sym (g.left k (omega arith) a)) (already_grown (old k) (share_of f part.bytes k) had (has a) (begins a) (eqb-true _ 0 empty))))
      (λ some. cond_both (is_away out (server_of n id)) [] ((server_of n id, request) ∷ []) P
      (λ gone. same (λ a. absurd (false≢true (sym a ∙ spared_away out x (server_of n id) spared gone))))
      (λ here.
      let at = standing-carried n maps log part.stripe k request (about_grow id class had (new_bytes f part k)) in
      record {
        done = λ j l a. elim (cases_eq k j) [
          | inl e ↦
              subst (λ i. away i ≡ false → IsWhole (standing n (carried_all maps ((server_of n id, request) ∷ [])) log part.stripe i) (share_of f part.bytes i)) e
              (λ b. subst (λ o. IsWhole o (share_of f part.bytes k)) (sym (at k ∙ stepped_here view k request ∙ ap (stands_after request) (g.left k (omega arith) b)))
              (grows_there (old k) (share_of f part.bytes k) had id class (let none = eqb-false _ 0 some in omega arith) (has b) (begins b)))
              a
          | inr ne ↦ subst (λ o. IsWhole o (share_of f part.bytes j)) (sym (at j ∙ stepped_other view k request j ne)) (g.done j (omega arith) a)
        ];
        left = λ j l a. at j ∙ stepped_other view k request j (λ e. omega arith) ∙ g.left j (omega arith) a;
      }))

  pub grows_all : (maps : Maps) → ((k : ℕ) → old k ≡ standing n maps log part.stripe k)
      → (m j : ℕ) → j ≤ m
      → ((k : ℕ) → k < m → away_at n x log part.stripe k ≡ false → HasBytes (old k) (share_length f part.begin k))
      → ((k : ℕ) → k < m → away_at n x log part.stripe k ≡ false → Begins (old k) (share_of f part.bytes k))
      → Growth (carried_all maps (share_requests n f out class log part j)) j
  grows_all maps start m zero le has begins = record { done = λ k l a. absurd (omega arith); left = λ k l a. sym (start k) }
  grows_all maps start m (suc j) le has begins =
      subst (λ (ms : Maps). Growth ms (suc j)) (sym (carried-append maps (share_requests n f out class log part j) (share_request n f out class log part j)))
      (grows_step (carried_all maps (share_requests n f out class log part j)) j (grows_all maps start m j (omega arith) has begins) (has j (omega arith)) (begins j (omega arith)))
