-- Requests about one stripe leave the others.
use Rattle.std.proofs.Common.{◌≡◌, ℕ, zero, suc, ◌-◌, Bool, false, ◌&&◌, cond, eqb, List, [], ◌∷◌, ◌++◌, length, take, Option, refl, sym, ap, ◌∙◌, inl, inr}
use Rattle.std.proofs.lemmas.Bool.{ne_eqb, and_left, and_right, cond_both}
use Rattle.zb_types.specs.declared.ids.LogId.{LogId}
use Rattle.zb_types.specs.declared.ids.ServerId.{ServerId}
use Rattle.zb_types.specs.declared.ids.FragId.{FragId}
use Rattle.zb_types.specs.declared.nodes.Class.{Class}
use Rattle.zb_types.specs.declared.requests.Request.{Request}
use Rattle.zb_types.specs.declared.requests.Request.TheVariants as ask
use Rattle.zb_holding.specs.Placing.{frag_id, server_of, share_length}
use Rattle.zb_holding.specs.Holding.{Maps, is_away}
use Rattle.zb_holding.specs.Carrying.{stands_after, same_frag, is_about, carried, carried_all}
use Rattle.zb_stripe.specs.declared.flush.Part.{Part}
use Rattle.zb_stripe.specs.Writing.{grow, unless_out, new_bytes, share_request, share_requests, lengths_of, parity_bytes, parity_request, part_requests}
use Rattle.zb_stripe_laws.specs.PartAtWork.{IsOfOtherStripe}
use Rattle.zb_stripe_laws.proofs.Growing.{about_grow}

-- none of these is about this identifier
abbrev pub Silent : FragId → List (ServerId × Request) → Type 0
Silent q [] = Unit {0}
Silent q (a ∷ rest) = (is_about a.1 q ≡ false) × Silent q rest

silent-append : (q : FragId) (xs ys : List (ServerId × Request)) → Silent q xs → Silent q ys → Silent q (xs ++ ys)
silent-append q [] ys a b = b
silent-append q (x ∷ xs) ys a b = (a.0, silent-append q xs ys a.1 b)

other_stripe : (q : FragId) (log : LogId) (stripe k : ℕ) → IsOfOtherStripe q log stripe → same_frag (frag_id log stripe k) q ≡ false
other_stripe q log stripe k (inl ne) = and_left (eqb log.0 q.log.0 && eqb stripe q.stripe) (eqb k q.index) (and_left (eqb log.0 q.log.0) (eqb stripe q.stripe) (ne_eqb log.0 q.log.0 (λ e. ne (sym e))))
other_stripe q log stripe k (inr ne) = and_left (eqb log.0 q.log.0 && eqb stripe q.stripe) (eqb k q.index) (and_right (eqb log.0 q.log.0) (eqb stripe q.stripe) (ne_eqb stripe q.stripe (λ e. ne (sym e))))

silent_unless_out : (n : ℕ) (out : Option ServerId) (q id : FragId) (request : Request) → is_about request q ≡ false → Silent q (unless_out n out id request)
silent_unless_out n out q id request h = cond_both (is_away out (server_of n id)) [] ((server_of n id, request) ∷ []) (Silent q) (λ _. tt) (λ _. (h, tt))

module _ (n f : ℕ) (out : Option ServerId) (class : Class) (log : LogId) (part : Part) (q : FragId) (other : IsOfOtherStripe q log part.stripe) where
  silent_share : (k : ℕ) → Silent q (share_request n f out class log part k)
  silent_share k =
      let id = frag_id log part.stripe k in
      let request = grow id class (share_length f part.begin k) (new_bytes f part k) in
      cond_both (eqb (length (new_bytes f part k)) 0) [] (unless_out n out id request) (Silent q) (λ _. tt)
      (λ _. silent_unless_out n out q id request (about_grow id class (share_length f part.begin k) (new_bytes f part k) q ∙ other_stripe q log part.stripe k other))

  silent_shares : (k : ℕ) → Silent q (share_requests n f out class log part k)
  silent_shares zero = tt
  silent_shares (suc k) = silent-append q (share_requests n f out class log part k) (share_request n f out class log part k) (silent_shares k) (silent_share k)

  pub silent_part : Silent q (part_requests n f out class log part)
  silent_part =
      let id = frag_id log part.stripe (n - 1) in
      silent-append q (share_requests n f out class log part (n - 1)) (parity_request n f out class log part) (silent_shares (n - 1))
      (silent_unless_out n out q id (ask.Parity id (lengths_of n f part) (parity_bytes n f part) class) (other_stripe q log part.stripe (n - 1) other))

silent_one : (maps : Maps) (asked : ServerId × Request) (server : ServerId) (q : FragId) → is_about asked.1 q ≡ false → carried maps asked server q ≡ maps server q
silent_one maps asked server q h = ap (λ (b : Bool). cond b (stands_after asked.1 (maps server q)) (maps server q)) (and_right (eqb asked.0.0 server.0) (is_about asked.1 q) h)

pub silent_first : (rs : List (ServerId × Request)) (maps : Maps) (i : ℕ) (server : ServerId) (q : FragId) → Silent q rs → carried_all maps (take i rs) server q ≡ maps server q
silent_first [] maps zero server q s = refl
silent_first [] maps (suc i) server q s = refl
silent_first (r ∷ rs) maps zero server q s = refl
silent_first (r ∷ rs) maps (suc i) server q s = silent_first rs (carried maps r) i server q s.1 ∙ silent_one maps r server q s.0
