-- What holds of each request of a plan.
use Rattle.std.proofs.Common.{◌≡◌, ℕ, zero, suc, ◌-◌, ◌<◌, ◌≤◌, eqb, List, [], ◌∷◌, ◌++◌, length, take, Option, Some, subst, arith}
use Rattle.std.specs.Prelude.{slice_get}
use Rattle.std.specs.List.{flat_map, AllByRecursion}
use Rattle.std.proofs.lemmas.Bool.{cond_both}
use Rattle.std.proofs.lemmas.Option.{none-some, same_Some}
use Rattle.zb_types.specs.declared.ids.LogId.{LogId}
use Rattle.zb_types.specs.declared.ids.ServerId.{ServerId}
use Rattle.zb_types.specs.declared.ids.FragId.{FragId}
use Rattle.zb_types.specs.declared.nodes.Class.{Class}
use Rattle.zb_types.specs.declared.requests.Request.{Request}
use Rattle.zb_types.specs.declared.requests.Request.TheVariants as ask
use Rattle.zb_holding.specs.Placing.{share_length, frag_id, server_of}
use Rattle.zb_holding.specs.Holding.{is_away}
use Rattle.zb_stripe.specs.declared.flush.Part.{Part}
use Rattle.zb_stripe.specs.Writing.{grow, unless_out, new_bytes, share_request, share_requests, lengths_of, parity_bytes, parity_request, part_requests}

abbrev pub Requests : Type 0
Requests = List (ServerId × Request)

module _ (P : ServerId × Request → Type 0) where
  abbrev pub Each : Requests → Type 0
  Each rs = AllByRecursion P rs

  pub each_both : (xs ys : Requests) → Each xs → Each ys → Each (xs ++ ys)
  each_both [] ys a b = b
  each_both (x ∷ xs) ys a b = (a.0, each_both xs ys a.1 b)

  pub each_first : (i : ℕ) (rs : Requests) → Each rs → Each (take i rs)
  each_first zero rs a = tt
  each_first (suc i) [] a = tt
  each_first (suc i) (r ∷ rs) a = (a.0, each_first i rs a.1)

  pub each_at : (rs : Requests) (i : ℕ) (r : ServerId × Request) → Each rs → slice_get rs i ≡ Some r → P r
  each_at [] i r a e = absurd (none-some r e)
  each_at (q ∷ qs) zero r a e = subst P (same_Some q r e) a.0
  each_at (q ∷ qs) (suc i) r a e = each_at qs i r a.1 e

  each_unless_out : (n : ℕ) (out : Option ServerId) (id : FragId) (request : Request) → P (server_of n id, request) → Each (unless_out n out id request)
  each_unless_out n out id request p = cond_both (is_away out (server_of n id)) [] ((server_of n id, request) ∷ []) Each (λ _. tt) (λ _. (p, tt))

  module _ (n f : ℕ) (out : Option ServerId) (class : Class) (log : LogId)
      (share : (part : Part) (k : ℕ) → k < n - 1 → let id = frag_id log part.stripe k in P (server_of n id, grow id class (share_length f part.begin k) (new_bytes f part k)))
      (parity : (part : Part) → let id = frag_id log part.stripe (n - 1) in P (server_of n id, ask.Parity id (lengths_of n f part) (parity_bytes n f part) class)) where
    each_shares : (part : Part) (k : ℕ) → k ≤ n - 1 → Each (share_requests n f out class log part k)
    each_shares part zero le = tt
    each_shares part (suc k) le =
        let id = frag_id log part.stripe k in
        let request = grow id class (share_length f part.begin k) (new_bytes f part k) in
        each_both (share_requests n f out class log part k) (share_request n f out class log part k) (each_shares part k (omega (arith, le)))
        (cond_both (eqb (length (new_bytes f part k)) 0) [] (unless_out n out id request) Each (λ _. tt) (λ _. each_unless_out n out id request (share part k (omega (arith, le)))))

    each_part : (part : Part) → Each (part_requests n f out class log part)
    each_part part =
        let id = frag_id log part.stripe (n - 1) in
        each_both (share_requests n f out class log part (n - 1)) (parity_request n f out class log part) (each_shares part (n - 1) (omega arith))
        (each_unless_out n out id (ask.Parity id (lengths_of n f part) (parity_bytes n f part) class) (parity part))

    pub each_request : (parts : List Part) → Each (flat_map (part_requests n f out class log) parts)
    each_request [] = tt
    each_request (p ∷ ps) = each_both (part_requests n f out class log p) (flat_map (part_requests n f out class log) ps) (each_part p) (each_request ps)
