-- The requests of a plan may be asked.
use Rattle.std.proofs.Common.{◌≡◌, ℕ, ◌+◌, ◌-◌, ◌*◌, ◌<◌, ◌≤◌, ◌^◌, eqb, List, [], ◌∷◌, length, drop, map, Option, Some, arith}
use Rattle.std.specs.Prelude.{slice_get}
use Rattle.std.specs.List.{range_with_len}
use Rattle.std.proofs.Math.Nat.{mod-lt}
use Rattle.std.proofs.lemmas.Bool.{cond_both}
use Rattle.std.proofs.lemmas.List.{length-drop, length-take}
use Rattle.std.proofs.lemmas.List.FromFn.{length-map-range_with_len}
use Rattle.zb_types.specs.declared.ids.ServerId.{ServerId}
use Rattle.zb_types.specs.declared.ids.FragId.{FragId}
use Rattle.zb_types.specs.declared.nodes.Class.{Class}
use Rattle.zb_types.specs.declared.requests.Request.{Request}
use Rattle.zb_types.specs.declared.requests.Request.TheVariants as ask
use Rattle.zb_holding.specs.Exclusive.{xor_at, greatest}
use Rattle.zb_holding.specs.Placing.{share_length, share_of, frag_id, server_of}
use Rattle.zb_stripe.specs.declared.flush.Part.{Part}
use Rattle.zb_stripe.specs.declared.flush.Flush.{Flush}
use Rattle.zb_stripe.specs.Writing.{grow, new_bytes, lengths_of, parity_bytes, plan_requests}
use Rattle.zb_servers.specs.Serving.{EndsInRange, MayAsk}
use Rattle.zb_servers_laws.proofs.Planned.{each_request, each_at}

-- a fragment's server is one of n
pub at_server : (n : ℕ) (id : FragId) (request : Request) → 0 < n → EndsInRange request → MayAsk n (server_of n id, request)
at_server n id request some range =
    let turn = mod-lt (id.log.0 + id.stripe + id.index) some in
    record { first = omega arith; last = omega (arith, turn); range = range }

greatest_within : (g : ℕ → ℕ) (top : ℕ) (xs : List ℕ) → ((k : ℕ) → g k ≤ top) → greatest (map g xs) ≤ top
greatest_within g top [] within = omega arith
greatest_within g top (x ∷ xs) within = omega (arith, within x, greatest_within g top xs within)

module _ (n f : ℕ) (some : 0 < n) (small : f < 2 ^ 32) where
  grows_in_range : (id : FragId) (class : Class) (had : ℕ) (bytes : List ℕ) → had + length bytes ≤ f → EndsInRange (grow id class had bytes)
  grows_in_range id class had bytes fits = cond_both (eqb had 0) (ask.Store id bytes class) (ask.Append id had bytes) EndsInRange (λ _. omega (arith, fits, small)) (λ _. omega (arith, fits, small))

  share_fits : (part : Part) (k : ℕ) → share_length f part.begin k + length (new_bytes f part k) ≤ f
  share_fits part k =
      omega (arith, length-drop (share_length f part.begin k) (share_of f part.bytes k), length-take f (drop (k * f) part.bytes))

  parity_fits : (part : Part) → length (parity_bytes n f part) ≤ f
  parity_fits part =
      let top = greatest_within (share_length f (length part.bytes)) f (range_with_len 0 (n - 1)) (λ k. omega arith) in
      omega (arith, top, length-map-range_with_len (xor_at (share_of f part.bytes) (n - 1)) 0 (greatest (lengths_of n f part)))

  pub plan_may_ask : (out : Option ServerId) (class : Class) (flush : Flush) (i : ℕ) (asked : ServerId × Request) → slice_get (plan_requests n f out class flush) i ≡ Some asked → MayAsk n asked
  plan_may_ask out class flush i asked is =
      each_at (MayAsk n) (plan_requests n f out class flush) i asked
      (each_request (MayAsk n) n f out class flush.log
      (λ part k below. let id = frag_id flush.log part.stripe k in
      at_server n id (grow id class (share_length f part.begin k) (new_bytes f part k)) some (grows_in_range id class (share_length f part.begin k) (new_bytes f part k) (share_fits part k)))
      (λ part. let id = frag_id flush.log part.stripe (n - 1) in
      at_server n id (ask.Parity id (lengths_of n f part) (parity_bytes n f part) class) some (omega (arith, parity_fits part, small)))
      flush.parts)
      is
