-- Requests that leave no share empty.
use Rattle.std.proofs.Common.{◌≡◌, ℕ, zero, suc, ◌-◌, ◌<◌, ◌&&◌, eqb, List, [], ◌∷◌, ◌++◌, length, take, Option, Some, None, subst, arith}
use Rattle.std.specs.Prelude.{slice_get}
use Rattle.std.specs.List.{flat_map}
use Rattle.std.proofs.lemmas.Option.{none-some, same_Some}
use Rattle.std.proofs.lemmas.Bool.{cond_both, eqb-false}
use Rattle.std.proofs.lemmas.List.{length-append}
use Rattle.zb_types.specs.declared.ids.LogId.{LogId}
use Rattle.zb_types.specs.declared.ids.ServerId.{ServerId}
use Rattle.zb_types.specs.declared.ids.FragId.{FragId}
use Rattle.zb_types.specs.declared.nodes.Class.{Class}
use Rattle.zb_types.specs.declared.requests.Request.{Request}
use Rattle.zb_types.specs.declared.requests.Request.TheVariants as ask
use Rattle.zb_holding.specs.Fragments.{Fragment, share_fragment, parity_fragment}
use Rattle.zb_holding.specs.Placing.{share_length, frag_id, server_of}
use Rattle.zb_holding.specs.Holding.{Maps, is_away}
use Rattle.zb_holding.specs.Carrying.{stands_after, is_about, carried, carried_all}
use Rattle.zb_stripe.specs.declared.flush.Part.{Part}
use Rattle.zb_stripe.specs.Writing.{grow, unless_out, new_bytes, share_request, share_requests, lengths_of, parity_bytes, parity_request, part_requests}
use Rattle.zb_stripe_laws.specs.PartAtWork.{IsNotEmpty, HasNoEmptyShare}
use Rattle.zb_stripe_laws.specs.PlanAtWork.{StoresBytes}

kept : (r : Request) (o : Option Fragment) → StoresBytes r → IsNotEmpty o → IsNotEmpty (stands_after r o)
kept (ask.Store id bytes class) None a s = a
kept (ask.Store id bytes class) (Some (share_fragment b)) a s = s
kept (ask.Store id bytes class) (Some (parity_fragment l b)) a s = tt
kept (ask.Append id place bytes) None a s = tt
kept (ask.Append id place bytes) (Some (share_fragment b)) a s =
    cond_both (eqb place (length b)) (b ++ bytes) b (λ (z : List ℕ). 0 < length z) (λ _. omega (arith, length-append b bytes)) (λ _. s)
kept (ask.Append id place bytes) (Some (parity_fragment l b)) a s = tt
kept (ask.Parity id lengths bytes class) o a s = tt
kept (ask.Retrieve id place len) o a s = s
kept (ask.Delete id) o a s = tt
kept (ask.Identify after) o a s = s
kept (ask.Fence generation) o a s = s

abbrev AllAdd : List (ServerId × Request) → Type 0
AllAdd [] = Unit {0}
AllAdd (r ∷ rs) = StoresBytes r.1 × AllAdd rs

add_first : (i : ℕ) (rs : List (ServerId × Request)) → AllAdd rs → AllAdd (take i rs)
add_first zero rs a = tt
add_first (suc i) [] a = tt
add_first (suc i) (r ∷ rs) a = (a.0, add_first i rs a.1)

add_both : (xs ys : List (ServerId × Request)) → AllAdd xs → AllAdd ys → AllAdd (xs ++ ys)
add_both [] ys a b = b
add_both (x ∷ xs) ys a b = (a.0, add_both xs ys a.1 b)

-- one request leaves no share empty
pub kept_by : (maps : Maps) (r : ServerId × Request) → StoresBytes r.1 → HasNoEmptyShare maps → HasNoEmptyShare (carried maps r)
kept_by maps r a s server id =
    cond_both (eqb r.0.0 server.0 && is_about r.1 id) (stands_after r.1 (maps server id)) (maps server id) IsNotEmpty
    (λ _. kept r.1 (maps server id) a (s server id)) (λ _. s server id)

all_kept : (rs : List (ServerId × Request)) (maps : Maps) → AllAdd rs → HasNoEmptyShare maps → HasNoEmptyShare (carried_all maps rs)
all_kept [] maps a s = s
all_kept (r ∷ rs) maps a s = all_kept rs (carried maps r) a.1 (kept_by maps r a.0 s)

-- each of some requests stores bytes
adds_at : (rs : List (ServerId × Request)) (i : ℕ) (r : ServerId × Request) → AllAdd rs → slice_get rs i ≡ Some r → StoresBytes r.1
adds_at [] i r a e = absurd (none-some r e)
adds_at (q ∷ qs) zero r a e = subst (λ (z : ServerId × Request). StoresBytes z.1) (same_Some q r e) a.0
adds_at (q ∷ qs) (suc i) r a e = adds_at qs i r a.1 e

one_adds : (n : ℕ) (out : Option ServerId) (id : FragId) (request : Request) → StoresBytes request → AllAdd (unless_out n out id request)
one_adds n out id request a = cond_both (is_away out (server_of n id)) [] ((server_of n id, request) ∷ []) AllAdd (λ _. tt) (λ _. (a, tt))

grow_adds : (id : FragId) (class : Class) (had : ℕ) (bytes : List ℕ) → 0 < length bytes → StoresBytes (grow id class had bytes)
grow_adds id class had bytes some = cond_both (eqb had 0) (ask.Store id bytes class) (ask.Append id had bytes) StoresBytes (λ _. some) (λ _. tt)

module _ (n f : ℕ) (out : Option ServerId) (class : Class) (log : LogId) where
  share_adds : (part : Part) (k : ℕ) → AllAdd (share_request n f out class log part k)
  share_adds part k =
      let id = frag_id log part.stripe k in
      let new = new_bytes f part k in
      let request = grow id class (share_length f part.begin k) new in
      cond_both (eqb (length new) 0) [] (unless_out n out id request) AllAdd (λ _. tt)
      (λ e. let some = eqb-false (length new) 0 e in one_adds n out id request (grow_adds id class (share_length f part.begin k) new (omega arith)))

  shares_add : (part : Part) (k : ℕ) → AllAdd (share_requests n f out class log part k)
  shares_add part zero = tt
  shares_add part (suc k) = add_both (share_requests n f out class log part k) (share_request n f out class log part k) (shares_add part k) (share_adds part k)

  part_adds : (part : Part) → AllAdd (part_requests n f out class log part)
  part_adds part =
      add_both (share_requests n f out class log part (n - 1)) (parity_request n f out class log part) (shares_add part (n - 1))
      (one_adds n out (frag_id log part.stripe (n - 1)) (ask.Parity (frag_id log part.stripe (n - 1)) (lengths_of n f part) (parity_bytes n f part) class) tt)

  parts_add : (parts : List Part) → AllAdd (flat_map (part_requests n f out class log) parts)
  parts_add [] = tt
  parts_add (p ∷ ps) = add_both (part_requests n f out class log p) (flat_map (part_requests n f out class log) ps) (part_adds p) (parts_add ps)

  -- the first requests of a plan leave no share empty
  pub none_empty : (maps : Maps) (parts : List Part) (i : ℕ) → HasNoEmptyShare maps → HasNoEmptyShare (carried_all maps (take i (flat_map (part_requests n f out class log) parts)))
  none_empty maps parts i s =
      let rs = flat_map (part_requests n f out class log) parts in
      all_kept (take i rs) maps (add_first i rs (parts_add parts)) s

  -- a plan's requests store bytes
  pub plan_stores : (parts : List Part) (i : ℕ) (r : ServerId × Request) → slice_get (flat_map (part_requests n f out class log) parts) i ≡ Some r → StoresBytes r.1
  plan_stores parts i r e = adds_at (flat_map (part_requests n f out class log) parts) i r (parts_add parts) e
