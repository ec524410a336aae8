-- Each request of a plan is carried out in its turn.
use Rattle.std.proofs.Common.{◌≡◌, ℕ, zero, suc, ◌-◌, ◌<◌, ◌≤◌, ◌&&◌, false, cond, eqb, List, [], ◌∷◌, ◌++◌, length, take, Option, Some, None, refl, sym, ap, ◌∙◌, subst, inl, inr, arith}
use Rattle.std.specs.Prelude.{slice_get, All}
use Rattle.std.specs.List.{flat_map}
use Rattle.std.proofs.lemmas.Bool.{cond_both, cases_lt, eq-eqb, ne_eqb, and_right, or_right}
use Rattle.std.proofs.lemmas.List.{append_assoc, take_at, take_all, length-append, get_or_at}
use Rattle.std.proofs.lemmas.Option.{none-some, same_Some}
use Rattle.zb_types.specs.declared.ids.LogId.{LogId}
use Rattle.zb_types.specs.declared.ids.ServerId.{ServerId}
use Rattle.zb_types.specs.declared.ids.FragId.{FragId}
use Rattle.zb_types.specs.declared.nodes.Class.{Class}
use Rattle.zb_types.specs.declared.requests.Request.{Request}
use Rattle.zb_types.specs.declared.requests.Request.TheVariants as ask
use Rattle.zb_types.specs.declared.requests.Response.TheVariants as told
use Rattle.zb_types.specs.declared.requests.StoreFault.TheVariants as fault
use Rattle.zb_holding.specs.Fragments.{Fragment, share_fragment, parity_fragment}
use Rattle.zb_holding.specs.Placing.{share_length, frag_id, server_of}
use Rattle.zb_holding.specs.Holding.{Maps, is_away, standing, away_at, view_of}
use Rattle.zb_holding.specs.Carrying.{carried, carried_all}
use Rattle.zb_holding.specs.Rules.{stand_at}
use Rattle.zb_stripe.specs.declared.flush.Part.{Part}
use Rattle.zb_stripe.specs.declared.flush.Flush.{Flush}
use Rattle.zb_stripe.specs.Writing.{grow, unless_out, new_bytes, share_request, share_requests, lengths_of, parity_bytes, parity_request, part_requests, plan_requests}
use Rattle.zb_stripe_laws.specs.PartAtWork.{HasBytes, MayBegin, PartAtWork, StripesDiffer}
use Rattle.zb_stripe_laws.proofs.Elsewhere.{Silent, silent_first}
use Rattle.zb_stripe_laws.proofs.Growing.{about_grow}
use Rattle.zb_stripe_laws.proofs.Working.{parts_at_work, others_elsewhere}
use Rattle.zb_plain.specs.Standing.{Entries, stands_in, entries_of, maps_of}
use Rattle.zb_plain.specs.Answering.{unless_refused, answer_of}
use Rattle.zb_plain.proofs.Ruling.{store_free, append_some, parity_done}
use Rattle.zb_plain.proofs.Planned.{Requests, get-front, get-behind, of_part}

-- ---- at most one request, and this one

-- there is no request, or this one alone
abbrev OnlyThis : ServerId × Request → Requests → Type 0
OnlyThis this rs = (j : ℕ) (r : ServerId × Request) → slice_get rs j ≡ Some r → (j ≡ 0) × (r ≡ this)

no_request : (this : ServerId × Request) → OnlyThis this []
no_request this j r e = absurd (none-some r e)

one_request : (this : ServerId × Request) → OnlyThis this (this ∷ [])
one_request this zero r e = (refl, sym (same_Some this r e))
one_request this (suc j) r e = absurd (none-some r e)

only_unless_out : (n : ℕ) (out : Option ServerId) (id : FragId) (request : Request) → OnlyThis (server_of n id, request) (unless_out n out id request)
only_unless_out n out id request =
    cond_both (is_away out (server_of n id)) [] ((server_of n id, request) ∷ []) (OnlyThis (server_of n id, request))
    (λ _. no_request (server_of n id, request)) (λ _. one_request (server_of n id, request))

-- ---- what is answered to a share that grows

has_none : (stands : Option Fragment) → HasBytes stands 0 → stands ≡ None
has_none None has = refl
has_none (Some (share_fragment bytes)) has = absurd (omega (arith, has.0))
has_none (Some (parity_fragment lengths bytes)) has = absurd has

end_is_done : (entries : Entries) (id : FragId) (stands : Option Fragment) (had : ℕ) (bytes : List ℕ) → stands_in entries id ≡ stands → HasBytes stands (suc had)
    → answer_of entries (ask.Append id (suc had) bytes) ≡ told.Done
end_is_done entries id None had bytes is has = absurd (omega (arith, has))
end_is_done entries id (Some (share_fragment share)) had bytes is has =
    append_some entries id (suc had) bytes (share_fragment share) is
    ∙ ap (λ b. unless_refused (cond b None (Some (fault.Offset (length share)))) told.Done)
    (or_right (stand_at share (suc had) bytes) (eqb (suc had) (length share)) (eq-eqb (suc had) (length share) (sym has.1)))
end_is_done entries id (Some (parity_fragment lengths parity)) had bytes is has = absurd has

grow_is_done : (entries : Entries) (id : FragId) (class : Class) (had : ℕ) (bytes : List ℕ) → HasBytes (stands_in entries id) had → answer_of entries (grow id class had bytes) ≡ told.Done
grow_is_done entries id class zero bytes has = store_free entries id bytes class (has_none (stands_in entries id) has)
grow_is_done entries id class (suc had) bytes has =
    ap (λ b. answer_of entries (cond b (ask.Store id bytes class) (ask.Append id (suc had) bytes))) (ne_eqb (suc had) 0 (λ e. omega (arith, e)))
    ∙ end_is_done entries id (stands_in entries id) had bytes refl has

module _ (n f : ℕ) (out : Option ServerId) (class : Class) (log : LogId) (part : Part) where
  frag : ℕ → FragId
  frag k = frag_id log part.stripe k

  share_grows : ℕ → Request
  unfolding frag
  share_grows k = grow (frag k) class (share_length f part.begin k) (new_bytes f part k)

  abbrev shares : ℕ → Requests
  shares k = share_requests n f out class log part k

  -- the request for share k is the i-th, behind those for the shares below k
  record OfShare (m i : ℕ) (r : ServerId × Request) : Type 0 where
    k : ℕ
    below : k < m
    is : r ≡ (server_of n (frag k), share_grows k)
    before : (ys : Requests) → take i (shares m ++ ys) ≡ shares k

  only_share : (k : ℕ) → OnlyThis (server_of n (frag k), share_grows k) (share_request n f out class log part k)
  unfolding frag share_grows
  only_share k =
      cond_both (eqb (length (new_bytes f part k)) 0) [] (unless_out n out (frag k) (share_grows k)) (OnlyThis (server_of n (frag k), share_grows k))
      (λ _. no_request (server_of n (frag k), share_grows k)) (λ _. only_unless_out n out (frag k) (share_grows k))

  of_share : (m i : ℕ) (r : ServerId × Request) → slice_get (shares m) i ≡ Some r → OfShare m i r
  of_share zero i r e = absurd (none-some r e)
  of_share (suc m) i r e =
      let last = share_request n f out class log part m in
      elim (cases_lt i (length (shares m))) as (λ _. OfShare (suc m) i r) [
        | inl here ↦
            let rest = of_share m i r (sym (get-front (shares m) last i here) ∙ e) in
            record {
              k = rest.k;
              below = omega (arith, rest.below);
              is = rest.is;
              before = λ ys. ap (take i) (append_assoc (shares m) last ys) ∙ rest.before (last ++ ys);
            }
        | inr past ↦
            let only = only_share m (i - length (shares m)) r (sym (get-behind (shares m) last i (i - length (shares m)) (omega (arith, past))) ∙ e) in
            record {
              k = m;
              below = omega arith;
              is = only.1;
              before = λ ys. ap (take i) (append_assoc (shares m) last ys) ∙ take_at (shares m) (last ++ ys) i (omega (arith, past, only.0));
            }
      ]

  -- the requests for the shares below k aren't about share k
  silent_shares : (j k : ℕ) → j ≤ k → Silent (frag k) (shares j)
  unfolding frag
  silent_shares zero k le = tt
  silent_shares (suc j) k le =
      let request = grow (frag_id log part.stripe j) class (share_length f part.begin j) (new_bytes f part j) in
      let other = about_grow (frag_id log part.stripe j) class (share_length f part.begin j) (new_bytes f part j) (frag k)
      ∙ and_right (eqb log.0 log.0 && eqb part.stripe part.stripe) (eqb j k) (ne_eqb j k (λ e. omega (arith, le, e))) in
      both (shares j) (share_request n f out class log part j) (silent_shares j k (omega (arith, le)))
      (cond_both (eqb (length (new_bytes f part j)) 0) [] (unless_out n out (frag_id log part.stripe j) request) (Silent (frag k)) (λ _. tt)
      (λ _. cond_both (is_away out (server_of n (frag_id log part.stripe j))) [] ((server_of n (frag_id log part.stripe j), request) ∷ []) (Silent (frag k)) (λ _. tt) (λ _. (other, tt))))
    where
      both : (xs ys : Requests) → Silent (frag k) xs → Silent (frag k) ys → Silent (frag k) (xs ++ ys)
      both [] ys a b = b
      both (x ∷ xs) ys a b = (a.0, both xs ys a.1 b)

  -- as a part begins, each share ends where the stripe's first bytes end
  has_begun : (start : Maps) (x : Option ServerId) → MayBegin (view_of n f start x) log part → (k : ℕ) → k < n - 1 → away_at n x log part.stripe k ≡ false
      → HasBytes (standing n start log part.stripe k) (share_length f part.begin k)
  has_begun start x (inl b) k below away = b.stands k below away
  has_begun start x (inr b) k below away =
      let first = b.begin in
      subst (λ o. HasBytes o (share_length f part.begin k)) (sym (b.unwritten k (omega (arith, below)) away)) (omega (arith, first))

  -- the i-th request of a part at work is carried out
  pub part_is_done : (servers : List Entries) (x : Option ServerId) (i : ℕ) (r : ServerId × Request) → PartAtWork (view_of n f (maps_of servers) x) out class log part i
      → slice_get (part_requests n f out class log part) i ≡ Some r → is_away x r.0 ≡ false → answer_of (entries_of servers r.0) r.1 ≡ told.Done
  unfolding frag share_grows
  part_is_done servers x i r work e away =
      let Done = λ (q : ServerId × Request). answer_of (entries_of servers q.0) q.1 ≡ told.Done in
      let parity = parity_request n f out class log part in
      elim (cases_lt i (length (shares (n - 1)))) as (λ _. answer_of (entries_of servers r.0) r.1 ≡ told.Done) [
        | inl here ↦
            let s = of_share (n - 1) i r (sym (get-front (shares (n - 1)) parity i here) ∙ e) in
            let k = s.k in
            let server = server_of n (frag k) in
            let there : is_away x server ≡ false = ap (λ (q : ServerId × Request). is_away x q.0) (sym s.is) ∙ away in
            let stands : maps_of servers server (frag k) ≡ work.start server (frag k) =
            work.now k there ∙ ap (λ (rs : Requests). carried_all work.start rs server (frag k)) (s.before parity ∙ sym (take_all (length (shares k)) (shares k) (omega arith)))
            ∙ silent_first (shares k) work.start (length (shares k)) server (frag k) (silent_shares k k (omega arith)) in
            let has = subst (λ o. HasBytes o (share_length f part.begin k)) (sym stands) (has_begun work.start x work.begins k s.below there) in
            subst Done (sym s.is) (grow_is_done (entries_of servers server) (frag k) class (share_length f part.begin k) (new_bytes f part k) has)
        | inr past ↦
            let id = frag_id log part.stripe (n - 1) in
            let only = only_unless_out n out id (ask.Parity id (lengths_of n f part) (parity_bytes n f part) class) (i - length (shares (n - 1))) r
            (sym (get-behind (shares (n - 1)) parity i (i - length (shares (n - 1))) (omega (arith, past))) ∙ e) in
            subst Done (sym only.1) (parity_done (entries_of servers (server_of n id)) id (lengths_of n f part) (parity_bytes n f part) class)
      ]

one_of_all : (P : Part → Type 0) (before after : List Part) (part : Part) → All P (before ++ part ∷ after) → P part
one_of_all P before after part all =
    subst P (get_or_at before part after part (length before) refl) (all (length before) part (omega (arith, length-append before (part ∷ after))))

-- the i-th request of a plan is carried out, where its parts may begin
pub plan_is_done : (n f : ℕ) (servers : List Entries) (maps : Maps) (out x : Option ServerId) (class : Class) (flush : Flush) (i : ℕ) (asked : ServerId × Request)
    → StripesDiffer flush.parts → All (MayBegin (view_of n f maps x) flush.log) flush.parts
    → slice_get (plan_requests n f out class flush) i ≡ Some asked → is_away x asked.0 ≡ false
    → maps_of servers ≡ carried_all maps (take i (plan_requests n f out class flush))
    → answer_of (entries_of servers asked.0) asked.1 ≡ told.Done
plan_is_done n f servers maps out x class flush i asked differ begin e away is =
    let g = part_requests n f out class flush.log in
    let of = of_part g flush.parts i asked e in
    let elsewhere = others_elsewhere of.before of.after of.part (subst StripesDiffer of.is differ) in
    let begins = one_of_all (MayBegin (view_of n f maps x) flush.log) of.before of.after of.part (subst (All (MayBegin (view_of n f maps x) flush.log)) of.is begin) in
    let j = i - length (flat_map g of.before) in
    let work = parts_at_work n f out class flush.log maps x of.before of.after of.part i elsewhere.0 elsewhere.1 begins in
    let now : carried_all maps (take i (flat_map g (of.before ++ of.part ∷ of.after))) ≡ maps_of servers =
    ap (λ (ps : List Part). carried_all maps (take i (flat_map g ps))) (sym of.is) ∙ sym is in
    part_is_done n f out class flush.log of.part servers x j asked (subst (λ (ms : Maps). PartAtWork (view_of n f ms x) out class flush.log of.part j) now work) of.place away

-- one more request is carried out
pub carried_next : (maps : Maps) (plan : Requests) (i : ℕ) (asked : ServerId × Request) → slice_get plan i ≡ Some asked → carried_all maps (take (suc i) plan) ≡ carried (carried_all maps (take i plan)) asked
carried_next maps [] i asked e = absurd (none-some asked e)
carried_next maps (r ∷ rs) zero asked e = ap (carried maps) (same_Some r asked e)
carried_next maps (r ∷ rs) (suc i) asked e = carried_next (carried maps r) rs i asked e
