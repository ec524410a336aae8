-- Requests put nothing behind the front of what a log has delivered.
use Rattle.std.proofs.Common.{◌≡◌, ◌≢◌, ℕ, zero, suc, ◌+◌, ◌-◌, ◌<◌, ◌≤◌, max, Bool, false, eqb, List, [], ◌∷◌, ◌++◌, length, length-append, get_or, Option, Some, None, refl, sym, ap, ◌∙◌, subst, inl, inr, arith}
use Rattle.std.specs.Prelude.{◌&&◌, if◌then◌else◌, slice_get}
use Rattle.std.specs.List.{flat_map}
use Rattle.std.proofs.lemmas.Bool.{cond_both, cases_eq, cases_lt, ne_eqb, and_left, and_right}
use Rattle.std.proofs.lemmas.Option.{none-some, same_Some}
use Rattle.zb_types.specs.declared.ids.LogId.{LogId}
use Rattle.zb_types.specs.declared.ids.ServerId.{ServerId}
use Rattle.zb_types.specs.declared.ids.FragId.{FragId}
use Rattle.zb_types.specs.declared.nodes.Class.{Class}
use Rattle.zb_types.specs.declared.requests.Request.{Request}
use Rattle.zb_types.specs.declared.requests.Request.TheVariants as ask
use Rattle.zb_holding.specs.Fragments.{Fragment}
use Rattle.zb_holding.specs.Placing.{frag_id, server_of, share_length}
use Rattle.zb_holding.specs.Holding.{Maps, is_away}
use Rattle.zb_holding.specs.Carrying.{stands_after, same_frag, is_about, carried}
use Rattle.zb_stripe.specs.declared.flush.Part.{Part}
use Rattle.zb_stripe.specs.declared.flush.Flush.{Flush}
use Rattle.zb_stripe.specs.Writing.{grow, unless_out, new_bytes, share_request, share_requests, lengths_of, parity_bytes, parity_request, part_requests, plan_requests, StripesRise}
use Rattle.zb_recovery.specs.Missing.{Servers}
use Rattle.zb_sound.specs.Changing.{OthersSame}
use Rattle.zb_sound.specs.LastFlush.{IsBefore, IsLastOf, NothingFrom, NothingOfNew, OfName, stripe_of}
use Rattle.zb_sound.proofs.Listed.{Among}

abbrev Requests : Type 0
Requests = List (ServerId × Request)

-- what holds of the name holds otherwise
pub of_name : (P Q : FragId → Type 0) → ((id : FragId) → P id → Q id) → (r : Request) → OfName P r → OfName Q r
of_name P Q f (ask.Store id bytes class) h = f id h
of_name P Q f (ask.Append id place bytes) h = f id h
of_name P Q f (ask.Parity id lengths bytes class) h = f id h
of_name P Q f (ask.Retrieve id place len) h = tt
of_name P Q f (ask.Delete id) h = f id h
of_name P Q f (ask.Identify after) h = tt
of_name P Q f (ask.Fence generation) h = tt

-- a request that changes no fragment of this name leaves what stands there
leaves_it : (r : Request) (id : FragId) (o : Option Fragment) (here : Bool) → OfName (λ q. same_frag q id ≡ false) r → (if here && is_about r id then stands_after r o else o) ≡ o
leaves_it (ask.Store q bytes class) id o here e = ap (λ (b : Bool). if b then stands_after (ask.Store q bytes class) o else o) (and_right here (same_frag q id) e)
leaves_it (ask.Append q place bytes) id o here e = ap (λ (b : Bool). if b then stands_after (ask.Append q place bytes) o else o) (and_right here (same_frag q id) e)
leaves_it (ask.Parity q lengths bytes class) id o here e = ap (λ (b : Bool). if b then stands_after (ask.Parity q lengths bytes class) o else o) (and_right here (same_frag q id) e)
leaves_it (ask.Retrieve q place len) id o here e = cond_both (here && same_frag q id) o o (λ (x : Option Fragment). x ≡ o) (λ _. refl) (λ _. refl)
leaves_it (ask.Delete q) id o here e = ap (λ (b : Bool). if b then stands_after (ask.Delete q) o else o) (and_right here (same_frag q id) e)
leaves_it (ask.Identify after) id o here e = ap (λ (b : Bool). if b then stands_after (ask.Identify after) o else o) (and_right here false refl)
leaves_it (ask.Fence generation) id o here e = ap (λ (b : Bool). if b then stands_after (ask.Fence generation) o else o) (and_right here false refl)

other_log : (q id : FragId) → q.log.0 ≢ id.log.0 → same_frag q id ≡ false
other_log q id ne = and_left (eqb q.log.0 id.log.0 && eqb q.stripe id.stripe) (eqb q.index id.index) (and_left (eqb q.log.0 id.log.0) (eqb q.stripe id.stripe) (ne_eqb q.log.0 id.log.0 ne))

other_stripe : (q id : FragId) → q.stripe ≢ id.stripe → same_frag q id ≡ false
other_stripe q id ne = and_left (eqb q.log.0 id.log.0 && eqb q.stripe id.stripe) (eqb q.index id.index) (and_right (eqb q.log.0 id.log.0) (eqb q.stripe id.stripe) (ne_eqb q.stripe id.stripe ne))

-- a name before the front is none from it on
before_front : (log : LogId) (front : ℕ) (id q : FragId) → id.log.0 ≡ log.0 → front ≤ id.stripe → IsBefore log front q → same_frag q id ≡ false
before_front log front id q el le (inl ne) = other_log q id (λ e. ne (e ∙ el))
before_front log front id q el le (inr lt) = other_stripe q id (λ e. absurd (omega arith))

-- a request about a name before the front puts nothing from it on
pub nothing_still : (maps : Maps) (r : ServerId × Request) (log : LogId) (front : ℕ) → OfName (IsBefore log front) r.1 → NothingFrom maps log front → NothingFrom (carried maps r) log front
nothing_still maps r log front before nothing server id el le =
    leaves_it r.1 id (maps server id) (eqb r.0.0 server.0) (of_name (IsBefore log front) (λ q. same_frag q id ≡ false) (λ q b. before_front log front id q el le b) r.1 before)
    ∙ nothing server id el le

pub new_still : (maps : Maps) (r : ServerId × Request) (next_log : ℕ) → OfName (λ id. id.log.0 < next_log) r.1 → NothingOfNew maps next_log → NothingOfNew (carried maps r) next_log
new_still maps r next_log before nothing server id le =
    leaves_it r.1 id (maps server id) (eqb r.0.0 server.0)
    (of_name (λ q. q.log.0 < next_log) (λ q. same_frag q id ≡ false) (λ q lt. other_log q id (λ e. absurd (omega arith))) r.1 before)
    ∙ nothing server id le

-- the front moves behind the stripe of a request
pub behind_request : (log : LogId) (front : ℕ) (r : Request) → OfName (IsBefore log (max front (stripe_of r + 1))) r
behind_request log front (ask.Store id bytes class) = inr (omega arith)
behind_request log front (ask.Append id place bytes) = inr (omega arith)
behind_request log front (ask.Parity id lengths bytes class) = inr (omega arith)
behind_request log front (ask.Retrieve id place len) = tt
behind_request log front (ask.Delete id) = inr (omega arith)
behind_request log front (ask.Identify after) = tt
behind_request log front (ask.Fence generation) = tt

pub stripe_within : (m : ℕ) (r : Request) → OfName (λ id. id.stripe ≤ m) r → stripe_of r ≤ m
stripe_within m (ask.Store id bytes class) h = h
stripe_within m (ask.Append id place bytes) h = h
stripe_within m (ask.Parity id lengths bytes class) h = h
stripe_within m (ask.Retrieve id place len) h = omega arith
stripe_within m (ask.Delete id) h = h
stripe_within m (ask.Identify after) h = omega arith
stripe_within m (ask.Fence generation) h = omega arith

-- ---- the names of a plan's requests

module _ (P : FragId → Type 0) where
  abbrev AllOf : Requests → Type 0
  AllOf [] = Unit {0}
  AllOf (r ∷ rs) = OfName P r.1 × AllOf rs

  both_of : (xs ys : Requests) → AllOf xs → AllOf ys → AllOf (xs ++ ys)
  both_of [] ys a b = b
  both_of (x ∷ xs) ys a b = (a.0, both_of xs ys a.1 b)

  of_at : (rs : Requests) (i : ℕ) (r : ServerId × Request) → AllOf rs → slice_get rs i ≡ Some r → OfName P r.1
  of_at [] i r a e = absurd (none-some r e)
  of_at (q ∷ qs) zero r a e = subst (λ (z : ServerId × Request). OfName P z.1) (same_Some q r e) a.0
  of_at (q ∷ qs) (suc i) r a e = of_at qs i r a.1 e

  one_of : (n : ℕ) (out : Option ServerId) (id : FragId) (request : Request) → OfName P request → AllOf (unless_out n out id request)
  one_of n out id request a = cond_both (is_away out (server_of n id)) [] ((server_of n id, request) ∷ []) AllOf (λ _. tt) (λ _. (a, tt))

  grow_of : (id : FragId) (class : Class) (had : ℕ) (bytes : List ℕ) → P id → OfName P (grow id class had bytes)
  grow_of id class had bytes own = cond_both (eqb had 0) (ask.Store id bytes class) (ask.Append id had bytes) (OfName P) (λ _. own) (λ _. own)

  module _ (n f : ℕ) (out : Option ServerId) (class : Class) (log : LogId) where
    module _ (part : Part) (own : (k : ℕ) → P (frag_id log part.stripe k)) where
      share_of_part : (k : ℕ) → AllOf (share_request n f out class log part k)
      share_of_part k =
          let id = frag_id log part.stripe k in
          let new = new_bytes f part k in
          let request = grow id class (share_length f part.begin k) new in
          cond_both (eqb (length new) 0) [] (unless_out n out id request) AllOf (λ _. tt) (λ _. one_of n out id request (grow_of id class (share_length f part.begin k) new (own k)))

      shares_of_part : (k : ℕ) → AllOf (share_requests n f out class log part k)
      shares_of_part zero = tt
      shares_of_part (suc k) = both_of (share_requests n f out class log part k) (share_request n f out class log part k) (shares_of_part k) (share_of_part k)

      all_of_part : AllOf (part_requests n f out class log part)
      all_of_part =
          both_of (share_requests n f out class log part (n - 1)) (parity_request n f out class log part) (shares_of_part (n - 1))
          (one_of n out (frag_id log part.stripe (n - 1)) (ask.Parity (frag_id log part.stripe (n - 1)) (lengths_of n f part) (parity_bytes n f part) class) (own (n - 1)))

    all_of_parts : (parts : List Part) → ((part : Part) → Among parts part → (k : ℕ) → P (frag_id log part.stripe k)) → AllOf (flat_map (part_requests n f out class log) parts)
    all_of_parts [] own = tt
    all_of_parts (p ∷ ps) own =
        both_of (part_requests n f out class log p) (flat_map (part_requests n f out class log) ps)
        (all_of_part p (own p (record { before = []; after = ps; is = refl })))
        (all_of_parts ps (λ q a. own q (record { before = p ∷ a.before; after = a.after; is = ap (λ (qs : List Part). p ∷ qs) a.is })))

-- each request of a plan is about a fragment of one of its parts
pub plan_of : (P : FragId → Type 0) (n f : ℕ) (out : Option ServerId) (class : Class) (flush : Flush) → ((part : Part) → Among flush.parts part → (k : ℕ) → P (frag_id flush.log part.stripe k))
    → (i : ℕ) (r : ServerId × Request) → slice_get (plan_requests n f out class flush) i ≡ Some r → OfName P r.1
plan_of P n f out class flush own i r e = of_at P (plan_requests n f out class flush) i r (all_of_parts P n f out class flush.log flush.parts own) e

-- ---- the last of parts whose stripes rise

mid_at : (before after : List Part) (q d : Part) → get_or (before ++ q ∷ after) (length before) d ≡ q
mid_at [] after q d = refl
mid_at (b ∷ before) after q d = mid_at before after q d

pub last_greatest : (parts : List Part) → StripesRise parts → (part q : Part) → IsLastOf part parts → Among parts q → q.stripe ≤ part.stripe
last_greatest parts rise part q last a =
    let at_q : get_or parts (length a.before) part ≡ q = ap (λ (ps : List Part). get_or ps (length a.before) part) a.is ∙ mid_at a.before a.after q part in
    let at_last : get_or parts (length last.0) part ≡ part = ap (λ (ps : List Part). get_or ps (length last.0) part) last.1 ∙ mid_at last.0 [] part part in
    let long_q : length parts ≡ length a.before + suc (length a.after) = ap length a.is ∙ length-append a.before (q ∷ a.after) in
    let long : length parts ≡ length last.0 + 1 = ap length last.1 ∙ length-append last.0 (part ∷ []) in
    let stripe_q = ap (λ (p : Part). p.stripe) at_q in
    let stripe_last = ap (λ (p : Part). p.stripe) at_last in
    elim (cases_lt (length a.before) (length last.0)) as (λ _. q.stripe ≤ part.stripe) [
      | inl lt ↦ let r = rise (length a.before) (length last.0) part lt (omega arith) in omega arith
      | inr ge ↦
          let same : length a.before ≡ length last.0 = omega arith in
          let e = ap (λ (p : Part). p.stripe) (sym at_q ∙ ap (λ (n : ℕ). get_or parts n part) same ∙ at_last) in
          omega arith
    ]

-- ---- one server changes

same_id : (a b : ServerId) → a.0 ≡ b.0 → a ≡ b
same_id a b e = ap (λ (n : ℕ). record { 0 = n }) e

-- whatever becomes of one server that has nothing there
pub server_still : (st new : Servers) (a : ServerId) (log : LogId) (front : ℕ) → OthersSame st new a → ((id : FragId) → id.log.0 ≡ log.0 → front ≤ id.stripe → new.maps a id ≡ None)
    → NothingFrom st.maps log front → NothingFrom new.maps log front
server_still st new a log front same none nothing server id el le = elim (cases_eq server.0 a.0) as (λ _. new.maps server id ≡ None) [
  | inl e ↦ subst (λ (s : ServerId). new.maps s id ≡ None) (sym (same_id server a e)) (none id el le)
  | inr ne ↦ same.maps server id ne ∙ nothing server id el le
]

pub new_server_still : (st new : Servers) (a : ServerId) (next_log : ℕ) → OthersSame st new a → ((id : FragId) → next_log ≤ id.log.0 → new.maps a id ≡ None)
    → NothingOfNew st.maps next_log → NothingOfNew new.maps next_log
new_server_still st new a next_log same none nothing server id le = elim (cases_eq server.0 a.0) as (λ _. new.maps server id ≡ None) [
  | inl e ↦ subst (λ (s : ServerId). new.maps s id ≡ None) (sym (same_id server a e)) (none id le)
  | inr ne ↦ same.maps server id ne ∙ nothing server id le
]
