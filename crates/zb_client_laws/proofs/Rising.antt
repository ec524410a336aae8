-- The requests of a flush go up its stripes.
use Rattle.std.proofs.Common.{◌≡◌, ℕ, zero, suc, ◌-◌, ◌<◌, ◌≤◌, eqb, List, [], ◌∷◌, ◌++◌, length, get_or, Option, refl, sym, subst, arith}
use Rattle.std.specs.List.{flat_map}
use Rattle.std.proofs.lemmas.Bool.{cond_both}
use Rattle.zb_types.specs.declared.ids.FragId.{FragId}
use Rattle.zb_types.specs.declared.ids.LogId.{LogId}
use Rattle.zb_types.specs.declared.ids.ServerId.{ServerId}
use Rattle.zb_types.specs.declared.nodes.Class.{Class}
use Rattle.zb_types.specs.declared.requests.Request.{Request}
use Rattle.zb_types.specs.declared.requests.Request.TheVariants as ask
use Rattle.zb_holding.specs.Placing.{frag_id, server_of, share_length}
use Rattle.zb_holding.specs.Holding.{is_away}
use Rattle.zb_stripe.specs.declared.flush.Flush.{Flush}
use Rattle.zb_stripe.specs.declared.flush.Part.{Part}
use Rattle.zb_stripe.specs.Writing.{StripesRise, grow, lengths_of, new_bytes, parity_bytes, parity_request, part_requests, plan_requests, share_request, share_requests, unless_out}
use Rattle.zb_sound.specs.LastFlush.{stripe_of as changed_stripe}
use Rattle.zb_basis.specs.Delivering.{stripe_of}

abbrev Requests : Type 0
Requests = List (ServerId × Request)

-- the stripe that a request changes, as a log and as a batch has it
pub same_stripe : (r : Request) → changed_stripe r ≡ stripe_of r
same_stripe (ask.Store id bytes class) = refl
same_stripe (ask.Append id place bytes) = refl
same_stripe (ask.Parity id lengths bytes class) = refl
same_stripe (ask.Retrieve id place len) = refl
same_stripe (ask.Delete id) = refl
same_stripe (ask.Identify after) = refl
same_stripe (ask.Fence generation) = refl

-- requests of one stripe
abbrev AllAt : ℕ → Requests → Type 0
AllAt s [] = Unit {0}
AllAt s (r ∷ rs) = (stripe_of r.1 ≡ s) × AllAt s rs

-- none is of a lower stripe than the one before
abbrev Up : ℕ → Requests → Type 0
Up low [] = Unit {0}
Up low (r ∷ rs) = (low ≤ stripe_of r.1) × Up (stripe_of r.1) rs

both_at : (s : ℕ) (xs ys : Requests) → AllAt s xs → AllAt s ys → AllAt s (xs ++ ys)
both_at s [] ys a b = b
both_at s (x ∷ xs) ys a b = (a.0, both_at s xs ys a.1 b)

up_lower : (low s : ℕ) (rs : Requests) → low ≤ s → Up s rs → Up low rs
up_lower low s [] le up = tt
up_lower low s (r ∷ rs) le up = (let more = up.0 in omega arith, up.1)

up_behind : (low s : ℕ) (xs ys : Requests) → low ≤ s → AllAt s xs → Up s ys → Up low (xs ++ ys)
up_behind low s [] ys le a up = up_lower low s ys le up
up_behind low s (x ∷ xs) ys le a up =
    (let e = a.0 in omega (arith, e), subst (λ (k : ℕ). Up k (xs ++ ys)) (sym a.0) (up_behind s s xs ys (omega arith) a.1 up))

module _ (n f : ℕ) (out : Option ServerId) (class : Class) (log : LogId) where
  one_at : (id : FragId) (request : Request) → stripe_of request ≡ id.stripe → AllAt id.stripe (unless_out n out id request)
  one_at id request e = cond_both (is_away out (server_of n id)) [] ((server_of n id, request) ∷ []) (AllAt id.stripe) (λ _. tt) (λ _. (e, tt))

  grow_at : (id : FragId) (had : ℕ) (bytes : List ℕ) → stripe_of (grow id class had bytes) ≡ id.stripe
  grow_at id had bytes = cond_both (eqb had 0) (ask.Store id bytes class) (ask.Append id had bytes) (λ (r : Request). stripe_of r ≡ id.stripe) (λ _. refl) (λ _. refl)

  share_at : (part : Part) (k : ℕ) → AllAt part.stripe (share_request n f out class log part k)
  share_at part k =
      let id = frag_id log part.stripe k in
      let new = new_bytes f part k in
      let request = grow id class (share_length f part.begin k) new in
      cond_both (eqb (length new) 0) [] (unless_out n out id request) (AllAt part.stripe) (λ _. tt) (λ _. one_at id request (grow_at id (share_length f part.begin k) new))

  shares_at : (part : Part) (k : ℕ) → AllAt part.stripe (share_requests n f out class log part k)
  shares_at part zero = tt
  shares_at part (suc k) = both_at part.stripe (share_requests n f out class log part k) (share_request n f out class log part k) (shares_at part k) (share_at part k)

  part_at : (part : Part) → AllAt part.stripe (part_requests n f out class log part)
  part_at part =
      both_at part.stripe (share_requests n f out class log part (n - 1)) (parity_request n f out class log part) (shares_at part (n - 1))
      (one_at (frag_id log part.stripe (n - 1)) (ask.Parity (frag_id log part.stripe (n - 1)) (lengths_of n f part) (parity_bytes n f part) class) refl)

  parts_up : (low : ℕ) (parts : List Part) → StripesRise parts → ((i : ℕ) (d : Part) → i < length parts → low ≤ (get_or parts i d).stripe) → Up low (flat_map (part_requests n f out class log) parts)
  parts_up low [] rise above = tt
  parts_up low (p ∷ ps) rise above =
      up_behind low p.stripe (part_requests n f out class log p) (flat_map (part_requests n f out class log) ps) (above 0 p (omega arith)) (part_at p)
      (parts_up p.stripe ps (λ i j d lt below. rise (suc i) (suc j) d (omega arith) (omega arith)) (λ i d l. let r = rise 0 (suc i) d (omega arith) (omega arith) in omega arith))

next_up : (low : ℕ) (done : Requests) (a q : ServerId × Request) (rest : Requests) → Up low (done ++ a ∷ (q ∷ rest)) → stripe_of a.1 ≤ stripe_of q.1
next_up low [] a q rest up = up.1.0
next_up low (d ∷ done) a q rest up = next_up (stripe_of d.1) done a q rest up.1

-- a request of a flush's plan is of no lower stripe than the one before
pub plan_up : (n f : ℕ) (out : Option ServerId) (class : Class) (flush : Flush) (done : Requests) (a q : ServerId × Request) (rest : Requests)
    → StripesRise flush.parts → plan_requests n f out class flush ≡ done ++ a ∷ (q ∷ rest) → stripe_of a.1 ≤ stripe_of q.1
plan_up n f out class flush done a q rest rise is =
    next_up 0 done a q rest (subst (λ (rs : Requests). Up 0 rs) is (parts_up n f out class flush.log 0 flush.parts rise (λ i d l. omega arith)))
