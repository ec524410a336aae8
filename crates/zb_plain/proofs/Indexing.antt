-- Requests that leave each fragment where its index says.
use Rattle.std.proofs.Common.{◌≡◌, ◌≢◌, ℕ, zero, suc, ◌-◌, ◌&&◌, eqb, List, [], ◌∷◌, length, take, Option, Some, None, refl, ap, subst, arith, true}
use Rattle.std.specs.Prelude.{replicate, slice_index_or}
use Rattle.std.specs.List.{AllByRecursion}
use Rattle.std.proofs.lemmas.Bool.{cond_both, and_parts}
use Rattle.std.proofs.lemmas.List.FromFn.{length-map-range_with_len}
use Rattle.zb_types.specs.declared.ids.ServerId.{ServerId}
use Rattle.zb_types.specs.declared.ids.FragId.{FragId}
use Rattle.zb_types.specs.declared.nodes.Class.{Class}
use Rattle.zb_types.specs.declared.requests.Request.{Request}
use Rattle.zb_types.specs.declared.requests.Request.TheVariants as ask
use Rattle.zb_holding.specs.Fragments.{Fragment, share_fragment, parity_fragment}
use Rattle.zb_holding.specs.Placing.{share_length, frag_id}
use Rattle.zb_holding.specs.Holding.{Maps}
use Rattle.zb_holding.specs.Carrying.{stands_after, is_about, carried, carried_all}
use Rattle.zb_stripe.specs.declared.flush.Flush.{Flush}
use Rattle.zb_stripe.specs.Writing.{grow, new_bytes, plan_requests}
use Rattle.zb_plain.specs.Standing.{Entries, maps_of, stands_in}
use Rattle.zb_plain.specs.Indexed.{FitsIndex, AllFitIndex}
use Rattle.zb_holding.proofs.Keys.{same_frag-is}
use Rattle.zb_plain.proofs.Planned.{Requests, each_request, each_first}

-- a request that puts a fragment to its index
abbrev PutsToIndex : ℕ → Request → Type 0
PutsToIndex n (ask.Store id bytes class) = id.index ≢ n - 1
PutsToIndex n (ask.Parity id lengths bytes class) = (id.index ≡ n - 1) × (length lengths ≡ n - 1)
PutsToIndex n request = Unit {0}

kept : (n : ℕ) (q : FragId) (r : Request) (o : Option Fragment) → PutsToIndex n r → is_about r q ≡ true → FitsIndex n q o → FitsIndex n q (stands_after r o)
kept n q (ask.Store id bytes class) None puts about fits = subst (λ (k : FragId). k.index ≢ n - 1) (same_frag-is id q about) puts
kept n q (ask.Store id bytes class) (Some fragment) puts about fits = fits
kept n q (ask.Append id place bytes) None puts about fits = tt
kept n q (ask.Append id place bytes) (Some (share_fragment share)) puts about fits = fits
kept n q (ask.Append id place bytes) (Some (parity_fragment lengths parity)) puts about fits = fits
kept n q (ask.Parity id lengths bytes class) o puts about fits = (subst (λ (k : FragId). k.index ≡ n - 1) (same_frag-is id q about) puts.0, puts.1)
kept n q (ask.Retrieve id place len) o puts about fits = fits
kept n q (ask.Delete id) o puts about fits = tt
kept n q (ask.Identify after) o puts about fits = fits
kept n q (ask.Fence generation) o puts about fits = fits

abbrev Puts : ℕ → ServerId × Request → Type 0
Puts n asked = PutsToIndex n asked.1

all_kept : (n : ℕ) (rs : Requests) (maps : Maps) → AllByRecursion (Puts n) rs → AllFitIndex n maps → AllFitIndex n (carried_all maps rs)
all_kept n [] maps puts fit = fit
all_kept n (r ∷ rs) maps puts fit = all_kept n rs (carried maps r) puts.1 (λ server id.
    cond_both (eqb r.0.0 server.0 && is_about r.1 id) (stands_after r.1 (maps server id)) (maps server id) (FitsIndex n id)
    (λ about. kept n id r.1 (maps server id) puts.0 (and_parts (eqb r.0.0 server.0) (is_about r.1 id) about).1 (fit server id)) (λ _. fit server id))

grow_puts : (n : ℕ) (id : FragId) (class : Class) (had : ℕ) (bytes : List ℕ) → id.index ≢ n - 1 → PutsToIndex n (grow id class had bytes)
grow_puts n id class had bytes other = cond_both (eqb had 0) (ask.Store id bytes class) (ask.Append id had bytes) (PutsToIndex n) (λ _. other) (λ _. tt)

-- the first requests of a plan put fragments to their indexes
pub plan_fits_index : (n f : ℕ) (maps : Maps) (out : Option ServerId) (class : Class) (flush : Flush) (i : ℕ) → AllFitIndex n maps → AllFitIndex n (carried_all maps (take i (plan_requests n f out class flush)))
plan_fits_index n f maps out class flush i fit =
    let plan = plan_requests n f out class flush in
    all_kept n (take i plan) maps
    (each_first (Puts n) i plan
    (each_request (Puts n) n f out class flush.log
    (λ part k below. grow_puts n (frag_id flush.log part.stripe k) class (share_length f part.begin k) (new_bytes f part k) (λ e. omega (arith, below, e)))
    (λ part. (refl, length-map-range_with_len (share_length f (length part.bytes)) 0 (n - 1)))
    flush.parts))
    fit

-- ---- where nothing is kept

none_at : (count k : ℕ) → slice_index_or (replicate {A = Entries} count []) k [] ≡ []
none_at zero k = refl
none_at (suc count) zero = refl
none_at (suc count) (suc k) = none_at count k

nothing_at : (count k : ℕ) → slice_index_or ([] ∷ replicate {A = Entries} count []) k [] ≡ []
nothing_at count zero = refl
nothing_at count (suc k) = none_at count k

pub nothing_stands : (count : ℕ) (server : ServerId) (id : FragId) → maps_of (replicate count []) server id ≡ None
nothing_stands count server id = ap (λ (entries : Entries). stands_in entries id) (nothing_at count server.0)
