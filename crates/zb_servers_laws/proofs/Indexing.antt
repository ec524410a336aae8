-- Requests that leave each fragment where its index says.
use Rattle.std.proofs.Common.{◌≡◌, ◌≢◌, ℕ, ◌-◌, ◌&&◌, eqb, List, length, Option, Some, None, refl, subst, arith, true}
use Rattle.std.specs.Prelude.{slice_get}
use Rattle.std.proofs.lemmas.Bool.{cond_both, and_parts}
use Rattle.std.proofs.lemmas.List.FromFn.{length-map-range_with_len}
use Rattle.zb_types.specs.declared.ids.ServerId.{ServerId}
use Rattle.zb_types.specs.declared.ids.FragId.{FragId}
use Rattle.zb_types.specs.declared.nodes.Class.{Class}
use Rattle.zb_types.specs.declared.requests.Request.{Request}
use Rattle.zb_types.specs.declared.requests.Request.TheVariants as ask
use Rattle.zb_holding.specs.Fragments.{Fragment, share_fragment, parity_fragment}
use Rattle.zb_holding.specs.Placing.{share_length, frag_id}
use Rattle.zb_holding.specs.Holding.{Maps}
use Rattle.zb_holding.specs.Carrying.{stands_after, is_about, carried}
use Rattle.zb_holding.proofs.Keys.{same_frag-is}
use Rattle.zb_stripe.specs.declared.flush.Flush.{Flush}
use Rattle.zb_stripe.specs.Writing.{grow, new_bytes, plan_requests}
use Rattle.zb_servers_laws.specs.Indexed.{FitsIndex, AllFitIndex, PutsToIndex}
use Rattle.zb_servers_laws.proofs.Planned.{each_request, each_at}

-- what stands under a request's name then
fits_after : (n : ℕ) (q : FragId) (r : Request) (o : Option Fragment) → PutsToIndex n r → is_about r q ≡ true → FitsIndex n q o → FitsIndex n q (stands_after r o)
fits_after n q (ask.Store id bytes class) None puts about fits = subst (λ (k : FragId). k.index ≢ n - 1) (same_frag-is id q about) puts
fits_after n q (ask.Store id bytes class) (Some fragment) puts about fits = fits
fits_after n q (ask.Append id place bytes) None puts about fits = tt
fits_after n q (ask.Append id place bytes) (Some (share_fragment share)) puts about fits = fits
fits_after n q (ask.Append id place bytes) (Some (parity_fragment lengths parity)) puts about fits = fits
fits_after n q (ask.Parity id lengths bytes class) o puts about fits = (subst (λ (k : FragId). k.index ≡ n - 1) (same_frag-is id q about) puts.0, puts.1)
fits_after n q (ask.Retrieve id place len) o puts about fits = fits
fits_after n q (ask.Delete id) o puts about fits = tt
fits_after n q (ask.Identify after) o puts about fits = fits
fits_after n q (ask.Fence generation) o puts about fits = fits

-- each of them still fits once such a request was carried out
pub all_kept : (n : ℕ) (maps : Maps) (asked : ServerId × Request) → PutsToIndex n asked.1 → AllFitIndex n maps → AllFitIndex n (carried maps asked)
all_kept n maps asked puts fit server id =
    cond_both (eqb asked.0.0 server.0 && is_about asked.1 id) (stands_after asked.1 (maps server id)) (maps server id) (FitsIndex n id)
    (λ about. fits_after n id asked.1 (maps server id) puts (and_parts (eqb asked.0.0 server.0) (is_about asked.1 id) about).1 (fit server id)) (λ _. fit server id)

grow_puts : (n : ℕ) (id : FragId) (class : Class) (had : ℕ) (bytes : List ℕ) → id.index ≢ n - 1 → PutsToIndex n (grow id class had bytes)
grow_puts n id class had bytes other = cond_both (eqb had 0) (ask.Store id bytes class) (ask.Append id had bytes) (PutsToIndex n) (λ _. other) (λ _. tt)

-- each request of a plan puts its fragment to its index
pub plan_puts : (n f : ℕ) (out : Option ServerId) (class : Class) (flush : Flush) (i : ℕ) (asked : ServerId × Request) → slice_get (plan_requests n f out class flush) i ≡ Some asked → PutsToIndex n asked.1
plan_puts n f out class flush i asked is =
    each_at (λ a. PutsToIndex n a.1) (plan_requests n f out class flush) i asked
    (each_request (λ a. PutsToIndex n a.1) n f out class flush.log
    (λ part k below. grow_puts n (frag_id flush.log part.stripe k) class (share_length f part.begin k) (new_bytes f part k) (λ e. omega (arith, below, e)))
    (λ part. (refl, length-map-range_with_len (share_length f (length part.bytes)) 0 (n - 1)))
    flush.parts)
    is
