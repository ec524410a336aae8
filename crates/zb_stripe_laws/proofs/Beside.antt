-- Requests about one stripe leave each other as it is.
use Rattle.std.proofs.Common.{◌≡◌, ℕ, Bool, false, ◌&&◌, cond, eqb, Option, refl, ap, inl, inr}
use Rattle.std.proofs.lemmas.Bool.{ne_eqb, and_left, and_right, cond_both}
use Rattle.zb_types.specs.declared.ids.LogId.{LogId}
use Rattle.zb_types.specs.declared.ids.ServerId.{ServerId}
use Rattle.zb_types.specs.declared.ids.FragId.{FragId}
use Rattle.zb_types.specs.declared.requests.Request.{Request}
use Rattle.zb_types.specs.declared.requests.Request.TheVariants as ask
use Rattle.zb_holding.specs.Fragments.{Fragment}
use Rattle.zb_holding.specs.Placing.{frag_id, server_of}
use Rattle.zb_holding.specs.Holding.{Maps, standing}
use Rattle.zb_holding.specs.Carrying.{stands_after, same_frag, is_about, carried}
use Rattle.zb_stripe_laws.specs.PartAtWork.{IsOfOtherStripe}
use Rattle.zb_stripe_laws.specs.PlanAtWork.{IsBeside}

pub other_name : (q : FragId) (log : LogId) (stripe k : ℕ) → IsOfOtherStripe q log stripe → same_frag q (frag_id log stripe k) ≡ false
other_name q log stripe k (inl ne) = and_left (eqb q.log.0 log.0 && eqb q.stripe stripe) (eqb q.index k) (and_left (eqb q.log.0 log.0) (eqb q.stripe stripe) (ne_eqb q.log.0 log.0 ne))
other_name q log stripe k (inr ne) = and_left (eqb q.log.0 log.0 && eqb q.stripe stripe) (eqb q.index k) (and_right (eqb q.log.0 log.0) (eqb q.stripe stripe) (ne_eqb q.stripe stripe ne))

-- what a request about no fragment of the stripe leaves of one
after_other : (request : Request) (log : LogId) (stripe k : ℕ) (o : Option Fragment) (here : Bool) → IsBeside request log stripe
    → cond (here && is_about request (frag_id log stripe k)) (stands_after request o) o ≡ o
after_other (ask.Store id bytes class) log stripe k o here b = ap (λ t. cond t (stands_after (ask.Store id bytes class) o) o) (and_right here (same_frag id (frag_id log stripe k)) (other_name id log stripe k b))
after_other (ask.Append id place bytes) log stripe k o here b = ap (λ t. cond t (stands_after (ask.Append id place bytes) o) o) (and_right here (same_frag id (frag_id log stripe k)) (other_name id log stripe k b))
after_other (ask.Parity id lengths bytes class) log stripe k o here b = ap (λ t. cond t (stands_after (ask.Parity id lengths bytes class) o) o) (and_right here (same_frag id (frag_id log stripe k)) (other_name id log stripe k b))
after_other (ask.Delete id) log stripe k o here b = ap (λ t. cond t (stands_after (ask.Delete id) o) o) (and_right here (same_frag id (frag_id log stripe k)) (other_name id log stripe k b))
after_other (ask.Retrieve id place len) log stripe k o here b = cond_both (here && same_frag id (frag_id log stripe k)) o o (λ z. z ≡ o) (λ _. refl) (λ _. refl)
after_other (ask.Identify after) log stripe k o here b = cond_both (here && false) o o (λ z. z ≡ o) (λ _. refl) (λ _. refl)
after_other (ask.Fence generation) log stripe k o here b = cond_both (here && false) o o (λ z. z ≡ o) (λ _. refl) (λ _. refl)

pub beside : (n : ℕ) (maps : Maps) (asked : ServerId × Request) (log : LogId) (stripe k : ℕ) → IsBeside asked.1 log stripe
    → standing n (carried maps asked) log stripe k ≡ standing n maps log stripe k
beside n maps asked log stripe k b =
    after_other asked.1 log stripe k (standing n maps log stripe k) (eqb asked.0.0 (server_of n (frag_id log stripe k)).0) b
