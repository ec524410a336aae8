-- Requests beside which a read goes on.
use Rattle.std.proofs.Common.{◌≡◌, ◌⊎◌, ℕ, ◌-◌, ◌<◌, true, ◌&&◌, eqb, List, ◌++◌, length, take, get_or, Option, Some, None, refl, sym, ap, ◌∙◌, inl, inr, arith}
use Rattle.std.proofs.lemmas.Bool.{cond_both, and_parts, false≢true}
use Rattle.std.proofs.lemmas.List.{take_at, take_all}
use Rattle.zb_types.specs.declared.ids.ServerId.{ServerId}
use Rattle.zb_types.specs.declared.ids.FragId.{FragId}
use Rattle.zb_types.specs.declared.requests.Request.{Request}
use Rattle.zb_types.specs.declared.requests.Request.TheVariants as ask
use Rattle.zb_holding.specs.Fragments.{Fragment, share_fragment, parity_fragment}
use Rattle.zb_holding.specs.Placing.{frag_id, server_of}
use Rattle.zb_holding.specs.Holding.{Maps, standing}
use Rattle.zb_holding.specs.Carrying.{stands_after, same_frag, is_about, carried}
use Rattle.zb_holding.proofs.Keys.{same_frag-is}
use Rattle.zb_stripe.specs.Reading.{Reading}
use Rattle.zb_stripe_laws.specs.PartAtWork.{IsOfOtherStripe}
use Rattle.zb_stripe_laws.specs.ReadAtWork.{IsGoneOrSame, IsGoneOrLonger, LetsRead, lengths_seen}
use Rattle.zb_stripe_laws.proofs.Beside.{other_name}

-- a share that is gone, or that still begins as it did, is gone or as long as itself
self_longer : (now seen : Option Fragment) (limit : ℕ) → IsGoneOrSame now seen limit → IsGoneOrLonger now now
self_longer None seen limit still = tt
self_longer (Some (share_fragment s)) seen limit still = sym (take_all (length s) s (omega arith))
self_longer (Some (parity_fragment l p)) None limit still = absurd still
self_longer (Some (parity_fragment l p)) (Some (share_fragment s)) limit still = absurd still
self_longer (Some (parity_fragment l p)) (Some (parity_fragment k q)) limit still = absurd still

appended_longer : (id : FragId) (place : ℕ) (bytes : List ℕ) (o : Option Fragment) → IsGoneOrLonger o o → IsGoneOrLonger (stands_after (ask.Append id place bytes) o) o
appended_longer id place bytes None self = tt
appended_longer id place bytes (Some (share_fragment s)) self =
    cond_both (eqb place (length s)) (s ++ bytes) s (λ (z : List ℕ). s ≡ take (length s) z) (λ _. sym (take_at s bytes (length s) refl)) (λ _. self)
appended_longer id place bytes (Some (parity_fragment l p)) self = absurd self

module _ (r : Reading) (j : ℕ) (low : j < r.servers - 1) (covers : 0 < get_or (lengths_seen r.phase) j 0) where
  abbrev Name : FragId
  Name = frag_id r.ptr.log r.ptr.stripe j

  -- no request that lets the read go on stores or replaces the share
  not_stored : (id : FragId) → IsOfOtherStripe id r.ptr.log r.ptr.stripe ⊎ (get_or (lengths_seen r.phase) id.index 0 ≡ 0) → same_frag id Name ≡ true → ⊥
  not_stored id (inl away) e = false≢true (sym (other_name id r.ptr.log r.ptr.stripe j away) ∙ e)
  not_stored id (inr none) e =
      let at : id.index ≡ j = ap (λ (q : FragId). q.index) (same_frag-is id Name e) in
      omega (arith, ap (λ (k : ℕ). get_or (lengths_seen r.phase) k 0) at)

  not_replaced : (id : FragId) → IsOfOtherStripe id r.ptr.log r.ptr.stripe ⊎ (id.index ≡ r.servers - 1) → same_frag id Name ≡ true → ⊥
  not_replaced id (inl away) e = false≢true (sym (other_name id r.ptr.log r.ptr.stripe j away) ∙ e)
  not_replaced id (inr last) e =
      let at : id.index ≡ j = ap (λ (q : FragId). q.index) (same_frag-is id Name e) in
      omega arith

  after : (request : Request) (o : Option Fragment) → LetsRead r request → IsGoneOrLonger o o → is_about request Name ≡ true → IsGoneOrLonger (stands_after request o) o
  after (ask.Store id bytes class) o lets self about = absurd (not_stored id lets about)
  after (ask.Append id place bytes) o lets self about = appended_longer id place bytes o self
  after (ask.Parity id lengths bytes class) o lets self about = absurd (not_replaced id lets about)
  after (ask.Delete id) o lets self about = tt
  after (ask.Retrieve id place len) o lets self about = self
  after (ask.Identify name) o lets self about = self
  after (ask.Fence generation) o lets self about = self

  pub carried_longer : (maps : Maps) (asked : ServerId × Request) (seen : Option Fragment) (limit : ℕ) → LetsRead r asked.1
      → IsGoneOrSame (standing r.servers maps r.ptr.log r.ptr.stripe j) seen limit
      → IsGoneOrLonger (standing r.servers (carried maps asked) r.ptr.log r.ptr.stripe j) (standing r.servers maps r.ptr.log r.ptr.stripe j)
  carried_longer maps asked seen limit lets still =
      let o = standing r.servers maps r.ptr.log r.ptr.stripe j in
      let here = eqb asked.0.0 (server_of r.servers Name).0 in
      let self = self_longer o seen limit still in
      cond_both (here && is_about asked.1 Name) (stands_after asked.1 o) o (λ z. IsGoneOrLonger z o)
      (λ e. after asked.1 o lets self (and_parts here (is_about asked.1 Name) e).1) (λ _. self)
