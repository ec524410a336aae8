-- The sizes that a store knows once it has answered.
use Rattle.std.proofs.Common.{◌≡◌, ◌≢◌, ◌⊎◌, inl, inr, ⊎_elim, ℕ, ◌+◌, ◌-◌, ◌<◌, nat_lt, Bool, true, false, if◌then◌else◌, Result, Ok, Err, OnOk, IfErr, Option, None, Some, refl, sym, ◌∙◌, ap, arith}
use Rattle.std.specs.Prelude.{option_map}
use Rattle.std.proofs.lemmas.Bool.{false≢true}
use Rattle.std.proofs.lemmas.Bool.Decides.{nat_tests}
use Rattle.zb_types.specs.declared.geometry.Geometry.{Geometry}
use Rattle.zb_types.specs.declared.ids.FragId.{FragId}
use Rattle.zb_types.specs.declared.requests.Request.{Request}
use Rattle.zb_types.specs.declared.requests.StoreFault.{StoreFault}
use Rattle.zb_types.specs.declared.requests.StoreFault.TheVariants.{Stopped}
use Rattle.zb_holding.specs.Carrying.{same_frag}
use Rattle.zb_holding.specs.Rules.{Size, share_size, parity_size}
use Rattle.zb_holding.proofs.Keys.{same_frag-is}
use Rattle.zb_fragstore.specs.Seen.{SeenStore, IsStoreOf, ChangesLength, is_share, length_of, size_by, size_in}
use Rattle.zb_fragstore.proofs.Outlined.{sized, by_length}
use Rattle.zb_fragstore.specs.Answers.{HasStopped}
use Rattle.zb_fragstore.specs.Appending.{HasGrown}
use Rattle.zb_server.specs.Answering.{IsSizePut, AreSizesAfter, AreSizesLeft}
use Rattle.zb_server.proofs.Answered.{Said, stopped_is}

abbrev with_servers : ℕ → FragId → Option ℕ → Option Size
with_servers n id len = option_map (size_by (nat_lt (id.index + 1) n) (n - 1)) len

pub put_size : (id : FragId) (len : Option ℕ) (size : Option Size) (old new : SeenStore) → IsStoreOf old.geo old.server new → sized old id len ≡ size → ChangesLength id len old new → IsSizePut id size (size_in old) (size_in new)
put_size id len size old new is size_is h q =
    by_length new q
    ∙ ap (λ (g : Geometry). with_servers g.servers q (length_of new q)) is.geo_is
    ∙ ap (sized old q) (h.lengths q)
    ∙ pick (same_frag id q) refl
  where
    pick : (b : Bool) → same_frag id q ≡ b → sized old q (if b then len else length_of old q) ≡ (if b then size else size_in old q)
    pick true e = ap (λ (p : FragId). sized old p len) (sym (same_frag-is id q e)) ∙ size_is
    pick false e = sym (by_length old q)

same_sizes : (old new : SeenStore) → new ≡ old → (q : FragId) → size_in new q ≡ size_in old q
same_sizes old new same q = ap (λ (s : SeenStore). size_in s q) same

-- each change
module _ (old new : SeenStore) (is : IsStoreOf old.geo old.server new) (r : Result (Unit {0}) StoreFault) (id : FragId) where
  pub share_sized : (len : ℕ) → id.index + 1 < old.geo.servers → OnOk r (ChangesLength id (Some len) old new) → OnOk r (IsSizePut id (Some (share_size len)) (size_in old) (size_in new))
  share_sized len below = pick r
    where
      share : is_share old id ≡ true
      share = grind (arith, nat_tests)

      pick : (s : Result (Unit {0}) StoreFault) → OnOk s (ChangesLength id (Some len) old new) → OnOk s (IsSizePut id (Some (share_size len)) (size_in old) (size_in new))
      pick (Ok u) h = put_size id (Some len) (Some (share_size len)) old new is (ap (λ (b : Bool). Some (size_by b (old.geo.servers - 1) len)) share) h
      pick (Err fault) h = tt

  pub parity_sized : (count len : ℕ) → id.index + 1 ≡ old.geo.servers → count + 1 ≡ old.geo.servers → OnOk r (ChangesLength id (Some len) old new) → OnOk r (IsSizePut id (Some (parity_size count len)) (size_in old) (size_in new))
  parity_sized count len last all = pick r
    where
      parity : is_share old id ≡ false
      parity = grind (arith, nat_tests)

      count_is : old.geo.servers - 1 ≡ count
      count_is = omega (arith, all)

      pick : (s : Result (Unit {0}) StoreFault) → OnOk s (ChangesLength id (Some len) old new) → OnOk s (IsSizePut id (Some (parity_size count len)) (size_in old) (size_in new))
      pick (Ok u) h = put_size id (Some len) (Some (parity_size count len)) old new is (ap (λ (b : Bool). Some (size_by b (old.geo.servers - 1) len)) parity ∙ ap (λ (n : ℕ). Some (parity_size n len)) count_is) h
      pick (Err fault) h = tt

  pub gone_sized : OnOk r (ChangesLength id None old new) → OnOk r (IsSizePut id None (size_in old) (size_in new))
  gone_sized = pick r
    where
      pick : (s : Result (Unit {0}) StoreFault) → OnOk s (ChangesLength id None old new) → OnOk s (IsSizePut id None (size_in old) (size_in new))
      pick (Ok u) h = put_size id None None old new is refl h
      pick (Err fault) h = tt

  -- an append changes the length of a share, or nothing
  abbrev Grows : (place len : ℕ) → Type 0
  Grows place len = ((q : FragId) → size_in new q ≡ size_in old q) ⊎ ((size_in old id ≡ Some (share_size place)) × IsSizePut id (Some (share_size (place + len))) (size_in old) (size_in new))

  pub grown_sized : (place len : ℕ) → OnOk r (HasGrown id place len old new) → OnOk r (Grows place len)
  grown_sized place len = pick r
    where
      as_share : is_share old id ≡ true → (n : ℕ) → sized old id (Some n) ≡ Some (share_size n)
      as_share share n = ap (λ (b : Bool). Some (size_by b (old.geo.servers - 1) n)) share

      pick : (s : Result (Unit {0}) StoreFault) → OnOk s (HasGrown id place len old new) → OnOk s (Grows place len)
      pick (Ok u) h =
          ⊎_elim
          (λ same. inl (same_sizes old new same))
          (λ grown. inr (by_length old id ∙ ap (sized old id) grown.1.0 ∙ as_share grown.0 place, put_size id (Some (place + len)) (Some (share_size (place + len))) old new is (as_share grown.0 (place + len)) grown.1.1))
          h
      pick (Err fault) h = tt

pub raised_sized : (fence : ℕ) (old new : SeenStore) (r : Result (Unit {0}) StoreFault) → OnOk r (new ≡ record old { fence = fence }) → OnOk r ((q : FragId) → size_in new q ≡ size_in old q)
raised_sized fence old new (Ok u) h = λ q. ap (λ (s : SeenStore). size_in s q) h
raised_sized fence old new (Err fault) h = tt

-- what was done has its sizes, and after a refusal they are as before
pub sizes_left : (request : Request) (old new : SeenStore) (r : Result (Unit {0}) StoreFault) → OnOk r (AreSizesAfter request (size_in old) (size_in new)) → IfErr r (λ fault. fault ≢ Stopped → new ≡ old)
    → (HasStopped r → ⊥) → AreSizesLeft request (Said r) (size_in old) (size_in new)
sizes_left request old new (Ok u) after same runs = record { done = λ e. after; same = λ e. absurd (false≢true (sym e)) }
sizes_left request old new (Err fault) after same runs = record { done = λ e. absurd (false≢true e); same = λ e. same_sizes old new (same (λ stop. runs (stopped_is (Unit {0}) fault stop))) }
