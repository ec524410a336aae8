-- Servers of which one was only read.
use Rattle.std.proofs.Common.{◌≡◌, ℕ, zero, suc, ◌<◌, ◌≤◌, ◌+◌, Bool, true, false, cond, List, [], ◌∷◌, length, take, drop, Option, Some, None, refl, sym, ap, ◌∙◌, subst, inl, inr, arith}
use Rattle.std.specs.Prelude.{◌⊎◌, ◌≢◌, nat_le, slice_index_or}
use Rattle.std.specs.Cmp.{IsTotalOrder, nat_cmp_total, on_total, then_total}
use Rattle.std.specs.Ordering.{is_eq}
use Rattle.std.proofs.lemmas.Bool.{cases_eq, cond_both}
use Rattle.std.specs.declared.cmp.Ordering.TheVariants.{Equal}
use Rattle.zb_types.specs.declared.ids.FragId.{FragId}
use Rattle.zb_types.specs.declared.ids.ServerId.{ServerId}
use Rattle.zb_types.specs.declared.requests.Request.{Request}
use Rattle.zb_types.specs.declared.requests.Request.TheVariants as ask
use Rattle.zb_types.specs.declared.requests.Response.{Response}
use Rattle.zb_types.specs.declared.requests.Response.TheVariants as told
use Rattle.zb_types.specs.declared.requests.StoreFault.{StoreFault}
use Rattle.zb_types.specs.declared.requests.StoreFault.TheVariants.{Short}
use Rattle.zb_types.specs.Order.{frag_cmp}
use Rattle.zb_holding.specs.Fragments.{Fragment, parity_fragment, share_fragment}
use Rattle.zb_holding.specs.Carrying.{found}
use Rattle.zb_holding.specs.Rules.{AreSame, Holdings, IsAnswer, IsLeft, IsServed as IsServedAs, has_after, is_done, refusal_of}
use Rattle.zb_holding.proofs.Keys.{same_frag-cmp, same_frag-is}
use Rattle.zb_servers.specs.Standing.{AreOthersSame, Entries, IsInOrder, SeenServer, SeenServers, empty_server, has, server_at, stands_in}
use Rattle.zb_servers.proofs.Naming.{stands-is}
use Rattle.zb_system.specs.Steps.{IsServed}
use Rattle.zb_nodes.specs.Wished.{is_read}
use Rattle.zb_nodes.proofs.Alike.{same_in_order}

-- ---- names in order

frag_total : IsTotalOrder frag_cmp
frag_total = then_total (on_total (λ (a : FragId). a.log.0) nat_cmp_total) (then_total (on_total (λ (a : FragId). a.stripe) nat_cmp_total) (on_total (λ (a : FragId). a.index) nat_cmp_total))

frag_exact : (a b : FragId) → frag_cmp a b ≡ Equal → a ≡ b
frag_exact a b e = same_frag-is a b (sym (same_frag-cmp a b) ∙ ap is_eq e)

-- what has the same under each name is the same
same_entries : (xs ys : Entries) → IsInOrder xs → IsInOrder ys → ((id : FragId) → stands_in xs id ≡ stands_in ys id) → xs ≡ ys
same_entries xs ys one other same =
    same_in_order frag_total frag_exact xs ys one other (λ id. stands-is xs id ∙ same id ∙ sym (stands-is ys id))

-- ---- servers by their numbers

same_servers : (xs ys : List SeenServer) → length xs ≡ length ys → ((n : ℕ) → slice_index_or xs n empty_server ≡ slice_index_or ys n empty_server) → xs ≡ ys
same_servers [] [] count same = refl
same_servers [] (y ∷ ys) count same = absurd (omega (arith, count))
same_servers (x ∷ xs) [] count same = absurd (omega (arith, count))
same_servers (x ∷ xs) (y ∷ ys) count same =
    let rest = same_servers xs ys (omega (arith, count)) (λ n. same (suc n)) in
    (λ i. same zero i ∷ rest i)

module _ (s left : SeenServers) (server : ServerId) (others : AreOthersSame server s left) (count : length left.servers ≡ length s.servers) (slots : left.slots ≡ s.slots)
    (own : server_at left.servers server ≡ server_at s.servers server) where
  each : (n : ℕ) → slice_index_or left.servers n empty_server ≡ slice_index_or s.servers n empty_server
  each n = by (cases_eq (suc n) server.0)
    where
      by : (suc n ≡ server.0) ⊎ (suc n ≢ server.0) → slice_index_or left.servers n empty_server ≡ slice_index_or s.servers n empty_server
      by (inl e) = subst (λ (k : ℕ). slice_index_or (empty_server ∷ left.servers) k empty_server ≡ slice_index_or (empty_server ∷ s.servers) k empty_server) (sym e) own
      by (inr ne) = others (record { 0 = suc n }) (λ e. ne e)

  all_same : left ≡ s
  all_same = let servers = same_servers left.servers s.servers count each in (λ i. record { slots = slots i; servers = servers i })

-- ---- a retrieve

undone : (o : Option Fragment) (place len : ℕ) → is_done (found o place len) ≡ false
undone None place len = refl
undone (Some (share_fragment bytes)) place len =
    cond_both (nat_le (place + len) (length bytes)) (told.Bytes (take len (drop place bytes))) (told.Refused (Short (length bytes))) (λ t. is_done t ≡ false) (λ _. refl) (λ _. refl)
undone (Some (parity_fragment lengths bytes)) place len = refl

-- it isn't answered by `Done`
answered_undone : (had : Holdings) (generation : ℕ) (id : FragId) (place len : ℕ) (response : Response) → IsAnswer had generation (ask.Retrieve id place len) response → is_done response ≡ false
answered_undone had generation id place len response a = by (refusal_of had generation (ask.Retrieve id place len)) a.refused a.served
  where
    by : (o : Option StoreFault) → ((fault : StoreFault) → o ≡ Some fault → response ≡ told.Refused fault) → (o ≡ None → IsServedAs had (ask.Retrieve id place len) response) → is_done response ≡ false
    by None refused served = ap is_done (served refl) ∙ undone (had.map id) place len
    by (Some fault) refused served = ap is_done (refused fault refl)

-- so the server has the same then
left_same : (had now : Holdings) (generation : ℕ) (request : Request) (response : Response) → is_read request ≡ true → IsAnswer had generation request response → IsLeft had request response now → AreSame now had
left_same had now generation (ask.Retrieve id place len) response reads a left =
    subst (λ (b : Bool). AreSame now (cond b (has_after (ask.Retrieve id place len) had) had)) (answered_undone had generation id place len response a) left
left_same had now generation (ask.Store id bytes class) response reads a left = absurd (cc reads)
left_same had now generation (ask.Append id place bytes) response reads a left = absurd (cc reads)
left_same had now generation (ask.Parity id lengths bytes class) response reads a left = absurd (cc reads)
left_same had now generation (ask.Delete id) response reads a left = absurd (cc reads)
left_same had now generation (ask.Identify after) response reads a left = absurd (cc reads)
left_same had now generation (ask.Fence fence) response reads a left = absurd (cc reads)

-- servers of which one was read are as before
pub read_leaves : (s left : SeenServers) (generation : ℕ) (wanted : ServerId × Request) (response : Response) → is_read wanted.1 ≡ true → IsServed s left generation wanted response
    → IsInOrder (server_at s.servers wanted.0).entries → IsInOrder (server_at left.servers wanted.0).entries → left ≡ s
read_leaves s left generation wanted response reads served before after =
    let same = left_same (has s wanted.0) (has left wanted.0) generation wanted.1 response reads served.answer served.left in
    let entries = same_entries (server_at left.servers wanted.0).entries (server_at s.servers wanted.0).entries after before same.map in
    all_same s left wanted.0 served.others served.count served.slots (λ i. record { entries = entries i; fence = same.fence i })
