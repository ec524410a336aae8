-- What is answered is carried out.
use Rattle.std.proofs.Common.{◌≡◌, ℕ, suc, ◌<◌, ◌+◌, Bool, true, false, cond, ◌&&◌, leb, List, length, take, drop, Option, Some, None, Result, Ok, Err, IfOk, refl, sym, ap, ◌∙◌, subst, inl, inr}
use Rattle.std.specs.Prelude.{slice_set}
use Rattle.std.proofs.lemmas.Bool.{cases_eq, eq-eqb, ne_eqb, false≢true, cond_both}
use Rattle.zb_types.specs.declared.ids.ServerId.{ServerId}
use Rattle.zb_types.specs.declared.ids.FragId.{FragId}
use Rattle.zb_types.specs.declared.requests.Request.{Request}
use Rattle.zb_types.specs.declared.requests.Request.TheVariants as ask
use Rattle.zb_types.specs.declared.requests.Response.{Response}
use Rattle.zb_types.specs.declared.requests.Response.TheVariants as told
use Rattle.zb_types.specs.declared.requests.StoreFault.{StoreFault}
use Rattle.zb_types.specs.declared.requests.StoreFault.TheVariants.{Short}
use Rattle.zb_holding.specs.Fragments.{Fragment, share_fragment, parity_fragment}
use Rattle.zb_holding.specs.Carrying.{same_frag, is_about, stands_after, found, carried}
use Rattle.zb_holding.specs.Rules.{Holdings, refusal_of, IsServed, IsAnswer, IsLeft, AreSame, is_done, has_after, map_after}
use Rattle.zb_servers.specs.Standing.{SeenServer, server_at, stands_in, holdings_of, has, maps_of}
use Rattle.zb_servers.specs.Serving.{is_refused}
use Rattle.zb_servers.proofs.Placed.{IsPlaced, other-same, own-new}

-- a retrieve is never answered by `Done`
found_undone : (o : Option Fragment) (place len : ℕ) → is_done (found o place len) ≡ false
found_undone None place len = refl
found_undone (Some (share_fragment bytes)) place len =
    cond_both (leb (place + len) (length bytes)) (told.Bytes (take len (drop place bytes))) (told.Refused (Short (length bytes))) (λ t. is_done t ≡ false) (λ _. refl) (λ _. refl)
found_undone (Some (parity_fragment lengths bytes)) place len = refl

cond_twice : (b : Bool) (o : Option Fragment) → o ≡ cond b o o
cond_twice true o = refl
cond_twice false o = refl

module _ (had now : Holdings) where
  done_left : (request : Request) (answer : Response) → answer ≡ told.Done → IsLeft had request answer now → (id : FragId) → now.map id ≡ map_after request had.map id
  done_left request answer is left = (subst (λ (t : Response). IsLeft had request t now) is left).map

  same_left : (request : Request) (answer : Response) → is_done answer ≡ false → IsLeft had request answer now → (id : FragId) → now.map id ≡ had.map id
  same_left request answer is left = (subst (λ b. AreSame now (cond b (has_after request had) had)) is left).map

  served_left : (request : Request) (answer : Response) → IsServed had request answer → IsLeft had request answer now → (id : FragId) → now.map id ≡ map_after request had.map id
  served_left (ask.Store id bytes class) answer is left = done_left (ask.Store id bytes class) answer is left
  served_left (ask.Append id place bytes) answer is left = done_left (ask.Append id place bytes) answer is left
  served_left (ask.Parity id lengths bytes class) answer is left = done_left (ask.Parity id lengths bytes class) answer is left
  served_left (ask.Retrieve id place len) answer is left =
      λ q. same_left (ask.Retrieve id place len) answer (ap is_done is ∙ found_undone (had.map id) place len) left q ∙ cond_twice (same_frag id q) (had.map q)
  served_left (ask.Delete id) answer is left = done_left (ask.Delete id) answer is left
  served_left (ask.Identify after) answer is left = same_left (ask.Identify after) answer (ap is_done is.told) left
  served_left (ask.Fence generation) answer is left = done_left (ask.Fence generation) answer is left

  -- a request that isn't refused leaves what it should
  pub answered_left : (generation : ℕ) (request : Request) (answer : Response) → IsAnswer had generation request answer → IsLeft had request answer now → is_refused answer ≡ false
      → (id : FragId) → now.map id ≡ map_after request had.map id
  answered_left generation request answer rules left unrefused = by (refusal_of had generation request) rules.refused rules.served
    where
      by : (o : Option StoreFault) → ((fault : StoreFault) → o ≡ Some fault → answer ≡ told.Refused fault) → (o ≡ None → IsServed had request answer)
          → (id : FragId) → now.map id ≡ map_after request had.map id
      by None refused served = served_left request answer (served refl) left
      by (Some fault) refused served = absurd (false≢true (sym unrefused ∙ ap is_refused (refused fault refl)))

-- once one server has carried out a request, all together have
pub maps-carried : (slots : ℕ) (servers : List SeenServer) (server : ServerId) (request : Request) (new : SeenServer) (at : ℕ) → server.0 ≡ suc at → at < length servers
    → ((id : FragId) → stands_in new.entries id ≡ map_after request (stands_in (server_at servers server).entries) id)
    → maps_of (record { slots = slots; servers = slice_set servers at new }) ≡ carried (maps_of (record { slots = slots; servers = servers })) (server, request)
maps-carried slots servers server request new at place below after = λ i other id. each other id i
  where
    each : (other : ServerId) (id : FragId) → stands_in (server_at (slice_set servers at new) other).entries id
        ≡ carried (maps_of (record { slots = slots; servers = servers })) (server, request) other id
    each other id = elim (cases_eq other.0 server.0) [
      | inl e ↦
          let same : server ≡ other = λ i. record { 0 = sym e i } in
          let stood = stands_in (server_at servers other).entries id in
          ap (λ (s : SeenServer). stands_in s.entries id) (own-new servers server new at place other e below) ∙ after id
          ∙ ap (λ (k : ServerId). map_after request (stands_in (server_at servers k).entries) id) same
          ∙ sym (ap (λ b. cond (b && is_about request id) (stands_after request stood) stood) (eq-eqb server.0 other.0 (sym e)))
      | inr ne ↦
          let stood = stands_in (server_at servers other).entries id in
          ap (λ (s : SeenServer). stands_in s.entries id) (other-same servers server new at place other (λ e. absurd (ne e)))
          ∙ sym (ap (λ b. cond (b && is_about request id) (stands_after request stood) stood) (ne_eqb server.0 other.0 (λ e. ne (sym e))))
    ]

module _ (slots : ℕ) (servers : List SeenServer) (server : ServerId) (at : ℕ) (read new : SeenServer) (request : Request) (p : IsPlaced servers server at read) where
  -- what that server has then
  pub left_there : {E : Type 0} (r : Result Response E) → IfOk r (λ answer. IsLeft (holdings_of slots read) request answer (holdings_of slots new))
      → IfOk r (λ answer. IsLeft (has (record { slots = slots; servers = servers }) server) request answer (has (record { slots = slots; servers = slice_set servers at new }) server))
  left_there (Ok answer) left =
      subst (λ (s : SeenServer). IsLeft (holdings_of slots (server_at servers server)) request answer (holdings_of slots s)) (sym (own-new servers server new at p.place server refl p.below))
      (subst (λ (s : SeenServer). IsLeft (holdings_of slots s) request answer (holdings_of slots new)) p.is left)
  left_there (Err e) left = tt

  -- what all of them have under each name, where the answer isn't a refusal
  pub all_carried : (generation : ℕ) {E : Type 0} (r : Result Response E) → IfOk r (IsAnswer (holdings_of slots read) generation request)
      → IfOk r (λ answer. IsLeft (holdings_of slots read) request answer (holdings_of slots new))
      → IfOk r (λ answer. is_refused answer ≡ false
      → maps_of (record { slots = slots; servers = slice_set servers at new }) ≡ carried (maps_of (record { slots = slots; servers = servers })) (server, request))
  all_carried generation (Ok answer) rules left = λ unrefused.
      maps-carried slots servers server request new at p.place p.below
      (subst (λ (s : SeenServer). (id : FragId) → stands_in new.entries id ≡ map_after request (stands_in s.entries) id) p.is
      (answered_left (holdings_of slots read) (holdings_of slots new) generation request answer rules left unrefused))
  all_carried generation (Err e) rules left = tt
