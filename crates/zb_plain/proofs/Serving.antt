-- What all servers keep once one of them has carried out a request.
use Rattle.std.proofs.Common.{◌≡◌, ℕ, zero, suc, ◌<◌, ◌&&◌, cond, List, [], ◌∷◌, length, refl, sym, ap, ◌∙◌, inl, inr, get_or-set_same, get_or-set_other}
use Rattle.std.specs.Prelude.{slice_index_or, slice_set}
use Rattle.std.proofs.lemmas.List.{get_or_default}
use Rattle.std.proofs.lemmas.Bool.{cases_eq, eq-eqb, ne_eqb}
use Rattle.zb_types.specs.declared.ids.ServerId.{ServerId}
use Rattle.zb_types.specs.declared.ids.FragId.{FragId}
use Rattle.zb_types.specs.declared.requests.Request.{Request}
use Rattle.zb_holding.specs.Carrying.{is_about, stands_after, carried}
use Rattle.zb_plain.specs.Standing.{Entries, stands_in, entries_of, maps_of, IsAfter}

module _ (servers : List Entries) (server : ServerId) (request : Request) (new : Entries) (at : ℕ) (place : server.0 ≡ suc at) where
  -- what a server keeps then, counted from 0 in front of the first
  now_of : ℕ → Entries
  now_of k = slice_index_or ([] ∷ slice_set servers at new) k []

  other_same : (k : ℕ) → (server.0 ≡ k → ⊥) → now_of k ≡ slice_index_or ([] ∷ servers) k []
  unfolding now_of
  other_same zero ne = refl
  other_same (suc k) ne = get_or-set_other servers at k new [] (λ e. ne (place ∙ ap suc (sym e)))

  own_new : (k : ℕ) → server.0 ≡ k → at < length servers → now_of k ≡ new
  unfolding now_of
  own_new k e below = ap (λ n. slice_index_or ([] ∷ slice_set servers at new) n []) (sym e ∙ place) ∙ get_or-set_same servers at new [] below

  pub maps-carried : at < length servers → IsAfter (entries_of servers server) new request → maps_of (slice_set servers at new) ≡ carried (maps_of servers) (server, request)
  unfolding now_of
  maps-carried below after = λ i other id. each other id i
    where
      each : (other : ServerId) (id : FragId) → maps_of (slice_set servers at new) other id ≡ carried (maps_of servers) (server, request) other id
      each other id = elim (cases_eq server.0 other.0) [
        | inl e ↦
            let own = ap (λ (n : ℕ). slice_index_or ([] ∷ servers) n []) e in
            let stood = maps_of servers other id in
            ap (λ (entries : Entries). stands_in entries id) (own_new other.0 e below) ∙ after id
            ∙ ap (λ (entries : Entries). cond (is_about request id) (stands_after request (stands_in entries id)) (stands_in entries id)) own
            ∙ sym (ap (λ b. cond (b && is_about request id) (stands_after request stood) stood) (eq-eqb server.0 other.0 e))
        | inr ne ↦
            let stood = maps_of servers other id in
            ap (λ (entries : Entries). stands_in entries id) (other_same other.0 ne)
            ∙ sym (ap (λ b. cond (b && is_about request id) (stands_after request stood) stood) (ne_eqb server.0 other.0 ne))
      ]

-- what is read at a server's place is what that server keeps
pub entries-read : (servers : List Entries) (server : ServerId) (at : ℕ) (read : Entries) → server.0 ≡ suc at → at < length servers → read ≡ slice_index_or servers at read → read ≡ entries_of servers server
entries-read servers server at read place below is = is ∙ get_or_default servers at read [] below ∙ sym (ap (λ n. slice_index_or ([] ∷ servers) n []) place)
